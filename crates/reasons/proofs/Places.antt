-- A text keeps a rule exactly if no place of it breaks the rule.
-- Assumes nothing.
use Prim.Native.Nat.{ℕ, suc, ◌+◌, ◌≤◌}
use native.Mathlib.Omega.{arith}
use mathlib.Core.Path.{◌≡◌, refl, sym, ap, ◌∙◌}
use mathlib.Core.Bool.{Bool, true, false, not}
use mathlib.Core.List.{List, [], ◌∷◌}
use lib.Dec.{eqb}
use lib.ListN.{length}
use borrow.Author.Tests.{leb-true, le-ltb, eq-eqb, ne_eqb}
use Rattle.meaning.specs.declared.Token.{Token}
use Rattle.meaning.specs.declared.Format.{Format}
use Rattle.meaning.specs.Lists.{all}
use Rattle.meaning.specs.Codes.{tokens, is_listed}
use Rattle.meaning.specs.Rows.{is_double, rows, lines_of, row_count, is_short, rows_fit}
use Rattle.meaning.specs.TextRules.{before_fault, breaks_codes, breaks_rows}
use Rattle.std.proofs.lemmas.Bool.{and_parts}
use Rattle.meaning.proofs.Logic.{by_test}
use Rattle.meaning.proofs.ListLaws.{test_split}
use Rattle.reasons.specs.Faults.{ToldByPlaces}
use Rattle.reasons.proofs.Firsts.{Sound, sound-codes}
use Rattle.reasons.proofs.Heights.{heights-kept}
use Rattle.reasons.proofs.HeightPlaces.{heights-pass}
use Rattle.reasons.proofs.TextFaults.{found, rows-kept}

-- a test that tells whether no element breaks a rule
module _ {A : Type 0} (breaks : List A → A → List A → Bool) where
  all-passed : (before xs : List A) → Sound breaks before xs → before_fault breaks before xs ≡ length xs
  unfolding before_fault
  all-passed before [] h = refl
  all-passed before (x ∷ xs) h = rw (h.0, before_fault) (ap suc (all-passed (x ∷ before) xs h.1))

  told : (xs : List A) (test : Bool) → (Sound breaks [] xs → test ≡ true) → (test ≡ true → Sound breaks [] xs) → test ≡ eqb (before_fault breaks [] xs) (length xs)
  told xs test kept passed =
      by_test test
      (λ e. e ∙ sym (eq-eqb _ _ (all-passed [] xs (passed e))))
      (λ e. e ∙ sym (ne_eqb (before_fault breaks [] xs) (length xs) (λ z. omega (arith, (found breaks xs test kept e).within))))

-- rule 13
codes-pass : (teletext : Bool) (before ts : List Token) → all (is_listed teletext) ts ≡ true → Sound (breaks_codes teletext) before ts
unfolding breaks_codes
codes-pass teletext before [] h = tt
codes-pass teletext before (t ∷ ts) h =
    let p = test_split _ t ts h in
    (ap not p.0, codes-pass teletext (t ∷ before) ts p.1)

-- rule 15: fewer rows cover no more lines
fewer_lines : (double : Bool) (n m : ℕ) → n ≤ m → (lines_of double (record { 0 = n })).0 ≤ (lines_of double (record { 0 = m })).0
unfolding lines_of
fewer_lines true n m h = omega arith
fewer_lines false n m h = h

module _ (f : Format) (vp : ℕ) (double : Bool) where
  rows_pass :
      (before rs : List (List Token)) → all is_short rs ≡ true → vp + (lines_of double (record { 0 = length before + length rs })).0 ≤ f.screen.end
      → Sound (breaks_rows f vp double) before rs
  unfolding breaks_rows row_count
  rows_pass before [] s h = tt
  rows_pass before (r ∷ rs) s h =
      let p = test_split _ r rs s in
      let z : length before + suc (length rs) ≡ suc (length before) + length rs = omega arith in
      let fewer = fewer_lines double (suc (length before)) (length before + suc (length rs)) (omega arith) in
      let fit : vp + (lines_of double (record { 0 = suc (length before) })).0 ≤ f.screen.end = omega (arith, h, fewer) in (
        rw p.0 (le-ltb _ _ fit),
        rows_pass (r ∷ before) rs p.1 (rw z at h),
      )

fit_pass : (f : Format) (vp : ℕ) (ts : List Token) → rows_fit f vp ts ≡ true → Sound (breaks_rows f vp (is_double ts)) [] (rows f.mode ts)
unfolding rows_fit row_count
fit_pass f vp ts h =
    let p = and_parts (all is_short (rows f.mode ts)) _ h in
    let z : 0 + length (rows f.mode ts) ≡ length (rows f.mode ts) = omega arith in
    rows_pass f vp (is_double ts) [] (rows f.mode ts) p.0 (rw z (leb-true _ _ p.1))

pub told_by_places : (f : Format) (vp : ℕ) (s : List ℕ) → ToldByPlaces f vp s
told_by_places f vp s =
    let ts = tokens s in
    record {
      codes = told _ ts _ (sound-codes f.teletext [] ts) (codes-pass f.teletext [] ts);
      heights = told _ ts _ (heights-kept f.mode ts) (heights-pass f.mode ts);
      rows = told _ (rows f.mode ts) _ (rows-kept f vp ts) (fit_pass f vp ts);
    }
