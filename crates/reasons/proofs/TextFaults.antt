-- What a broken rule of a text says: the rule that is named is broken at the offset told, and those before it nowhere.
-- Assumes nothing.
use Prim.Native.Nat.{ℕ, zero, suc, ◌+◌, ◌≤◌, ◌<◌}
use native.Mathlib.Omega.{arith}
use mathlib.Core.Path.{◌≡◌, refl, sym, ◌∙◌}
use mathlib.Core.Bool.{Bool, true, false, not, ◌&&◌, ◌||◌}
use mathlib.Core.List.{List, [], ◌∷◌, tail}
use mathlib.Core.Logic.{⊎_elim}
use lib.ListN.{length, get_or}
use borrow.Author.Tests.{le-leb, le-ltb}
use Rattle.meaning.specs.declared.Format.{Format}
use Rattle.meaning.specs.declared.Token.{Token}
use Rattle.meaning.specs.Lists.{all, any, keep}
use Rattle.meaning.specs.Refusals.{is_good, no_refusal, first_broken}
use Rattle.meaning.specs.Codes.{tokens, is_listed, is_double_height}
use Rattle.meaning.specs.Rows.{is_double, breaks_paired, rows_of, rows, height_first, even_from, heights_right, lines_of, row_count, is_short, rows_fit}
use Rattle.meaning.specs.TextRules.{before_fault, breaks_codes, breaks_heights, breaks_rows, code_fault, height_fault, row_fault, text_rules, text_rule}
use Rattle.std.proofs.lemmas.Bool.{and_from, and_parts, false≢true}
use Rattle.meaning.proofs.Logic.{by_test}
use Rattle.reasons.specs.Faults.{TextFails}
use Rattle.reasons.specs.Faults.TextFails.{code, height, row}
use Rattle.reasons.proofs.Firsts.{Sound, Found, found-or-none, sound-codes, sound-short, sound_lines}
use Rattle.reasons.proofs.Heights.{heights-kept}
use Rattle.reasons.proofs.TokenStarts.{token_starts}
use Rattle.reasons.proofs.RowStarts.{Front, rows-first, rows-size, rows-front, row-token}

-- what breaks a rule is found, where the rule is not kept
pub found :
    {A : Type 0} (breaks : List A → A → List A → Bool) (xs : List A) (test : Bool) → (Sound breaks [] xs → test ≡ true) → test ≡ false → Found breaks [] xs
found breaks xs test kept e = ⊎_elim (λ s. absurd (false≢true (sym e ∙ kept s))) (λ f. f) (found-or-none breaks [] xs)

module _ (f : Format) (vp : ℕ) (s : List ℕ) where
  code-fails : all (is_listed f.teletext) (tokens s) ≡ false → TextFails f vp s 13 (code_fault f.teletext s)
  unfolding code_fault
  code-fails e =
      let w = found (breaks_codes f.teletext) (tokens s) _ (sound-codes f.teletext [] (tokens s)) e in
      code _ _ e w.first (token_starts _ s w.within)

  height-fails :
      all (is_listed f.teletext) (tokens s) ≡ true → heights_right f.mode (tokens s) ≡ false → TextFails f vp s 14 (height_fault f.mode s)
  unfolding height_fault
  height-fails l e =
      let w = found (breaks_heights (is_double (tokens s)) (breaks_paired f.mode (tokens s))) (tokens s) _ (heights-kept f.mode (tokens s)) e in
      height _ _ l e w.first (token_starts _ s w.within)

-- rows of which none breaks rule 15 fit
lines_kept :
    (f : Format) (vp : ℕ) (double : Bool) {rs : List (List Token)} → Front rs → Sound (breaks_rows f vp double) [] rs
    → vp + (lines_of double (row_count rs)).0 ≤ f.screen.end
unfolding row_count
lines_kept f vp double t h =
    let z : 0 + suc (length t.later) ≡ suc (length t.later) = omega arith in
    rw t.same (rw z at (sound_lines f vp double [] t.first t.later (rw t.same at h)))

pub rows-kept : (f : Format) (vp : ℕ) (ts : List Token) → Sound (breaks_rows f vp (is_double ts)) [] (rows f.mode ts) → rows_fit f vp ts ≡ true
unfolding rows_fit
rows-kept f vp ts h =
    and_from _ _ (sound-short f vp (is_double ts) [] _ h) (le-leb _ _ (lines_kept f vp (is_double ts) (rows-front (breaks_paired f.mode ts) ts) h))

-- a first row without bytes fits where the line VP does
empty-fits : (f : Format) (vp : ℕ) (later : List (List Token)) → vp < f.screen.end → breaks_rows f vp false [] [] later ≡ false
unfolding breaks_rows is_short keep lines_of row_count
empty-fits f vp later h = le-ltb f.screen.end (vp + 1) (omega arith)

-- so that the first row, if it breaks the rule, has bytes
module _ (f : Format) (vp : ℕ) (line : vp < f.screen.end) where
  empty-passed : (later : List (List Token)) → 0 < before_fault (breaks_rows f vp false) [] ([] ∷ later)
  unfolding before_fault
  empty-passed later = rw (empty-fits f vp later line, before_fault) (omega arith)

  later-row :
      (double : Bool) (n : ℕ) {rs : List (List Token)} → Front rs → (get_or rs 0 [] ≡ [] → double ≡ false) → n ≡ before_fault (breaks_rows f vp double) [] rs
      → get_or rs n [] ≡ [] → 0 < n
  later-row double zero t d b e =
      let first : t.first ≡ [] = rw t.same at e in
      rw b (rw (d e, t.same, first) (empty-passed t.later))
  later-row double (suc n) t d b e = omega arith

  -- an empty first row has no 0Dh
  single : (paired : Bool) (ts : List Token) → get_or (rows_of paired ts) 0 [] ≡ [] → is_double ts ≡ false
  unfolding any
  single paired ts e = rw (sym (rows-first paired ts) ∙ e)

  runs_even : (mode : ℕ) (ts : List Token) → heights_right mode ts ≡ true → not (breaks_paired mode ts) || even_from false ts ≡ true
  unfolding heights_right
  runs_even mode ts h =
      (and_parts (all height_first (rows mode ts) && (is_double ts || not (any (any is_double_height) (tail (rows mode ts))))) _ h).1

  row-fails :
      (s : List ℕ) → all (is_listed f.teletext) (tokens s) ≡ true → heights_right f.mode (tokens s) ≡ true → rows_fit f vp (tokens s) ≡ false
      → TextFails f vp s 15 (row_fault f vp s)
  unfolding row_fault
  row-fails s l h e =
      let ts = tokens s in
      let paired = breaks_paired f.mode ts in
      let w = found (breaks_rows f vp (is_double ts)) (rows f.mode ts) _ (rows-kept f vp ts) e in
      let n = before_fault (breaks_rows f vp (is_double ts)) [] (rows f.mode ts) in
      let some = later-row (is_double ts) n (rows-front paired ts) (single paired ts) refl in
      row _ _ l h e w.first (token_starts _ s (row-token paired ts (rows f.mode ts) n (rows-size paired ts (runs_even f.mode ts h)) w.within some))

  pub text-fails :
      (place : ℕ) (s : List ℕ) → is_good (text_rule f place vp s) ≡ false → TextFails f vp s (text_rule f place vp s).number (text_rule f place vp s).offset
  unfolding text_rule text_rules first_broken no_refusal is_good
  text-fails place s e =
      by_test (all (is_listed f.teletext) (tokens s))
      (λ l.
      by_test (heights_right f.mode (tokens s))
      (λ h.
      by_test (rows_fit f vp (tokens s))
      (λ r. absurd (false≢true (sym (rw (l, h, r) at e))))
      (λ r. rw (l, h, r) (row-fails s l h r)))
      (λ h. rw (l, h) (height-fails f vp s l h)))
      (λ l. rw l (code-fails f vp s l))

-- the offset lies in the text
pub text-within : {f : Format} {vp n i : ℕ} {s : List ℕ} → TextFails f vp s n i → i < length s
text-within (code n i e w t) = t.within
text-within (height n i l e w t) = t.within
text-within (row n i l h e w t) = t.within
