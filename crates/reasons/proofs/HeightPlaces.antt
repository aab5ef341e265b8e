-- Rule 14 the other way: of a text that has its heights right no token breaks the rule.
-- Assumes nothing.
use Prim.Native.Nat.{ℕ}
use mathlib.Core.Path.{◌≡◌, refl, sym, ap, ◌∙◌}
use mathlib.Core.Bool.{Bool, true, false, not, ◌&&◌, ◌||◌, and-true, and-false, not-not}
use mathlib.Core.List.{List, [], ◌∷◌, tail}
use lib.Dec.{eqb}
use borrow.Author.Tests.{not-true}
use Rattle.meaning.specs.declared.Token.{Token}
use Rattle.meaning.specs.Lists.{all, any}
use Rattle.meaning.specs.Codes.{is_character, is_row_end, is_double_height}
use Rattle.meaning.specs.Rows.{split_rows, first_row, is_double, breaks_paired, rows_of, rows, height_first, even_from, heights_right}
use Rattle.meaning.specs.TextRules.{misplaced_height, odd_ends, end_first, breaks_heights}
use Rattle.std.proofs.lemmas.Bool.{and_parts, false≢true, or_parts}
use Rattle.meaning.proofs.Logic.{by_test, or_second}
use Rattle.meaning.proofs.ListLaws.{any-cons}
use Rattle.meaning.proofs.RowClauses.{split_end, split_more, odd_end, odd_more, even-end, even-more, even_odd}
use Rattle.reasons.proofs.Firsts.{Sound}
use Rattle.reasons.proofs.Heights.{onto_any, onto_tail}
use Rattle.reasons.proofs.RowPlaces.{behind_character, end_no_height, codes-first}

-- a 0Dh behind a row end; the first of an odd run of row ends
behind_end : List Token → Token → List Token → Bool
behind_end before t after = is_double_height t && any is_row_end before

odd_run : List Token → Token → List Token → Bool
odd_run before t after = not (end_first before) && odd_ends (t ∷ after)

-- single height: no 0Dh behind a row end
none_behind : (before ts : List Token) → any (any is_double_height) (split_rows ts) ≡ false → Sound behind_end before ts
unfolding behind_end any
none_behind before [] h = tt
none_behind before (t ∷ ts) h =
    by_test (is_row_end t)
    (λ e. (rw (end_no_height t e), none_behind (t ∷ before) ts (rw (split_end t ts e) at h)))
    (λ e.
    let n = or_parts (is_double_height t) _ (sym (onto_any t (split_rows ts)) ∙ rw (split_more t ts e) at h) in
    (rw n.0, none_behind (t ∷ before) ts n.1))

later-pass : (before ts : List Token) → any is_row_end before ≡ false → any (any is_double_height) (tail (split_rows ts)) ≡ false → Sound behind_end before ts
unfolding behind_end
later-pass before [] n h = tt
later-pass before (t ∷ ts) n h = (
  rw n (and-false (is_double_height t)),
  by_test (is_row_end t)
      (λ e. none_behind (t ∷ before) ts (rw (split_end t ts e) at h))
      (λ e. later-pass (t ∷ before) ts (rw (any-cons is_row_end t before, e, n)) (rw (split_more t ts e, onto_tail t (split_rows ts)) at h)),
)

-- paired row ends: a run is odd where it is told so
run_odd : (odd : Bool) (ts : List Token) → even_from odd ts ≡ true → odd_ends ts ≡ odd
unfolding even_from odd_ends
run_odd odd [] h = sym (not-true odd h)
run_odd odd (t ∷ ts) h =
    by_test (is_row_end t)
    (λ e. odd_end t ts e ∙ ap not (run_odd (not odd) ts (rw (even-end t ts odd e) at h)) ∙ not-not odd)
    (λ e. odd_more t ts e ∙ sym (none_open odd e h))
  where
    none_open : (odd : Bool) → is_row_end t ≡ false → even_from odd (t ∷ ts) ≡ true → odd ≡ false
    none_open true e h = absurd (false≢true (sym (even_odd t ts e) ∙ h))
    none_open false e h = refl

runs_pass : (odd : Bool) (before ts : List Token) → (end_first before ≡ false → odd ≡ false) → even_from odd ts ≡ true → Sound odd_run before ts
unfolding odd_run end_first
runs_pass odd before [] n h = tt
runs_pass odd before (t ∷ ts) n h = (
  by_test (end_first before) (λ e. rw e) (λ e. rw e (run_odd odd (t ∷ ts) h ∙ n e)),
  by_test (is_row_end t)
      (λ e. runs_pass (not odd) (t ∷ before) ts (λ z. absurd (false≢true (sym z ∙ e))) (rw (even-end t ts odd e) at h))
      (λ e. runs_pass false (t ∷ before) ts (λ z. refl) (rw (sym (run_odd odd (t ∷ ts) h) ∙ odd_more t ts e, even-more t ts e) at h)),
)

-- a token that breaks no part of the rule does not break the rule
module _ (double paired : Bool) where
  height-pass :
      (before : List Token) (t : Token) (ts : List Token) → behind_character before t ts ≡ false → (double ≡ false → behind_end before t ts ≡ false)
      → misplaced_height double before t ≡ false
  unfolding misplaced_height behind_character behind_end
  height-pass before t ts c l =
      by_test (is_double_height t)
      (λ d.
      let n : any is_character (first_row before) ≡ false = sym (and-true _) ∙ rw d at c in
      rw (d, n) (by_test double (λ s. rw s) (λ s. rw s (rw d at (l s)))))
      (λ d. rw d)

  token-pass :
      (before : List Token) (t : Token) (ts : List Token) → behind_character before t ts ≡ false → (double ≡ false → behind_end before t ts ≡ false)
      → (paired ≡ true → odd_run before t ts ≡ false) → breaks_heights double paired before t ts ≡ false
  unfolding breaks_heights odd_run
  token-pass before t ts c l r = rw (height-pass before t ts c l) (by_test paired (λ p. rw p (r p)) (λ p. rw p))

  all_pass :
      (before ts : List Token) → Sound behind_character before ts → (double ≡ false → Sound behind_end before ts) → (paired ≡ true → Sound odd_run before ts)
      → Sound (breaks_heights double paired) before ts
  all_pass before [] c l r = tt
  all_pass before (t ∷ ts) c l r =
      (token-pass before t ts c.0 (λ s. (l s).0) (λ p. (r p).0), all_pass (t ∷ before) ts c.1 (λ s. (l s).1) (λ p. (r p).1))

-- single height has no pairs
single-rows : (mode : ℕ) (ts : List Token) → is_double ts ≡ false → rows mode ts ≡ split_rows ts
unfolding breaks_paired rows_of
single-rows mode ts s = rw (s, and-false (eqb mode 2))

-- a text that has its heights right
pub heights-pass : (mode : ℕ) (ts : List Token) → heights_right mode ts ≡ true → Sound (breaks_heights (is_double ts) (breaks_paired mode ts)) [] ts
unfolding heights_right any
heights-pass mode ts h =
    let p = and_parts (all height_first (rows mode ts) && (is_double ts || not (any (any is_double_height) (tail (rows mode ts))))) _ h in
    let q = and_parts (all height_first (rows mode ts)) _ p.0 in
    all_pass (is_double ts) (breaks_paired mode ts) [] ts (codes-first (breaks_paired mode ts) ts q.0)
    (λ s. later-pass [] ts refl (not-true _ (rw (single-rows mode ts s) at (or_second (is_double ts) _ q.1 s))))
    (λ e. runs_pass false [] ts (λ z. refl) (or_second (not (breaks_paired mode ts)) _ p.1 (ap not e)))
