-- Rule 14: a text of which no token breaks the rule has its heights right.
-- Assumes nothing.
use Prim.Native.Nat.{ℕ}
use mathlib.Core.Path.{◌≡◌, refl, sym, ap, ◌∙◌}
use mathlib.Core.Bool.{Bool, true, false, not, ◌||◌, and-false, or_assoc, not-not}
use mathlib.Core.List.{List, [], ◌∷◌, tail}
use lib.Dec.{eqb}
use Rattle.meaning.specs.declared.Token.{Token}
use Rattle.meaning.specs.Lists.{any, onto_first}
use Rattle.meaning.specs.Codes.{is_row_end, is_double_height}
use Rattle.meaning.specs.Rows.{split_rows, is_double, breaks_paired, rows_of, even_from, heights_right}
use Rattle.meaning.specs.TextRules.{misplaced_height, odd_ends, end_first, breaks_heights}
use Rattle.std.proofs.lemmas.Bool.{and_from as both_true, or_parts, or_right}
use Rattle.meaning.proofs.Logic.{by_test}
use Rattle.meaning.proofs.ListLaws.{any-cons}
use Rattle.meaning.proofs.RowClauses.{split_end, split_more, odd_end, odd_more, even-end, even-more}
use Rattle.reasons.proofs.Firsts.{Sound}
use Rattle.reasons.proofs.RowHeights.{known-height, Right, height-right, codes-right}

-- one token more in front of rows, and the test for 0Dh
pub onto_any : (t : Token) (rs : List (List Token)) → any (any is_double_height) (onto_first t rs) ≡ is_double_height t || any (any is_double_height) rs
unfolding onto_first any
onto_any t [] = rw (any-cons (any is_double_height) (t ∷ []) [], any-cons is_double_height t []) (or_assoc (is_double_height t) false _)
onto_any t (r ∷ rs) = rw (any-cons (any is_double_height) (t ∷ r) rs, any-cons (any is_double_height) r rs, any-cons is_double_height t r) (or_assoc (is_double_height t) _ _)

pub onto_tail : (t : Token) (rs : List (List Token)) → tail (onto_first t rs) ≡ tail rs
unfolding onto_first
onto_tail t [] = refl
onto_tail t (r ∷ rs) = refl

module _ (double paired : Bool) where
  -- a text with single height: no 0Dh behind a row end
  none-later :
      (before ts : List Token) → double ≡ false → any is_row_end before ≡ true → Right double paired before ts → any (any is_double_height) (split_rows ts) ≡ false
  unfolding split_rows any
  none-later before [] d r h = refl
  none-later before (t ∷ ts) d r h =
      let more = none-later (t ∷ before) ts d (any-cons is_row_end t before ∙ or_right (is_row_end t) _ r) h.1 in
      by_test (is_row_end t)
      (λ e. rw (split_end t ts e) more)
      (λ e. rw (split_more t ts e, onto_any t (split_rows ts), (known-height double before t (height-right double paired before t ts h.0)).1 d r) more)

  later-right : (before ts : List Token) → double ≡ false → Right double paired before ts → any (any is_double_height) (tail (split_rows ts)) ≡ false
  unfolding split_rows any
  later-right before [] d h = refl
  later-right before (t ∷ ts) d h =
      by_test (is_row_end t)
      (λ e. rw (split_end t ts e) (none-later (t ∷ before) ts d (rw (any-cons is_row_end t before, e)) h.1))
      (λ e. rw (split_more t ts e, onto_tail t (split_rows ts)) (later-right (t ∷ before) ts d h.1))

  -- paired row ends: each run is even
  run-right : (before ts : List Token) → paired ≡ true → end_first before ≡ false → Right double paired before ts → odd_ends ts ≡ false
  unfolding breaks_heights odd_ends
  run-right before [] p e h = refl
  run-right before (t ∷ ts) p e h = rw (p, e) at (or_parts (misplaced_height double before t) _ h.0).1

  ends-right : (odd : Bool) (before ts : List Token) → paired ≡ true → Right double paired before ts → odd_ends ts ≡ odd → even_from odd ts ≡ true
  unfolding even_from end_first odd_ends
  ends-right odd before [] p h o = rw (← o)
  ends-right odd before (t ∷ ts) p h o =
      by_test (is_row_end t)
      (λ e. rw (even-end t ts odd e) (ends-right (not odd) (t ∷ before) ts p h.1 (sym (not-not (odd_ends ts)) ∙ ap not (sym (odd_end t ts e) ∙ o))))
      (λ e. rw (← o, odd_more t ts e, even-more t ts e) (ends-right false (t ∷ before) ts p h.1 (run-right (t ∷ before) ts p e h.1)))

  singles_right : (ts : List Token) → (double ≡ false → paired ≡ false) → Right double paired [] ts → double || not (any (any is_double_height) (tail (rows_of paired ts))) ≡ true
  unfolding rows_of
  singles_right ts s h =
      by_test double (λ d. rw d) (λ d. rw (d, s d, later-right [] ts d h))

  pairs_right : (ts : List Token) → Right double paired [] ts → not paired || even_from false ts ≡ true
  unfolding end_first
  pairs_right ts h =
      by_test paired (λ p. rw p (ends-right false [] ts p h (run-right [] ts p refl h))) (λ p. rw p)

-- a text of which no token breaks rule 14
pub heights-kept : (mode : ℕ) (ts : List Token) → Sound (breaks_heights (is_double ts) (breaks_paired mode ts)) [] ts → heights_right mode ts ≡ true
unfolding heights_right breaks_paired
heights-kept mode ts h =
    let paired = breaks_paired mode ts in
    both_true _ _
    (both_true _ _ (codes-right (is_double ts) paired ts h) (singles_right (is_double ts) paired ts (λ d. rw (d, and-false (eqb mode 2))) h))
    (pairs_right (is_double ts) paired ts h)
