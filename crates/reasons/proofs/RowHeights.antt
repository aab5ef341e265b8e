-- Rule 14 over the height codes of rows: no 0Dh behind a character of its row, if no token breaks the rule. What stands since the last
-- row end is a token's own row.
-- Assumes nothing.
use mathlib.Core.Path.{◌≡◌, refl, sym, ◌∙◌}
use mathlib.Core.Bool.{Bool, true, false, cond, not, ◌&&◌, ◌||◌, and-true, and-false, and_assoc, or-true}
use mathlib.Core.List.{List, [], ◌∷◌}
use Rattle.meaning.specs.declared.Token.{Token}
use Rattle.meaning.specs.Lists.{all, any, take_while, onto_first}
use Rattle.meaning.specs.Codes.{is_character, is_row_end, is_double_height}
use Rattle.meaning.specs.Rows.{split_rows, first_row, paired_from, rows_of, height_first}
use Rattle.meaning.specs.TextRules.{misplaced_height, breaks_heights}
use Rattle.std.proofs.lemmas.Bool.{false≢true, or_parts}
use Rattle.meaning.proofs.Logic.{by_test}
use Rattle.meaning.proofs.ListLaws.{all_cons, any-cons, test-nil}
use Rattle.meaning.proofs.RowClauses.{first-end, first_more, split_end, split_more, pair_first, pair_second, pair_none}
use Rattle.reasons.proofs.Firsts.{Sound}

-- a row, and rows, of which the first has a character before it or not
height_from : Bool → List Token → Bool
height_from c r = cond c (not (any is_double_height r)) (height_first r)

pub heights_from : Bool → List (List Token) → Bool
heights_from c [] = true
heights_from c (r ∷ rs) = height_from c r && all height_first rs

pub heights-from : (rs : List (List Token)) → heights_from false rs ≡ all height_first rs
unfolding heights_from height_from
heights-from [] = sym (test-nil height_first)
heights-from (r ∷ rs) = sym (all_cons height_first r rs)

-- a row end, and another token, in front of rows
pub end-front : (c : Bool) (rs : List (List Token)) → heights_from c ([] ∷ rs) ≡ heights_from false rs
unfolding heights_from height_from any height_first
end-front true rs = sym (heights-from rs)
end-front false rs = sym (heights-from rs)

empty_right : (c : Bool) → height_from c [] ≡ true
unfolding height_from height_first any
empty_right true = refl
empty_right false = refl

row-front : (c : Bool) (t : Token) (r : List Token) → height_from c (t ∷ r) ≡ not (c && is_double_height t) && height_from (is_character t || c) r
unfolding height_from height_first
row-front true t r = rw (any-cons is_double_height t r, or-true (is_character t)) (by_test (is_double_height t) (λ d. rw d) (λ d. rw d))
row-front false t r = by_test (is_character t) (λ i. rw (i, height_first)) (λ i. rw (i, height_first))

pub token-front :
    (c : Bool) (t : Token) (rs : List (List Token))
    → heights_from c (onto_first t rs) ≡ not (c && is_double_height t) && heights_from (is_character t || c) rs
unfolding heights_from onto_first
token-front c t [] = rw (row-front c t [], empty_right (is_character t || c), test-nil height_first) (and-true _)
token-front c t (r ∷ rs) = rw (row-front c t r) (and_assoc (not (c && is_double_height t)) _ _)

-- the characters of a row so far
pub no_characters : any is_character (first_row []) ≡ false
unfolding any first_row take_while
no_characters = refl

pub characters-end : (before : List Token) (t : Token) → is_row_end t ≡ true → any is_character (first_row (t ∷ before)) ≡ false
unfolding any
characters-end before t e = rw (first-end t before e)

pub characters-more :
    (before : List Token) (t : Token) → is_row_end t ≡ false → any is_character (first_row (t ∷ before)) ≡ is_character t || any is_character (first_row before)
characters-more before t e = rw (first_more t before e) (any-cons is_character t (first_row before))

-- what a token says that does not break the rule
pub known-height :
    (double : Bool) (before : List Token) (t : Token) → misplaced_height double before t ≡ false
    → (any is_character (first_row before) && is_double_height t ≡ false) × (double ≡ false → any is_row_end before ≡ true → is_double_height t ≡ false)
unfolding misplaced_height
known-height double before t e =
    by_test (is_double_height t)
    (λ d.
    let n = or_parts (any is_character (first_row before)) _ (rw d at e) in
    (rw (d, n.0), λ s r. absurd (false≢true (sym (rw (s, r) at n.1)))))
    (λ d. (rw (d, and-false (any is_character (first_row before))), λ s r. d))

module _ (double paired : Bool) where
  abbrev pub Right : List Token → List Token → Type 0
  Right = Sound (breaks_heights double paired)

  pub height-right : (before : List Token) (t : Token) (ts : List Token) → breaks_heights double paired before t ts ≡ false → misplaced_height double before t ≡ false
  unfolding breaks_heights
  height-right before t ts h = (or_parts (misplaced_height double before t) _ h).0

  -- the height codes of each row
  rows_right : (before ts : List Token) → Right before ts → heights_from (any is_character (first_row before)) (split_rows ts) ≡ true
  unfolding split_rows heights_from
  rows_right before [] h = end-front _ []
  rows_right before (t ∷ ts) h =
      let more = rows_right (t ∷ before) ts h.1 in
      by_test (is_row_end t)
      (λ e. rw (split_end t ts e, end-front (any is_character (first_row before)) (split_rows ts)) (rw (characters-end before t e) at more))
      (λ e.
      let n = (known-height double before t (height-right before t ts h.0)).0 in
      rw (split_more t ts e, token-front (any is_character (first_row before)) t (split_rows ts), n) (rw (characters-more before t e) at more))

  -- where row ends are paired, behind the first of a pair no character stands
  paired_right :
      (second : Bool) (before ts : List Token) → (second ≡ true → any is_character (first_row before) ≡ false) → Right before ts
      → heights_from (any is_character (first_row before)) (split_rows (paired_from second ts)) ≡ true
  unfolding split_rows heights_from paired_from
  paired_right second before [] n h = end-front _ []
  paired_right second before (t ∷ ts) n h =
      let more = paired_right false (t ∷ before) ts (λ z. absurd (false≢true z)) h.1 in
      by_test (is_row_end t)
      (λ e.
      let none = characters-end before t e in
      by_test second
      (λ s. rw (s, pair_second t ts e, n s) (rw none at more))
      (λ s.
      rw (s, pair_first t ts e, split_end t (paired_from true ts) e, end-front (any is_character (first_row before)) (split_rows (paired_from true ts)))
      (rw none at (paired_right true (t ∷ before) ts (λ z. none) h.1))))
      (λ e.
      let n = (known-height double before t (height-right before t ts h.0)).0 in
      rw (pair_none t ts e second, split_more t (paired_from false ts) e, token-front (any is_character (first_row before)) t (split_rows (paired_from false ts)), n)
      (rw (characters-more before t e) at more))

  pub codes-right : (ts : List Token) → Right [] ts → all height_first (rows_of paired ts) ≡ true
  unfolding rows_of
  codes-right ts h =
      by_test paired
      (λ p. rw p (sym (heights-from _) ∙ rw no_characters at (paired_right false [] ts (λ z. absurd (false≢true z)) h)))
      (λ p. rw p (sym (heights-from _) ∙ rw no_characters at (rows_right [] ts h)))
