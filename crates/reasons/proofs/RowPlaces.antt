-- Rule 14 over the height codes of rows, the other way: no 0Dh breaks the rule behind a character of its row, if each row has them first.
-- Assumes nothing.
use mathlib.Core.Path.{◌≡◌, refl, ◌∙◌}
use mathlib.Core.Bool.{Bool, true, false, not, ◌&&◌, ◌||◌, and-false}
use mathlib.Core.List.{List, [], ◌∷◌}
use borrow.Author.Tests.{not-true}
use Rattle.meaning.specs.declared.Token.{Token}
use Rattle.meaning.specs.declared.Token.TheVariants.{Character, Control, Switch, RowEnd, Unlisted}
use Rattle.meaning.specs.Lists.{all, any}
use Rattle.meaning.specs.Codes.{is_character, is_row_end, is_control_of, is_double_height}
use Rattle.meaning.specs.Rows.{split_rows, first_row, paired_from, rows_of, height_first}
use Rattle.std.proofs.lemmas.Bool.{and_parts, false≢true}
use Rattle.meaning.proofs.Logic.{by_test}
use Rattle.meaning.proofs.RowClauses.{split_end, split_more, pair_first, pair_second, pair_none}
use Rattle.reasons.proofs.Firsts.{Sound}
use Rattle.reasons.proofs.RowHeights.{heights_from, heights-from, end-front, token-front, no_characters, characters-end, characters-more}

-- a 0Dh after a character of its row
unfoldable pub behind_character : List Token → Token → List Token → Bool
behind_character before t after = any is_character (first_row before) && is_double_height t

-- a row end is no 0Dh
pub end_no_height : (t : Token) → is_row_end t ≡ true → is_double_height t ≡ false
unfolding is_row_end is_control_of
end_no_height (Character p) e = refl
end_no_height (Control c) e = absurd (false≢true e)
end_no_height (Switch c) e = refl
end_no_height RowEnd e = refl
end_no_height Unlisted e = refl

-- the height codes of each row
module _ (before : List Token) (t : Token) (ts : List Token) where
  end-passes : is_row_end t ≡ true → behind_character before t ts ≡ false
  unfolding behind_character
  end-passes e = rw (end_no_height t e) (and-false (any is_character (first_row before)))

  token-passes :
      (rs : List (List Token)) → is_row_end t ≡ false
      → not (any is_character (first_row before) && is_double_height t) && heights_from (is_character t || any is_character (first_row before)) rs ≡ true
      → (behind_character before t ts ≡ false) × (heights_from (any is_character (first_row (t ∷ before))) rs ≡ true)
  unfolding behind_character
  token-passes rs e h =
      let p = and_parts (not (any is_character (first_row before) && is_double_height t)) _ h in
      (not-true _ p.0, rw (characters-more before t e) p.1)

single-codes : (before ts : List Token) → heights_from (any is_character (first_row before)) (split_rows ts) ≡ true → Sound behind_character before ts
single-codes before [] h = tt
single-codes before (t ∷ ts) h =
    by_test (is_row_end t)
    (λ e. (
      end-passes before t ts e,
      single-codes (t ∷ before) ts (rw (characters-end before t e) (rw (split_end t ts e, end-front (any is_character (first_row before)) (split_rows ts)) at h)),
    ))
    (λ e.
    let p = token-passes before t ts (split_rows ts) e (rw (split_more t ts e, token-front (any is_character (first_row before)) t (split_rows ts)) at h) in
    (p.0, single-codes (t ∷ before) ts p.1))

paired_codes :
    (second : Bool) (before ts : List Token) → (second ≡ true → any is_character (first_row before) ≡ false)
    → heights_from (any is_character (first_row before)) (split_rows (paired_from second ts)) ≡ true → Sound behind_character before ts
paired_codes second before [] n h = tt
paired_codes second before (t ∷ ts) n h =
    by_test (is_row_end t)
    (λ e.
    let none = characters-end before t e in (
      end-passes before t ts e,
      by_test second
          (λ s. paired_codes false (t ∷ before) ts (λ z. none) (rw none (rw (s, pair_second t ts e, n s) at h)))
          (λ s.
          paired_codes true (t ∷ before) ts (λ z. none)
          (rw none
          (rw (s, pair_first t ts e, split_end t (paired_from true ts) e, end-front (any is_character (first_row before)) (split_rows (paired_from true ts))) at h))),
    ))
    (λ e.
    let rs = split_rows (paired_from false ts) in
    let p = token-passes before t ts rs e (rw (pair_none t ts e second, split_more t (paired_from false ts) e, token-front (any is_character (first_row before)) t rs) at h) in
    (p.0, paired_codes false (t ∷ before) ts (λ z. absurd (false≢true z)) p.1))

pub codes-first : (paired : Bool) (ts : List Token) → all height_first (rows_of paired ts) ≡ true → Sound behind_character [] ts
unfolding rows_of
codes-first true ts h = paired_codes false [] ts (λ z. no_characters) (rw no_characters (heights-from _ ∙ h))
codes-first false ts h = single-codes [] ts (rw no_characters (heights-from _ ∙ h))
