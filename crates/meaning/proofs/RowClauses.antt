-- How a text is split into rows, clause by clause: at a row end, the first or the second of a pair, and at another token.
-- Assumes nothing.
use mathlib.Core.Path.{◌≡◌}
use mathlib.Core.Bool.{Bool, true, false, not}
use mathlib.Core.List.{List, [], ◌∷◌}
use Rattle.meaning.specs.declared.Token.{Token}
use Rattle.meaning.specs.Lists.{onto_first}
use Rattle.meaning.specs.Codes.{is_row_end}
use Rattle.meaning.specs.Rows.{split_rows, in_row, first_row, paired_from, even_from}
use Rattle.meaning.specs.TextRules.{odd_ends}
use Rattle.meaning.proofs.ListLaws.{while_on, while_off}

module _ (t : Token) (ts : List Token) where
  module _ (e : is_row_end t ≡ true) where
    pub first-end : first_row (t ∷ ts) ≡ []
    unfolding first_row in_row
    first-end = while_off in_row t ts (rw e)

    pub split_end : split_rows (t ∷ ts) ≡ [] ∷ split_rows ts
    unfolding split_rows
    split_end = rw (e, split_rows)

    pub pair_first : paired_from false (t ∷ ts) ≡ t ∷ paired_from true ts
    unfolding paired_from
    pair_first = rw (e, paired_from)

    pub pair_second : paired_from true (t ∷ ts) ≡ paired_from false ts
    unfolding paired_from
    pair_second = rw (e, paired_from)

  module _ (e : is_row_end t ≡ false) where
    pub first_more : first_row (t ∷ ts) ≡ t ∷ first_row ts
    unfolding first_row in_row
    first_more = while_on in_row t ts (rw e)

    pub split_more : split_rows (t ∷ ts) ≡ onto_first t (split_rows ts)
    unfolding split_rows
    split_more = rw (e, split_rows)

    pub pair_none : (second : Bool) → paired_from second (t ∷ ts) ≡ t ∷ paired_from false ts
    unfolding paired_from
    pair_none second = rw (e, paired_from)

-- the tests over row ends
module _ (t : Token) (ts : List Token) where
  pub odd_end : is_row_end t ≡ true → odd_ends (t ∷ ts) ≡ not (odd_ends ts)
  unfolding odd_ends
  odd_end e = rw (e, odd_ends)

  pub odd_more : is_row_end t ≡ false → odd_ends (t ∷ ts) ≡ false
  unfolding odd_ends
  odd_more e = rw (e, odd_ends)

  pub even-end : (odd : Bool) → is_row_end t ≡ true → even_from odd (t ∷ ts) ≡ even_from (not odd) ts
  unfolding even_from
  even-end odd e = rw (e, even_from)

  pub even-more : is_row_end t ≡ false → even_from false (t ∷ ts) ≡ even_from false ts
  unfolding even_from
  even-more e = rw (e, even_from)

  pub even_odd : is_row_end t ≡ false → even_from true (t ∷ ts) ≡ false
  unfolding even_from
  even_odd e = rw (e, even_from)
