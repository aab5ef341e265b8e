-- A text's first row and what follows it, as the rows are met when a text is read from the left.
-- Assumes nothing.
use mathlib.Core.Bool.{Bool, true, false, cond}
use mathlib.Core.List.{List, [], ◌∷◌}
use Rattle.meaning.specs.declared.Token.{Token}
use Rattle.meaning.specs.Codes.{is_row_end}
use Rattle.meaning.specs.Rows.{rows_of}
use Rattle.rows.specs.Scanned.{is_ended}

-- the tokens after the first row end
unfoldable pub after_row : List Token → List Token
after_row [] = []
after_row (t ∷ ts) = elim (is_row_end t) [ true ↦ ts | false ↦ after_row ts ]

-- without a row end that stands first: the second of a pair
unfoldable pub row_without_end : List Token → List Token
row_without_end [] = []
row_without_end (t ∷ ts) = elim (is_row_end t) [ true ↦ ts | false ↦ t ∷ ts ]

-- what follows the first row, where row ends are paired or not
unfoldable pub next_rows : Bool → List Token → List Token
next_rows paired ts = cond paired (row_without_end (after_row ts)) (after_row ts)

-- the rows after the first
unfoldable pub rows_after : Bool → List Token → List (List Token)
rows_after paired ts = elim (is_ended ts) [ true ↦ rows_of paired (next_rows paired ts) | false ↦ [] ]
