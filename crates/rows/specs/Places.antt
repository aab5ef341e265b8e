-- The rows of a text, each with the position where it starts.
-- Assumes nothing.
use Rattle.std.specs.Prelude.{ℕ, zero, suc, Bool, List, [], ◌∷◌, length, Option, Some, None}
use Rattle.std.specs.Option.{option_map}
use Rattle.rows.specs.declared.Row.{Row}
use Rattle.rows.specs.Scanned.{row_at, row_end_after, next_row_at}

-- where the row after the one from a position on starts, if there is one
unfoldable pub start_after : List ℕ → Bool → ℕ → Option ℕ
start_after s paired i = option_map (next_row_at s paired) (row_end_after s i)

-- the rows from a position on, if one is given, in at most n turns
unfoldable pub places_in : ℕ → List ℕ → Bool → Option ℕ → List (ℕ × Row)
places_in zero s paired at = []
places_in (suc n) s paired at = elim at [ Some i ↦ (i, row_at s i) ∷ places_in n s paired (start_after s paired i) | None ↦ [] ]

-- a text has at most one row more than bytes
unfoldable pub row_places : List ℕ → Bool → Option ℕ → List (ℕ × Row)
row_places s paired at = places_in (suc (length s)) s paired at
