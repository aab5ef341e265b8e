-- What an iterator over the rows of a text has left.
-- Assumes nothing.
use Rattle.std.specs.Prelude.{ℕ, List}
use Rattle.rows.specs.declared.Row.{Row}
use Rattle.rows.specs.declared.RowPlaces.{RowPlaces}
use Rattle.rows.specs.Places.{row_places}

abbrev pub places_left : RowPlaces → List (ℕ × Row)
places_left r = row_places r.text.now r.paired r.at
