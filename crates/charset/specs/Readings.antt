-- What an iterator over the readings of a text has left.
-- Assumes nothing.
use Rattle.std.specs.Prelude.{ℕ, List}
use Rattle.charset.specs.declared.Reading.{Reading}
use Rattle.charset.specs.declared.Readings.{Readings}
use Rattle.charset.specs.Reading.{readings_from}

abbrev pub readings_left : Readings → List (ℕ × Reading)
readings_left r = readings_from r.text.now r.at
