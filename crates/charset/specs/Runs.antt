-- What an iterator over the readings of a text and the runs after them has left.
-- Assumes nothing.
use Rattle.std.specs.Prelude.{ℕ, List}
use Rattle.charset.specs.declared.Reading.{Reading}
use Rattle.charset.specs.declared.Runs.{Runs}
use Rattle.charset.specs.Reading.{runs_from}

abbrev pub runs_left : Runs → List (Reading × ℕ)
runs_left r = runs_from r.text.now r.at
