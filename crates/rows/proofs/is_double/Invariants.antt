-- `is_double` looks for 0Dh in the first row; the loop is seen from what is left of that row.
-- Assumes nothing.
use Rattle.charset.specs.Runs.{runs_left}
use Rattle.rows.proofs.ReadTo.{RunTo}
use Rattle.rows.proofs.RowLoop.{HeightLeft}
use Rattle.rows.proofs.is_double.Given as goal

abbrev pub invariant-loop-read : goal.invariant-loop-read
invariant-loop-read l = RunTo (HeightLeft l.text) l.text (runs_left l.read-iterator)
