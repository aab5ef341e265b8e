-- `scan_row` gathers the facts of a row; the loop is seen from what is left of the row.
-- Assumes nothing.
use Rattle.charset.specs.Runs.{runs_left}
use Rattle.rows.proofs.ReadTo.{RunTo}
use Rattle.rows.proofs.RowLoop.{RowLeft}
use Rattle.rows.proofs.scan_row.Given as goal

abbrev pub invariant-loop-read : goal.invariant-loop-read
invariant-loop-read l = RunTo (RowLeft l.teletext l.text l.start l.facts) l.text (runs_left l.read-iterator)
