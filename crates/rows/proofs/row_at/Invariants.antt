-- `row_at` reads a row token by token; the loop is seen from what is left of the row.
-- Assumes nothing.
use mathlib.Core.Bool.{true}
use Rattle.charset.specs.Readings.{readings_left}
use Rattle.rows.proofs.ReadTo.{ReadTo}
use Rattle.rows.proofs.RowLoop.{RowLeft}
use Rattle.rows.proofs.row_at.Given as goal

abbrev pub invariant-loop-read : goal.invariant-loop-read
invariant-loop-read l = ReadTo (RowLeft true l.text l.start l.facts) l.text (readings_left l.read-iterator)
