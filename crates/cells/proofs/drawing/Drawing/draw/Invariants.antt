-- `draw` has drawn the row up to a position.
-- Assumes nothing.
use Rattle.charset.specs.Runs.{runs_left}
use Rattle.rows.proofs.ReadTo.{RunTo}
use Rattle.cells.proofs.RowLeft.{RowLeft}
use Rattle.cells.proofs.drawing.Drawing.draw.Given as goal

abbrev pub invariant-loop-reading : goal.invariant-loop-reading
invariant-loop-reading l = RunTo (RowLeft l.text l.start l.initial.self l.self) l.text (runs_left l.reading-iterator)
