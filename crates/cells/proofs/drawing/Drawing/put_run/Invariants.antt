-- `put_run` has drawn the codes so far, by the pen that it began with: with their number added to the count of cells.
-- Assumes nothing.
use Rattle.std.proofs.Common.{◌≡◌, ◌+◌, map, take}
use Rattle.charset.specs.Plain.{plain_token}
use Rattle.cells.specs.Drawing.{Draws}
use Rattle.cells.proofs.Drawn.{with_cells}
use Rattle.cells.proofs.drawing.Drawing.put_run.Given as goal

abbrev pub invariant-loop-j : goal.invariant-loop-j
invariant-loop-j l =
    (l.self.pen ≡ l.pen)
    × Draws l.initial.self (map plain_token (take l.j l.c-items)) (with_cells l.self l.self.cells.now (l.start + l.j))
