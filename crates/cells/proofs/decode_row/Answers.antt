use mathlib.Core.Path.{refl}
use Rattle.std.proofs.Common.{rules}
use Rattle.cells.proofs.Hiding.{decoded}
use Rattle.cells.proofs.decode_row.Goals as goal

pub returns : goal.returns
returns c =
    let drawn = c.draw-after.ensures.drawn in
    decoded _ (search (rules, drawn.same, c.hide_front.ensures.same)) c.at_row_start.ensures refl refl drawn c.hide_front.ensures c.draw-after.ensures.after
