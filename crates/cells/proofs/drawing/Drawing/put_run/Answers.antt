use Rattle.std.proofs.Common.{refl}
use Rattle.cells.proofs.Drawn.{draws_begun, run_more, drawn_run}
use Rattle.cells.proofs.drawing.Drawing.put_run.Goals as goal

pub loop-j-init : goal.loop-j-init
loop-j-init c = (refl, draws_begun c.args.self.now)

pub loop-j-preserved : goal.loop-j-preserved
loop-j-preserved c =
    let same = c.loop-j.invariant.0 in
    (same, run_more c.loop-j.self _ _ _ c.loop-j.invariant.1 c.loop-j-test.true _ (rw same (rw (c.single-character.ensures, c.from.ensures) at c.cell.ensures)))

pub returns : goal.returns
returns c = drawn_run c.loop-j.self _ _ c.args.codes.now c.loop-j.invariant.1 c.loop-j-test.false c.fitting-places.ensures
