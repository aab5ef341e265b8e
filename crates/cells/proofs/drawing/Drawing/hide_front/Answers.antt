use native.Mathlib.Omega.{arith}
use mathlib.Core.Path.{refl}
use Rattle.cells.proofs.Storing.{sets_copies}
use Rattle.cells.proofs.drawing.Drawing.hide_front.Goals as goal

pub returns : goal.returns
returns c =
    record {
      held = sets_copies c.args.self.now.cells.now c.args.self.now.front c.min-places.result _ c.hidden-hidden.result c.hidden-hidden.ensures c.min-places.ensures (omega arith) (c.fill.ensures.after (λ y h. h));
      count = refl;
      pen = refl;
      same = refl;
    }
