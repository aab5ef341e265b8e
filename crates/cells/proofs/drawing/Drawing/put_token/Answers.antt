use mathlib.Core.Path.{sym, ◌∙◌}
use Rattle.cells.specs.Packed.{pen_of}
use Rattle.cells.proofs.Fronts.{front-stays}
use Rattle.cells.proofs.Drawn.{puts_cell, puts_none, drawn_token}
use Rattle.cells.proofs.drawing.Drawing.put_token.Goals as goal
use Rattle.cells.proofs.drawing.Drawing.put_token.Goals.{then-takes_cell, else-takes_cell}

pub returns : goal.returns
returns c =
    let t = c.args.token in
    let d = c.args.self.now in
    elim c.if-takes_cell.branch [
      | then-takes_cell w ↦
          let pen = rw w.self-is at c.after-self.ensures in
          rw w.self-is (drawn_token (puts_cell t (pen_of d.pen) (sym c.takes_cell.ensures ∙ w.if-takes_cell.true) _ w.cell.ensures w.put.ensures) pen w.front_after-self.ensures)
      | else-takes_cell w ↦
          let none = sym c.takes_cell.ensures ∙ w.if-takes_cell.false in
          let pen = rw w.self-is at c.after-self.ensures in
          rw w.self-is (drawn_token (puts_none t (pen_of d.pen) none) pen (front-stays t d.front d.count none))
    ]
