-- The look of a pen after a token is packed: a box code leaves it as it is.
-- Assumes nothing.
use Rattle.std.proofs.Common.{◌<◌}
use Rattle.meaning.specs.declared.Token.TheVariants.{Control, Switch}
use Rattle.meaning.specs.Looks.{look_count}
use Rattle.meaning.specs.Cells.{look_next}
use Rattle.cells.proofs.Pens.{next_small}
use Rattle.cells.proofs.pen.PackedPen.after.Goals as goal
use Rattle.cells.proofs.pen.PackedPen.after.Goals.{in-Control-eq11, in-Control-eq10, in-Control, in-Switch, in_default}

pub invariant_of-self : goal.invariant_of-self
unfolding look_next
invariant_of-self c =
    let small : c.match-token.result.0 < look_count =
    elim c.match-token.branch [
      | in-Control-eq11 w ↦ rw w.result-is c.args.self.packed
      | in-Control-eq10 w ↦ rw w.result-is c.args.self.packed
      | in-Control w ↦ rw (w.result-is, w.pack.ensures, w.control_next.ensures, w.unpack.ensures) (next_small (Control _) c.args.self.look)
      | in-Switch w ↦ rw (w.result-is, w.pack-in-Switch.ensures, w.switched.ensures, w.unpack-in-Switch.ensures) (next_small (Switch _) c.args.self.look)
      | in_default w ↦ rw w.result-is c.args.self.packed
    ] in
    record { packed = small }
