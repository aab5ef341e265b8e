-- `put_byte` stores one byte if it fits.
-- Assumes nothing.
use mathlib.Core.Path.{refl}
use native.Mathlib.Omega.{arith}
use Rattle.output.specs.Output.{stored}
use Rattle.output.proofs.Laws.{put-out}
use Rattle.output.proofs.Writer.put_byte.Goals as goal
use Rattle.output.proofs.Writer.put_byte.Goals.{then-at-self, else-at-self}

pub returns : goal.returns
unfolding stored
returns c =
    elim c.if-at-self.branch [
      | then-at-self w ↦ rw w.self-is (record { wrote = record { held = refl; next = c.after-self.ensures; room = omega arith }; same = refl })
      | else-at-self w ↦ rw w.self-is (put-out c.args.self.now _ (omega arith) (omega arith) c.after-self.ensures)
    ]
