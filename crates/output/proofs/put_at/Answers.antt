-- `put_at` copies the values that fit.
-- Assumes nothing.
use mathlib.Core.Path.{sym, ◌∙◌}
use native.Mathlib.Omega.{arith}
use lib.ListN.{length}
use lib.Seq.{take_all}
use Prim.Native.Nat.{◌-◌}
use Rattle.output.proofs.Laws.{stored-out, stored-copied}
use Rattle.output.proofs.put_at.Goals as goal

pub returns-then-values-room : goal.returns-then-values-room
returns-then-values-room g c =
    let xs = c.args.values.now in
    stored-copied c.args.array.now c.args.at xs (length xs) _ (omega arith) (omega arith) (omega arith) (c.copy_from_slice.ensures.after ∙ sym (take_all _ xs (omega arith)))

pub returns-else-values-room : goal.returns-else-values-room
returns-else-values-room g c =
    let array = c.args.array.now in
    stored-copied array c.args.at c.args.values.now (length array - c.args.at) _ (omega arith) (omega arith) (omega arith)
    c.copy_from_slice-else-values-room.ensures.after

pub returns-else-at-array : goal.returns-else-at-array
returns-else-at-array g c = sym (stored-out c.args.array.now c.args.at c.args.values.now (omega arith))
