-- `text_offset` passes the texts of blocks until the byte is in one; the loop is seen from what is left.
-- Assumes nothing.
use Prim.Native.Nat.{◌-◌}
use mathlib.Core.Path.{◌≡◌}
use Rattle.meaning.specs.Reasons.{text_offset}
use Rattle.explain.proofs.text_offset.Given as goal

abbrev pub invariant-loop-k : goal.invariant-loop-k
invariant-loop-k l = text_offset l.file (l.k-end - l.k) l.k l.left ≡ text_offset l.file (l.k-end - l.place) l.place l.i
