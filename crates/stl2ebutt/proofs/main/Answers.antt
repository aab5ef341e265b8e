-- The document that is written lies within the buffer.
use Rattle.std.proofs.Common.{arith, sym, length-take-le}
use Rattle.laws.proofs.Accepted.{length-fits}
use Rattle.stl2ebutt.proofs.main.Goals as goal

pub slice_bounds-out-end : goal.slice_bounds-out-end
slice_bounds-out-end c = omega (arith, length-fits _ _ _ c.convert-a.ensures.answer (omega arith))

pub slice_bounds-write_all-end : goal.slice_bounds-write_all-end
slice_bounds-write_all-end c = sym (length-take-le _ _ (omega (arith, length-fits _ _ _ c.convert-a.ensures.answer (omega arith))))
