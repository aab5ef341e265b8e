-- The document lies within the buffer.
use Rattle.std.proofs.Common.{arith, sym, length-take-le}
use Rattle.laws.proofs.Accepted.{length-fits}
use Rattle.cases.proofs.say_converted.Goals as goal

pub slice_bounds-adler-end : goal.slice_bounds-adler-end
slice_bounds-adler-end g c = omega (arith, length-fits _ _ _ c.convert-a.ensures.answer (omega arith))

pub slice_bounds-adler-end-2 : goal.slice_bounds-adler-end-2
slice_bounds-adler-end-2 g c = sym (length-take-le _ _ (slice_bounds-adler-end g c))
