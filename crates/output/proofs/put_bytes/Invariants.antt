-- `put_bytes` stores the bytes that fit, one by one.
-- Assumes nothing.
use Rattle.output.proofs.Storing.{Storing}
use Rattle.output.proofs.put_bytes.Given as goal

abbrev pub invariant-loop-j : goal.invariant-loop-j
invariant-loop-j l = Storing l.initial.buffer l.at l.bytes l.buffer l.j
