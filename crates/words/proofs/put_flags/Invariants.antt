-- `put_flags` stores the truth values that fit, one by one.
-- Assumes nothing.
use Rattle.output.proofs.Storing.{Storing}
use Rattle.words.specs.Flags.{flags_bytes}
use Rattle.words.proofs.put_flags.Given as goal

abbrev pub invariant-loop-j : goal.invariant-loop-j
invariant-loop-j l = Storing l.initial.s l.at (flags_bytes l.on) l.s l.j
