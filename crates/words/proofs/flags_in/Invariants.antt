-- `flags_in` stores the truth values that both reach, one by one.
-- Assumes nothing.
use Rattle.output.proofs.Storing.{Storing}
use Rattle.words.specs.Flags.{flags_in}
use Rattle.words.proofs.flags_in.Given as goal

abbrev pub invariant-loop-j : goal.invariant-loop-j
invariant-loop-j l = Storing l.initial.on 0 (flags_in l.s) l.on l.j
