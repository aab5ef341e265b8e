-- `put_words` writes one number after another.
-- Assumes nothing.
use lib.ListN.{take}
use Rattle.output.specs.Output.{Put}
use Rattle.words.specs.Words.{words_bytes}
use Rattle.words.proofs.put_words.Given as goal

abbrev pub invariant-loop-n : goal.invariant-loop-n
invariant-loop-n l = Put l.initial.w (words_bytes (take l.n-index l.ns)) l.w
