-- `read_decimal` reads digits. The loop's invariant: what they write after those passed is what they write in whole, and all
-- from the index on are digits where all are.
-- Assumes nothing.
use Rattle.gsi.proofs.Digits.{Reading}
use Rattle.gsi.proofs.read_decimal.Given as goal

abbrev pub invariant-loop-c : goal.invariant-loop-c
invariant-loop-c l = Reading l.digits l.c-index l.value
