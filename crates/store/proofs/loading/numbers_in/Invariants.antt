-- `numbers_in` reads the numbers one by one.
-- Assumes nothing.
use Rattle.store.proofs.Reading.{Loaded}
use Rattle.store.proofs.loading.numbers_in.Given as goal

abbrev pub invariant-loop-i : goal.invariant-loop-i
invariant-loop-i l = Loaded l.store l.numbers l.i
