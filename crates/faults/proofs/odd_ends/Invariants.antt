-- `odd_ends` counts the row ends that stand first, as odd or even.
-- Assumes nothing.
use Rattle.charset.specs.Readings.{readings_left}
use Rattle.rows.proofs.ReadTo.{ReadTo}
use Rattle.faults.proofs.HeightSearch.{OddLeft}
use Rattle.faults.proofs.odd_ends.Given as goal

abbrev pub invariant-loop-read : goal.invariant-loop-read
invariant-loop-read l = ReadTo (OddLeft l.text l.start l.odd) l.text (readings_left l.read-iterator)
