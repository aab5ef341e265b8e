-- `height_fault` looks for the first token that breaks rule 14.
-- Assumes nothing.
use Rattle.charset.specs.Readings.{readings_left}
use Rattle.rows.proofs.ReadTo.{ReadTo}
use Rattle.faults.proofs.HeightSearch.{HeightsLeft}
use Rattle.faults.proofs.height_fault.Given as goal

abbrev pub invariant-loop-at : goal.invariant-loop-at
invariant-loop-at l = ReadTo (HeightsLeft l.double l.paired l.text.bytes.now l.past) l.text.bytes.now (readings_left l.at-iterator)
