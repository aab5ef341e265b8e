-- `code_fault` looks for the first token that is not listed.
-- Assumes nothing.
use Rattle.charset.specs.Readings.{readings_left}
use Rattle.rows.proofs.ReadTo.{ReadTo}
use Rattle.faults.proofs.TokenSearch.{CodesLeft}
use Rattle.faults.proofs.code_fault.Given as goal

abbrev pub invariant-loop-at : goal.invariant-loop-at
invariant-loop-at l = ReadTo (CodesLeft l.teletext l.text) l.text (readings_left l.at-iterator)
