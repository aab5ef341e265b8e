-- `mnr` reads two digits.
-- Assumes nothing.
use native.Mathlib.Nat.{le_trans}
use native.Mathlib.Omega.{arith}
use Rattle.block.proofs.Fields.{field_length}
use Rattle.gsi.proofs.Digits.{two_digits}
use Rattle.gsi.proofs.mnr.Goals as goal

pub returns-clause-small : goal.returns-clause-small
returns-clause-small c =
    two_digits c.field.result.now c.read_decimal.result (rw c.field.ensures (le_trans (field_length _ _ _) (omega arith))) c.read_decimal.ensures.small
