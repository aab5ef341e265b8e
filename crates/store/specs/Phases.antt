-- The first number of a store, and the phase that it spells.
-- Assumes nothing.
use Rattle.std.specs.Prelude.{ℕ, Bool, true, false, cond, Option, Some, None, eqb}
use Rattle.store.specs.declared.Phase.{Phase}
use Rattle.store.specs.declared.Phase.TheVariants.{Open, Closed, Other}
use Rattle.store.specs.Layout.{open_phase, closed_phase, is_phase}

unfoldable pub phase_number : Phase → ℕ
phase_number Open = open_phase
phase_number Closed = closed_phase
phase_number (Other n) = n

-- the phase of any number: one that spells no phase stands as it is
unfoldable pub phase_from : ℕ → Phase
phase_from n = cond (eqb n closed_phase) Closed (cond (eqb n open_phase) Open (Other n))

-- the phase of a number, if it spells one
unfoldable pub phase_in : ℕ → Option Phase
phase_in n = cond (is_phase n) (Some (phase_from n)) None

unfoldable pub is_closed : Phase → Bool
is_closed Open = false
is_closed Closed = true
is_closed (Other n) = eqb n closed_phase
