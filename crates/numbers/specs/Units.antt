-- Units taken off a number.
-- Assumes nothing.
use Rattle.std.specs.Prelude.{cond, ℕ, ◌+◌, ◌-◌, leb}
use Rattle.numbers.specs.declared.Leading.{Leading}

-- some units, of a size together, are taken off what is left if they go, and counted in the digit
unfoldable pub taken_off : Leading → ℕ → ℕ → Leading
taken_off l units size = cond (leb size l.rest) (record { digit = l.digit + units; rest = l.rest - size }) l
