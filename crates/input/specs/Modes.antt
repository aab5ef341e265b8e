-- The break mode that a digit names: document 01, "The document, whole".
-- Assumes nothing.
use Rattle.std.specs.Prelude.{ℕ, cond, eqb}

-- the digits 1 and 2; another byte is mode 0
unfoldable pub mode_of : ℕ → ℕ
mode_of digit = cond (eqb digit 49) 1 (cond (eqb digit 50) 2 0)
