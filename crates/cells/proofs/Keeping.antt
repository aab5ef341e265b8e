-- How many codes of a text fit two arrays from a place on, as plain bounds. A row's cells stand in one array, so no proof goes by it: it stands for itself, for
-- whoever stores in two.
-- Assumes nothing.
use Prim.Native.Nat.{ℕ, ◌+◌, ◌-◌, ◌≤◌, min}
use native.Mathlib.Omega.{arith}
use mathlib.Core.Path.{◌≡◌}

-- a part of a text of `size` codes, and as many of its codes as two arrays of a and b places have room for from place k on
pub record Few (size from to k a b few : ℕ) : Type 0 where
  pub codes : from + few ≤ size
  pub characters : few ≤ a - k
  pub looks : few ≤ b - k

pub few_fit : (size from to k a b few : ℕ) → from ≤ to → to ≤ size → few ≡ min (to - from) (min a b - k) → Few size from to k a b few
few_fit size from to k a b few h g e =
    let n : few ≤ to - from = omega (arith, e) in
    record { codes = omega (arith, n, h, g); characters = omega (arith, e); looks = omega (arith, e) }
