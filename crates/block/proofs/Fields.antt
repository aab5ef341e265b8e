-- Parts of a list that are cut at its end.
-- Assumes nothing.
use Prim.Native.Nat.{ℕ, ◌≤◌}
use native.Mathlib.Omega.{arith}
use mathlib.Core.List.{List}
use lib.ListN.{length, length-take}
use Rattle.meaning.specs.Lists.{field}

pub field_length : (from n : ℕ) (s : List ℕ) → length (field from n s) ≤ n
unfolding field
field_length from n s = simp length-take (omega arith)
