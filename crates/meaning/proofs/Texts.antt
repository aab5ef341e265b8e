-- A block's text is short, whatever the block is.
-- Assumes nothing.
use Prim.Native.Nat.{ℕ, ◌≤◌}
use native.Mathlib.Omega.{arith}
use native.Mathlib.Nat.{le_trans}
use mathlib.Core.Bool.{Bool}
use mathlib.Core.List.{List}
use lib.ListN.{length, take, drop, length-take}
use Rattle.meaning.specs.Lists.{take_while, field}
use Rattle.meaning.specs.Blocks.{text_size, in_text, block_text}
use Rattle.meaning.proofs.ListLaws.{while_short}

field-short : (p : ℕ → Bool) (from n : ℕ) (s : List ℕ) → length (take_while p (field from n s)) ≤ n
unfolding field
field-short p from n s = omega (arith, while_short p (take n (drop from s)), length-take n (drop from s))

pub text-short : (b : List ℕ) → length (block_text b) ≤ text_size
unfolding block_text
text-short b = le_trans (field-short in_text _ _ b) (omega arith)
