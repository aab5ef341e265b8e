-- Alignment by the number of JC.
-- Assumes nothing.
use Prim.Native.Nat.{ℕ, zero, suc, ◌<◌}
use native.Mathlib.Omega.{arith}
use mathlib.Core.Path.{◌≡◌, refl}
use Rattle.meaning.specs.Document.Alignment.{left, right}
use Rattle.meaning.specs.Conversion.{alignment_of}

pub align_left : (n : ℕ) → n < 2 → alignment_of n ≡ left
unfolding alignment_of
align_left zero h = refl
align_left (suc zero) h = refl
align_left (suc (suc n)) h = absurd (omega arith)

pub align_right : (n : ℕ) → 2 < n → alignment_of n ≡ right
unfolding alignment_of
align_right zero h = absurd (omega arith)
align_right (suc zero) h = absurd (omega arith)
align_right (suc (suc zero)) h = absurd (omega arith)
align_right (suc (suc (suc n))) h = refl
