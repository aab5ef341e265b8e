use Prim.Native.Nat.{ℕ, zero, suc}
use native.Mathlib.Omega.{arith}
use mathlib.Core.Path.{◌≡◌, refl, ◌∙◌}
use mathlib.Core.Bool.{not}
use lib.Dec.{eqb}
use borrow.Author.Tests.{ne_eqb}
use Rattle.std.specs.Bool.{then_some}
use Rattle.charset.specs.Points.{point_of}
use Rattle.charset.proofs.characters.point_of.Goals as goal

point-then : (n : ℕ) → then_some (not (eqb n 0)) n ≡ point_of n
unfolding point_of
point-then zero = refl
point-then (suc n) = rw (ne_eqb (suc n) 0 (λ z. omega (arith, z)))

pub returns : goal.returns
returns c = c.then_some.ensures ∙ point-then _
