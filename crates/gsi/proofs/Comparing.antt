-- Two lists compared byte by byte.
-- Assumes nothing.
use Prim.Native.Nat.{ℕ}
use mathlib.Core.List.{List, [], ◌∷◌}
use mathlib.Core.Path.{◌≡◌, refl}
use lib.Dec.{eqb}
use Rattle.std.specs.Str.{bytes_eq}
use Rattle.meaning.specs.Lists.{same}
use Rattle.meaning.proofs.Logic.{by_test}

-- what `==` computes
pub bytes_eq_same : (a b : List ℕ) → bytes_eq a b ≡ same a b
unfolding same
bytes_eq_same [] [] = refl
bytes_eq_same [] (y ∷ ys) = refl
bytes_eq_same (x ∷ xs) [] = refl
bytes_eq_same (x ∷ xs) (y ∷ ys) = by_test (eqb x y) (λ e. rw (e, same) (bytes_eq_same xs ys)) (λ e. rw (e, same))
