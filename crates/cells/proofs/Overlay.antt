-- Values stored over others, of which only as many as there are places for are stored. `sets` cuts by itself, so `Hiding.decoded` goes by `Storing.sets-over`
-- alone; this law, for values that are cut before, stands for itself.
-- Assumes nothing.
use Prim.Native.Nat.{ℕ, zero, suc, ◌≤◌}
use native.Mathlib.Omega.{arith}
use native.Mathlib.Nat.{not-suc-le-zero, le_of_suc-le-suc}
use mathlib.Core.Path.{◌≡◌, refl, sym, ap, ◌∙◌}
use mathlib.Core.List.{List, [], ◌∷◌, ◌++◌, map, map-append}
use lib.ListN.{length, take, drop, replicate, length-take, length-map, length-replicate}
use lib.LanesLaws.{map-replicate}
use Rattle.std.proofs.lemmas.List.{drop-map}
use Rattle.output.specs.Output.{stored}
use Rattle.cells.proofs.Storing.{sets-over}

module _ {A : Type 0} where
  take-over : (m : ℕ) (ys xs : List A) → length ys ≤ length xs → take m ys ++ drop (length (take m ys)) (take m xs) ≡ take m (ys ++ drop (length ys) xs)
  take-over zero ys xs h = refl
  take-over (suc m) [] xs h = refl
  take-over (suc m) (y ∷ ys) [] h = absurd (not-suc-le-zero h)
  take-over (suc m) (y ∷ ys) (x ∷ xs) h = ap (λ (l : List A). y ∷ l) (take-over m ys xs (le_of_suc-le-suc h))

module _ {A B : Type 0} (f : A → B) where
  -- of values in m places the first n stored over by copies of one
  pub copies_over : (array : List B) {first second : List B} (m n : ℕ) (x : A) (xs : List A) {whole : List A} → whole ≡ replicate n x ++ drop n xs → n ≤ length xs
      → first ≡ stored array 0 (take m (map f xs)) → second ≡ stored first 0 (take m (replicate n (f x))) → second ≡ stored array 0 (take m (map f whole))
  unfolding stored
  copies_over array m n x xs w h p q =
      let ys = replicate n (f x) in
      let vs = map f xs in
      let size : length ys ≤ length vs = omega (arith, length-replicate n (f x), length-map xs f) in
      let short : length (take m ys) ≤ length (take m vs) = omega (arith, length-take m ys, length-take m vs) in
      let values : ys ++ drop (length ys) vs ≡ map f (replicate n x ++ drop n xs) =
      rw length-replicate ((λ i. sym (map-replicate f n x) i ++ drop-map f n xs i) ∙ sym (map-append f (replicate n x) (drop n xs))) in
      rw (q, p, w) (sets-over array 0 (take m ys) (take m vs) short ∙ ap (stored array 0) (take-over m ys vs size ∙ ap (take m) values))
