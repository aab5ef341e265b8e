-- Values stored in a list from a place on; what falls past its end is cut.
-- Assumes nothing.
use Prim.Native.Nat.{ℕ, zero, suc, ◌+◌, ◌-◌, ◌≤◌, ◌<◌, min}
use native.Mathlib.Nat.{not-suc-le-zero, le_of_suc-le-suc}
use native.Mathlib.Omega.{arith}
use mathlib.Core.Path.{◌≡◌, refl, sym, ap, ◌∙◌}
use mathlib.Core.List.{List, [], ◌∷◌, ◌++◌, map}
use lib.ListN.{length, set, take, drop, replicate, length-replicate, length-take}
use lib.Seq.{sets, sets-eq, set-set, set_comm, map-set}
use Rattle.std.proofs.lemmas.List.{take-replicate}
use Rattle.output.specs.Output.{stored}
use Rattle.output.proofs.Laws.{stored-cut}

module _ {A : Type 0} where
  set_apart : (l : List A) (k j : ℕ) (y : A) (xs : List A) → k < j → set (sets l j xs) k y ≡ sets (set l k y) j xs
  set_apart l k j y [] h = refl
  set_apart l k j y (x ∷ xs) h =
      set_apart (set l j x) k (suc j) y xs (omega arith) ∙ ap (λ (a : List A). sets a (suc j) xs) (set_comm l j k x y (λ e. omega (arith, h, e)))

  -- what was stored first stays where the second ends
  pub sets-over : (l : List A) (k : ℕ) (ys xs : List A) → length ys ≤ length xs → sets (sets l k xs) k ys ≡ sets l k (ys ++ drop (length ys) xs)
  sets-over l k [] xs h = refl
  sets-over l k (y ∷ ys) [] h = absurd (not-suc-le-zero h)
  sets-over l k (y ∷ ys) (x ∷ xs) h =
      ap (λ (a : List A). sets a (suc k) ys)
      (set_apart (set l k x) k (suc k) y xs (omega arith) ∙ ap (λ (a : List A). sets a (suc k) xs) (set-set l k x y))
      ∙ sets-over (set l k y) (suc k) ys xs (le_of_suc-le-suc h)

  sets-suc : (y : A) (l : List A) (k : ℕ) (xs : List A) → sets (y ∷ l) (suc k) xs ≡ y ∷ sets l k xs
  sets-suc y l k [] = refl
  sets-suc y l k (x ∷ xs) = sets-suc y (set l k x) (suc k) xs

  -- the first n of the values that were stored from the start on
  pub take-sets : (n : ℕ) (l xs : List A) → n ≤ length xs → n ≤ length l → take n (sets l 0 xs) ≡ take n xs
  take-sets zero l xs h k = refl
  take-sets (suc n) [] xs h k = absurd (not-suc-le-zero k)
  take-sets (suc n) (z ∷ l) [] h k = absurd (not-suc-le-zero h)
  take-sets (suc n) (z ∷ l) (x ∷ xs) h k =
      ap (take (suc n)) (sets-suc x l 0 xs) ∙ ap (λ (a : List A). x ∷ a) (take-sets n l xs (le_of_suc-le-suc h) (le_of_suc-le-suc k))

-- the first n replaced by copies of one, or all where there are fewer
pub sets_copies : {A : Type 0} (l : List A) (m n k : ℕ) (x : A) {y : A} {ys : List A} → x ≡ y → n ≡ min (length l) m → k ≡ n → ys ≡ replicate (length (take k l)) x
    → ys ++ drop k l ≡ sets l 0 (replicate m y)
unfolding stored
sets_copies l m n k x {y} {ys} e h z s =
    let size : length (take k l) ≡ n = omega (arith, h, z, length-take k l) in
    let front : ys ≡ replicate n y = rw (s, size) (ap (replicate n) e) in
    let few : n ≡ min (length (replicate m y)) (length l - 0) = omega (arith, h, length-replicate m y) in
    let at : 0 + length (replicate n y) ≡ n = omega (arith, length-replicate n y) in
    let fits : 0 + length (replicate n y) ≤ length l = omega (arith, at, h) in
    (λ i. front i ++ ap (λ (j : ℕ). drop j l) z i)
    ∙ sym (sym (stored-cut l 0 n (replicate m y) few) ∙ ap (sets l 0) (take-replicate n m y (omega (arith, h))) ∙ sets-eq (replicate n y) l 0 fits ∙ rw at)

pub map-sets : {A B : Type 0} (f : A → B) (l : List A) (k : ℕ) (xs : List A) → map f (sets l k xs) ≡ sets (map f l) k (map f xs)
map-sets f l k [] = refl
map-sets f l k (x ∷ xs) = map-sets f (set l k x) (suc k) xs ∙ ap (λ (a : List _). sets a (suc k) (map f xs)) (map-set f l k x)
