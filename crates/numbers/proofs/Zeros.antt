-- The digits from an index on, without their leading zeros: one zero is passed over, another digit ends them, and the last digit stays.
-- Assumes nothing.
use mathlib.Core.Path.{◌≡◌, refl, sym, ap, ◌∙◌}
use mathlib.Core.List.{List, [], ◌∷◌}
use Prim.Native.Nat.{ℕ, zero, suc, ◌+◌, ◌-◌, ◌<◌, ◌≤◌}
use native.Mathlib.Numerals.{add-one}
use native.Mathlib.Omega.{arith}
use borrow.Author.Tests.{eq-eqb, ne_eqb}
use mathlib.Core.Logic.{◌≢◌}
use lib.ListN.{length, take, drop, get_or, length-drop}
use lib.Seq.{drop-cons, take_all, length-take-le, get_or-take}
use Rattle.std.specs.List.{AllWithin, HoldsAt}
use Rattle.std.specs.Option.{MatchOption, unwrap_or}
use Rattle.std.specs.Prelude.{Option, None, Some}
use Rattle.meaning.specs.Document.{digits, without_zeros, decimal}

module _ (s : List ℕ) (i : ℕ) where
  pub zero-passed : i + 1 < length s → get_or s i 0 ≡ 48 → without_zeros (drop (i + 1) s) ≡ without_zeros (drop i s)
  unfolding without_zeros
  zero-passed h e = rw (add-one, drop-cons s i 0 (omega arith), drop-cons s (suc i) 0 (omega arith), eq-eqb (get_or s i 0) 48 e, without_zeros)

  pub digit_found : i + 1 < length s → (get_or s i 0 ≡ 48 → ⊥) → drop i s ≡ without_zeros (drop i s)
  unfolding without_zeros
  digit_found h e = rw (drop-cons s i 0 (omega arith), drop-cons s (suc i) 0 (omega arith), ne_eqb (get_or s i 0) 48 e, without_zeros)

one_digit : (s : List ℕ) → length s ≤ 1 → s ≡ without_zeros s
unfolding without_zeros
one_digit [] h = refl
one_digit (d ∷ []) h = refl
one_digit (d ∷ e ∷ ds) h = absurd (omega arith)

pub last_digit : (s : List ℕ) (i : ℕ) → length s ≤ i + 1 → drop i s ≡ without_zeros (drop i s)
last_digit s i h = one_digit (drop i s) (simp length-drop (omega arith))

-- zeros up to an index are all passed over
zeros_passed : (s : List ℕ) (i : ℕ) → i < length s → ((k : ℕ) → k < i → get_or s k 0 ≡ 48) → without_zeros (drop i s) ≡ without_zeros s
zeros_passed s zero h z = refl
zeros_passed s (suc i) h z =
    rw add-one at (zero-passed s i (omega arith) (z i (omega arith))) ∙ zeros_passed s i (omega arith) (λ k b. z k (omega arith))

-- the first digit that is no zero among all but the last, or else the last
pub first_digit :
    (s : List ℕ) (m : ℕ) (r : Option ℕ) {from : ℕ} → length s ≡ m + 1
    → MatchOption r (AllWithin (λ d. d ≡ 48) (take m s) 0 (length (take m s)))
    (λ i. (i < length (take m s)) × HoldsAt (λ d. d ≢ 48) (take m s) i × AllWithin (λ d. d ≡ 48) (take m s) 0 i)
    → from ≡ unwrap_or r m → drop from s ≡ without_zeros s
first_digit s m None e h f =
    let size : length (take m s) ≡ m = length-take-le m s (omega arith) in
    rw f
    (last_digit s m (omega arith)
    ∙ zeros_passed s m (omega arith) (λ k b. sym (get_or-take m s k 0 b) ∙ h k 0 (omega arith) (omega (arith, size))))
first_digit s m (Some i) e h f =
    let size : length (take m s) ≡ m = length-take-le m s (omega arith) in
    let b : i < m = omega (arith, size, h.0) in
    rw f
    (digit_found s i (omega arith) (λ z. h.1 0 (get_or-take m s i 0 b ∙ z))
    ∙ zeros_passed s i (omega arith) (λ k a. sym (get_or-take m s k 0 (omega arith)) ∙ h.2 k 0 (omega arith) a))

-- the last five digits from the first that counts on, as a part of their array
pub decimal-part : {all : List ℕ} (r n : ℕ) → drop r all ≡ without_zeros all → all ≡ digits 5 n → decimal n ≡ take (5 - r) (drop r all)
unfolding decimal digits
decimal-part {all} r n d e = sym (take_all (5 - r) (drop r all) (simp length-drop (omega (arith, ap length e))) ∙ d ∙ ap without_zeros e)

-- the digits from an index on, as a part of the array of five
pub part_of_five : (all : List ℕ) {xs : List ℕ} (r : ℕ) → length all ≡ 5 → drop r all ≡ xs → xs ≡ take (5 - r) (drop r all)
part_of_five all r e d = sym (take_all (5 - r) (drop r all) (simp length-drop (omega (arith, e))) ∙ d)
