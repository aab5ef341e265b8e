-- The digits of a number told from the left, unit by unit.
-- Assumes nothing.
use mathlib.Core.Path.{◌≡◌, refl, sym, ap, subst, ◌∙◌}
use mathlib.Core.List.{List, [], ◌∷◌, ◌++◌}
use Prim.Native.Nat.{ℕ, suc, zero, ◌+◌, ◌-◌, ◌*◌, ◌/◌, ◌%◌, ◌<◌}
use native.Mathlib.Nat.{add-suc, add-mul, add-mul-div_right, add-mul-mod_self_right, div-eq_of_lt, mod-eq_of_lt}
use native.Mathlib.Omega.{arith}
use borrow.Author.Tests.{le-leb, lt-leb}
use lib.ListN.{drop, drop_of_length-le}
use lib.Seq.{drop-append-le}
use Rattle.meaning.specs.Document.{digits}
use Rattle.meaning.proofs.Logic.{by_le}
use Rattle.meaning.proofs.DigitLaws.{digits-length}
use Rattle.numbers.specs.declared.Leading.{Leading}
use Rattle.numbers.specs.Units.{taken_off}

-- a digit has counted units of n, and fewer than `most` are left
pub record Counted (n unit most : ℕ) (l : Leading) : Type 0 where
  pub told : l.digit + l.rest / unit ≡ 48 + n / unit
  pub left : l.rest % unit ≡ n % unit
  pub few : l.rest < most * unit

module _ (n unit : ℕ) where
  pub none-counted : n < 10 * unit → Counted n unit 16 (record { digit = 48; rest = n })
  none-counted h = record { told = refl; left = refl; few = omega arith }

  pub all-counted : (l : Leading) → Counted n unit 1 l → (l.digit ≡ 48 + n / unit) × (l.rest ≡ n % unit)
  all-counted l c =
      let none : l.rest / unit ≡ 0 = div-eq_of_lt (omega (arith, c.few)) in
      let all : l.rest % unit ≡ l.rest = mod-eq_of_lt (omega (arith, c.few)) in
      (omega (arith, none, c.told), sym all ∙ c.left)

  -- units that go are counted; if they do not go, fewer than these are left
  taken : (units size : ℕ) (l : Leading) → 0 < unit → size ≡ units * unit → Counted n unit (units + units) l → Counted n unit units (taken_off l units size)
  unfolding taken_off
  taken units size l z e c =
      let twice : (units + units) * unit ≡ size + size = add-mul units units unit ∙ rw e in
      by_le size l.rest
      (λ h.
      let whole : (l.rest - size) + units * unit ≡ l.rest = omega (arith, e) in
      let quotient : l.rest / unit ≡ (l.rest - size) / unit + units = ap (λ m. m / unit) (sym whole) ∙ add-mul-div_right (l.rest - size) units z in
      let remainder : l.rest % unit ≡ (l.rest - size) % unit = ap (λ m. m % unit) (sym whole) ∙ add-mul-mod_self_right (l.rest - size) units unit in
      rw (le-leb size l.rest h, taken_off)
      (record { told = omega (arith, quotient, c.told); left = sym remainder ∙ c.left; few = omega (arith, e, twice, c.few) }))
      (λ h.
      rw (lt-leb size l.rest h, taken_off) (record { told = c.told; left = c.left; few = omega (arith, e) }))

  pub counted : (units size : ℕ) {l r : Leading} → 0 < unit → size ≡ units * unit → r ≡ taken_off l units size → Counted n unit (units + units) l → Counted n unit units r
  counted units size {l} z e t c = subst (Counted n unit units) (sym t) (taken units size l z e c)

-- each unit is counted in what the units before it leave
pub five : (n : ℕ) → n < 65536
    → digits 5 n ≡ (48 + n / 10000) ∷ (48 + n % 10000 / 1000) ∷ (48 + n % 10000 % 1000 / 100) ∷ (48 + n % 10000 % 1000 % 100 / 10) ∷ (48 + n % 10000 % 1000 % 100 % 10) ∷ []
unfolding digits
five n h =
    let ten-thousands : n / 10 / 10 / 10 / 10 % 10 ≡ n / 10000 = omega arith in
    let thousands : n / 10 / 10 / 10 % 10 ≡ n % 10000 / 1000 = omega arith in
    let hundreds : n / 10 / 10 % 10 ≡ n % 10000 % 1000 / 100 = omega arith in
    let tens : n / 10 % 10 ≡ n % 10000 % 1000 % 100 / 10 = omega arith in
    let ones : n % 10 ≡ n % 10000 % 1000 % 100 % 10 = omega arith in
    rw (ten-thousands, thousands, hundreds, tens, ones)

-- the last of more digits
pub last_digits : (j k n : ℕ) → drop j (digits (j + k) n) ≡ digits k n
unfolding digits
last_digits j zero n = drop_of_length-le (digits (j + 0) n) {i = j} (omega (arith, digits-length (j + 0) n))
last_digits j (suc k) n =
    rw (add-suc j k)
    (drop-append-le j (digits (j + k) (n / 10)) ((48 + n % 10) ∷ []) (omega (arith, digits-length (j + k) (n / 10)))
    ∙ ap (λ (ds : List ℕ). ds ++ ((48 + n % 10) ∷ [])) (last_digits j k (n / 10)))
