-- Decimal digits one by one, and the number that they write.
-- Assumes nothing.
use Prim.Native.Nat.{ℕ, ◌+◌, ◌*◌, ◌-◌, ◌<◌, ◌≤◌, ◌^◌}
use native.Mathlib.Nat.{pow-succ', pow-le-pow_right, lt_of_lt_of_le}
use native.Mathlib.Numerals.{add-one}
use native.Mathlib.Omega.{arith}
use mathlib.Core.Bool.{true, false}
use mathlib.Core.List.{List}
use mathlib.Core.Path.{◌≡◌, refl, sym, ◌∙◌}
use lib.ListN.{length, drop, get_or, drop_of_length-le}
use lib.Seq.{drop-cons}
use Rattle.std.specs.Prelude.{Option, Some, None, unwrap_or, IfSome}
use Rattle.meaning.proofs.Logic.{by_test, between}
use Rattle.gsi.specs.Decimals.{decimal}
use Rattle.meaning.specs.Gsi.{is_digit, value_from, number_in}
use Rattle.meaning.specs.Lists.{all}

-- digits from an index on
module _ (s : List ℕ) (i : ℕ) where
  pub digit_next : i < length s → is_digit (get_or s i 0) ≡ true → all is_digit (drop (i + 1) s) ≡ all is_digit (drop i s)
  unfolding all
  digit_next h e = rw (add-one, drop-cons s i 0 h, e, all)

  pub digit_missing : i < length s → is_digit (get_or s i 0) ≡ false → all is_digit (drop i s) ≡ false
  unfolding all
  digit_missing h e = rw (drop-cons s i 0 h, e, all)

  pub value_next : i < length s → (v : ℕ) → value_from (10 * v + (get_or s i 0 - 48)) (drop (i + 1) s) ≡ value_from v (drop i s)
  unfolding value_from
  value_next h v = rw (add-one, drop-cons s i 0 h)

  pub digits-ended : length s ≤ i → (all is_digit (drop i s) ≡ true) × ((v : ℕ) → value_from v (drop i s) ≡ v)
  unfolding all value_from
  digits-ended h = (rw drop_of_length-le, λ v. rw (drop_of_length-le s h))

pub digit_range : (c : ℕ) → is_digit c ≡ true → (48 ≤ c) × (c ≤ 57)
unfolding is_digit
digit_range c e = between 48 57 c e

-- i digits write a number below 10 ^ i
pub below_next : (v d i : ℕ) → v < 10 ^ i → d ≤ 9 → 10 * v + d < 10 ^ (i + 1)
below_next v d i h k = rw add-one (omega (arith, pow-succ' 10 i))

pub below : (n v i : ℕ) → v < 10 ^ i → i ≤ n → v < 10 ^ n
below n v i h k = lt_of_lt_of_le h (pow-le-pow_right {n = 10} (omega arith) k)

-- i digits were read, and they write a value
pub record Reading (s : List ℕ) (i value : ℕ) : Type 0 where
  pub small : value < 10 ^ i
  pub digits : all is_digit (drop i s) ≡ all is_digit s
  pub number : value_from value (drop i s) ≡ value_from 0 s

pub reading_none : (s : List ℕ) → Reading s 0 0
reading_none s = record { small = omega arith; digits = refl; number = refl }

module _ {s : List ℕ} {i v : ℕ} (r : Reading s i v) where
  pub reading_more : (d : ℕ) → i < length s → is_digit (get_or s i 0) ≡ true → d ≡ get_or s i 0 - 48 → Reading s (i + 1) (10 * v + d)
  reading_more d h e f =
      let g = digit_range _ e in
      rw f
      (record { small = below_next _ _ _ r.small (omega arith); digits = digit_next s i h e ∙ r.digits; number = value_next s i h v ∙ r.number })

  -- five digits at most: the value stays small
  pub reading_small : i ≤ 5 → v < 100000
  reading_small h = below 5 v i r.small h

  pub reading_wrong : i < length s → is_digit (get_or s i 0) ≡ false → None ≡ decimal s
  unfolding decimal
  reading_wrong h e = rw (sym r.digits ∙ digit_missing s i h e)

  pub reading_done : length s ≤ i → Some v ≡ decimal s
  unfolding decimal
  reading_done h = let e = digits-ended s i h in rw (sym r.digits ∙ e.0, sym r.number ∙ e.1 v)

-- the number of a field, with a byte that is no digit, and with digits only
module _ (s : List ℕ) where
  pub decimal_or_0 : unwrap_or (decimal s) 0 ≡ number_in s
  unfolding decimal number_in
  decimal_or_0 = by_test (all is_digit s) (λ e. rw e) (λ e. rw e)

-- two digits at most write a number below 100
pub two_digits : (s : List ℕ) (o : Option ℕ) → length s ≤ 2 → IfSome o (λ n. n < 10 ^ length s) → IfSome o (λ n. n < 100)
two_digits s None h k = k
two_digits s (Some n) h k = omega (arith, lt_of_lt_of_le k (pow-le-pow_right {n = 10} (omega arith) h))
