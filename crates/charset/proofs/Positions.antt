-- A reading moves on within the text; where a row ends, token by token.
-- Assumes nothing.
use Prim.Native.Nat.{ℕ, zero, suc, ◌+◌, ◌-◌, ◌≤◌, ◌<◌}
use native.Mathlib.Omega.{arith}
use mathlib.Core.Path.{◌≡◌, refl, sym, ap, subst, ◌∙◌}
use mathlib.Core.Bool.{true, false, cond}
use mathlib.Core.List.{List, [], ◌∷◌}
use lib.Dec.{ltb}
use lib.ListN.{length, get_or}
use borrow.Author.Tests.{lt-ltb, le-ltb, ltb-true}
use Rattle.std.specs.Prelude.{Some, None}
use Rattle.meaning.specs.declared.Token.{Token}
use Rattle.meaning.specs.declared.Token.TheVariants.{Unlisted}
use Rattle.meaning.specs.Codes.{is_accent, code_token, pair_token, is_row_end}
use Rattle.std.proofs.lemmas.Bool.{and_parts}
use Rattle.meaning.proofs.Logic.{by_test, by_le}
use Rattle.charset.specs.declared.Reading.{Reading}
use Rattle.charset.specs.Plain.{plain_end}
use Rattle.charset.specs.Reading.{is_pair_at, pair_at, reading_at, token_at, next_at, after_row_in, after_row_at, met_in, met_from, readings_from, run_end, runs_from}

module _ (s : List ℕ) (i : ℕ) where
  pair_parts : is_pair_at s i ≡ true → (is_accent (get_or s i 0) ≡ true) × (i + 1 < length s)
  unfolding is_pair_at
  pair_parts p =
      let both = and_parts (is_accent (get_or s i 0)) (ltb (i + 1) (length s)) p in
      (both.0, ltb-true (i + 1) (length s) both.1)

  read_pair : i < length s → is_pair_at s i ≡ true → reading_at s i ≡ record { token = pair_token (get_or s i 0) (get_or s (i + 1) 0); next = i + 2 }
  unfolding reading_at
  read_pair h p = rw (lt-ltb i (length s) h, p)

  read-single : i < length s → is_pair_at s i ≡ false → reading_at s i ≡ record { token = code_token (get_or s i 0); next = i + 1 }
  unfolding reading_at
  read-single h p = rw (lt-ltb i (length s) h, p)

  -- the two cases, as `pair_at` tells them
  at_pair : is_pair_at s i ≡ true → pair_at s (get_or s i 0) (i + 1) ≡ Some (pair_token (get_or s i 0) (get_or s (i + 1) 0))
  unfolding pair_at is_pair_at
  at_pair e = rw (e, pair_at)

  at_single : is_pair_at s i ≡ false → pair_at s (get_or s i 0) (i + 1) ≡ None
  unfolding pair_at is_pair_at
  at_single e = rw (e, pair_at)

  pub read_some : {t : Token} → i < length s → pair_at s (get_or s i 0) (i + 1) ≡ Some t → record { token = t; next = i + 2 } ≡ reading_at s i
  read_some {t} h e =
      by_test (is_pair_at s i)
      (λ p.
      let f = at_pair p in
      let g : t ≡ pair_token (get_or s i 0) (get_or s (i + 1) 0) = cc in
      ap (λ (t : Token). record { token = t; next = i + 2 }) g ∙ sym (read_pair h p))
      (λ p. let f = at_single p in cc)

  pub read_none : i < length s → pair_at s (get_or s i 0) (i + 1) ≡ None → record { token = code_token (get_or s i 0); next = i + 1 } ≡ reading_at s i
  read_none h e =
      by_test (is_pair_at s i)
      (λ p. let f = at_pair p in cc)
      (λ p. sym (read-single h p))

  -- what holds of the reading in both cases
  pub by_reading : (P : Reading → Type 0) → i < length s
      → (is_accent (get_or s i 0) ≡ true → i + 1 < length s → P (record { token = pair_token (get_or s i 0) (get_or s (i + 1) 0); next = i + 2 }))
      → (is_pair_at s i ≡ false → P (record { token = code_token (get_or s i 0); next = i + 1 }))
      → P (reading_at s i)
  by_reading P h f g =
      by_test (is_pair_at s i)
      (λ p. let b = pair_parts p in subst P (sym (read_pair h p)) (f b.0 b.1))
      (λ p. subst P (sym (read-single h p)) (g p))

  pub next-on : i < length s → (i < next_at s i) × (next_at s i ≤ length s)
  next-on h =
      by_reading (λ (r : Reading). (i < r.next) × (r.next ≤ length s)) h
      (λ a k. (omega arith, omega arith))
      (λ w. (omega arith, omega arith))

  pub read_over : length s ≤ i → reading_at s i ≡ record { token = Unlisted; next = i }
  unfolding reading_at
  read_over h = rw (le-ltb i (length s) h)

  -- one token of a row
  in_end : (n : ℕ) → is_row_end (token_at s i) ≡ true → after_row_in (suc n) s i ≡ next_at s i
  unfolding after_row_in
  in_end n e = rw (e, after_row_in)

  in_more : (n : ℕ) → is_row_end (token_at s i) ≡ false → after_row_in (suc n) s i ≡ after_row_in n s (next_at s i)
  unfolding after_row_in
  in_more n e = rw (e, after_row_in)

-- an accent and the code at a position after it
module _ (s : List ℕ) (c after : ℕ) where
  pub pair_here : is_accent c ≡ true → after < length s → pair_at s c after ≡ Some (pair_token c (get_or s after 0))
  unfolding pair_at
  pair_here a h = rw (a, lt-ltb after (length s) h, pair_at)

  pub pair_other : is_accent c ≡ false → pair_at s c after ≡ None
  unfolding pair_at
  pair_other a = rw (a, pair_at)

  pub pair_short : is_accent c ≡ true → length s ≤ after → pair_at s c after ≡ None
  unfolding pair_at
  pair_short a h = rw (a, le-ltb after (length s) h, pair_at)

-- past the end the position stays
in_over : (n : ℕ) (s : List ℕ) (i : ℕ) → length s ≤ i → after_row_in n s i ≡ i
unfolding after_row_in is_row_end
in_over zero s i h = refl
in_over (suc n) s i h =
    in_more s i n (ap (λ (r : Reading). is_row_end r.token) (read_over s i h))
    ∙ ap (λ (r : Reading). after_row_in n s r.next) (read_over s i h) ∙ in_over n s i h

-- turns enough are as good as others
in_enough : (n m : ℕ) (s : List ℕ) (i : ℕ) → length s ≤ i + n → length s ≤ i + m → after_row_in n s i ≡ after_row_in m s i
in_enough zero m s i h k = in_over zero s i (omega arith) ∙ sym (in_over m s i (omega arith))
in_enough (suc n) zero s i h k = in_over (suc n) s i (omega arith) ∙ sym (in_over zero s i (omega arith))
in_enough (suc n) (suc m) s i h k =
    by_le (length s) i
    (λ over. in_over (suc n) s i over ∙ sym (in_over (suc m) s i over))
    (λ e.
    let o = next-on s i e in
    by_test (is_row_end (token_at s i))
    (λ f. in_end s i n f ∙ sym (in_end s i m f))
    (λ f. in_more s i n f ∙ in_enough n m s (next_at s i) (omega arith) (omega arith) ∙ sym (in_more s i m f)))

-- the position after a row, by the first token of the row
pub row_step : (s : List ℕ) (i : ℕ) → i < length s → after_row_at s i ≡ cond (is_row_end (token_at s i)) (next_at s i) (after_row_at s (next_at s i))
unfolding after_row_at
row_step s i h =
    let o = next-on s i h in
    let size : length s - i ≡ suc (length s - i - 1) = omega arith in
    by_test (is_row_end (token_at s i))
    (λ e. rw (size, in_end s i (length s - i - 1) e, e))
    (λ e. rw (size, in_more s i (length s - i - 1) e, e) (in_enough _ _ s (next_at s i) (omega arith) (omega arith)))

pub row-over : (s : List ℕ) (i : ℕ) → length s ≤ i → after_row_at s i ≡ i
unfolding after_row_at
row-over s i h = in_over (length s - i) s i h

-- what is met from a position on
module _ {A : Type 0} (item : ℕ → A) (end : A → ℕ) (size : ℕ) where
  met_next : (n i : ℕ) → i < size → met_in item end (suc n) size i ≡ item i ∷ met_in item end n size (end (item i))
  unfolding met_in
  met_next n i h = rw (lt-ltb i size h, met_in)

  met_past : (n i : ℕ) → size ≤ i → met_in item end n size i ≡ []
  unfolding met_in
  met_past zero i h = refl
  met_past (suc n) i h = rw (le-ltb i size h, met_in)

  -- turns enough are as good as others
  met_enough : ((i : ℕ) → i < size → i < end (item i)) → (n m i : ℕ) → size ≤ i + n → size ≤ i + m → met_in item end n size i ≡ met_in item end m size i
  met_enough on zero m i h k = met_past zero i (omega arith) ∙ sym (met_past m i (omega arith))
  met_enough on (suc n) zero i h k = met_past (suc n) i (omega arith) ∙ sym (met_past zero i (omega arith))
  met_enough on (suc n) (suc m) i h k =
      by_le size i
      (λ over. met_past (suc n) i over ∙ sym (met_past (suc m) i over))
      (λ e.
      let o = on i e in
      met_next n i e ∙ ap (λ (xs : List A). item i ∷ xs) (met_enough on n m (end (item i)) (omega arith) (omega arith)) ∙ sym (met_next m i e))

  met-more : ((i : ℕ) → i < size → i < end (item i)) → (i : ℕ) → i < size → met_from item end size i ≡ item i ∷ met_from item end size (end (item i))
  met-more on i h =
      let o = on i h in
      let turns : size - i ≡ suc (size - i - 1) = omega arith in
      rw turns
      (met_next (size - i - 1) i h
      ∙ ap (λ (xs : List A). item i ∷ xs) (met_enough on (size - i - 1) (size - end (item i)) (end (item i)) (omega arith) (omega arith)))

  met-over : (i : ℕ) → size ≤ i → met_from item end size i ≡ []
  met-over i h = met_past (size - i) i h

-- What is met in a text of a size: at each position within it an item, and on from where the item ends. For loops over it.
pub record Met {A : Type 0} (from : ℕ → List A) (item : ℕ → A) (end : A → ℕ) (size : ℕ) : Type 0 where
  pub more : (i : ℕ) → i < size → from i ≡ item i ∷ from (end (item i))
  pub over : (i : ℕ) → size ≤ i → from i ≡ []

module _ (s : List ℕ) where
  readings_on : (i : ℕ) → i < length s → i < next_at s i
  readings_on i h = (next-on s i h).0

  runs_on : (i : ℕ) → i < length s → i < run_end s (reading_at s i)
  unfolding run_end plain_end
  runs_on i h =
      by_test (is_row_end (token_at s i)) (λ e. rw e (omega (arith, (next-on s i h).0))) (λ e. rw e (omega (arith, (next-on s i h).0)))

  pub readings-met : Met (readings_from s) (λ i. (i, reading_at s i)) (λ x. x.1.next) (length s)
  unfolding readings_from
  readings-met = record { more = met-more _ _ _ readings_on; over = met-over _ _ _ }

  pub runs-met : Met (runs_from s) (λ i. (reading_at s i, run_end s (reading_at s i))) (λ x. x.1) (length s)
  unfolding runs_from
  runs-met = record { more = met-more _ _ _ runs_on; over = met-over _ _ _ }

-- the same as equations, for the iterators
module _ (s : List ℕ) (i : ℕ) where
  pub readings_more : i < length s → readings_from s i ≡ (i, reading_at s i) ∷ readings_from s (next_at s i)
  readings_more h = (readings-met s).more i h

  pub readings_over : length s ≤ i → readings_from s i ≡ []
  readings_over h = (readings-met s).over i h

  pub runs_more : i < length s → runs_from s i ≡ (reading_at s i, run_end s (reading_at s i)) ∷ runs_from s (run_end s (reading_at s i))
  runs_more h = (runs-met s).more i h

  pub runs_over : length s ≤ i → runs_from s i ≡ []
  runs_over h = (runs-met s).over i h

-- the first of what is met from a position on, and the others; where nothing is met the text is over
module _ {A : Type 0} {from : ℕ → List A} {item : ℕ → A} {end : A → ℕ} {size : ℕ} (m : Met from item end size) (i : ℕ) where
  pub first-met : {x : A} {xs : List A} → from i ≡ x ∷ xs → (x ≡ item i) × (i < size) × (xs ≡ from (end x))
  first-met {x} {xs} e =
      by_le size i
      (λ h. let f = m.over i h in cc)
      (λ h.
      let f = m.more i h in
      let p : x ≡ item i = cc in
      let q : xs ≡ from (end (item i)) = cc in
      (p, h, q ∙ sym (ap (λ (y : A). from (end y)) p)))

  pub none-met : from i ≡ [] → size ≤ i
  none-met e = by_le size i (λ h. h) (λ h. let f = m.more i h in cc)
