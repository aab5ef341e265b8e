-- The marked looks one by one, and that the marked looks are those in use where the marks say so.
-- Assumes nothing.
use mathlib.Core.Path.{◌≡◌, refl, sym, ap, ◌∙◌}
use mathlib.Core.Bool.{Bool, true, false, cond}
use mathlib.Core.List.{List, [], ◌∷◌, ◌++◌, append-nil}
use Prim.Native.Nat.{ℕ, zero, suc, ◌+◌, ◌-◌, ◌<◌, ◌≤◌}
use native.Mathlib.Nat.{add-zero, zero-add, suc-add}
use native.Mathlib.Numerals.{add-one}
use native.Mathlib.Omega.{arith}
use lib.ListN.{length, get_or}
use borrow.Author.Tests.{lt-ltb, le-ltb}
use Rattle.meaning.specs.Lists.{any, keep, up_from}
use Rattle.meaning.specs.Looks.{look_count}
use Rattle.meaning.specs.Document.{Paragraph, is_used, looks_used}
use Rattle.std.proofs.lemmas.Bool.{false≢true}
use Rattle.meaning.proofs.Logic.{by_test}
use Rattle.styles.specs.Styles.{is_on, marked_below, looks_marked, marked_from, look_and_later}

keep-first : (p : ℕ → Bool) (k : ℕ) (ks : List ℕ) → keep p (k ∷ ks) ≡ cond (p k) (k ∷ keep p ks) (keep p ks)
unfolding keep
keep-first p k ks = by_test (p k) (λ e. rw (e, keep)) (λ e. rw (e, keep))

up_more : (n k : ℕ) → up_from (suc n) k ≡ up_from n k ++ (k + n) ∷ []
unfolding up_from
up_more zero k = rw add-zero
up_more (suc n) k =
    let e : k + suc n ≡ suc k + n = omega arith in
    rw e (ap (λ (ks : List ℕ). k ∷ ks) (up_more n (suc k)))

keep-append : (p : ℕ → Bool) (xs ys : List ℕ) → keep p (xs ++ ys) ≡ keep p xs ++ keep p ys
unfolding keep
keep-append p [] ys = refl
keep-append p (x ∷ xs) ys = by_test (p x) (λ e. rw (e, keep) (ap (λ (ks : List ℕ). x ∷ ks) (keep-append p xs ys))) (λ e. rw (e, keep) (keep-append p xs ys))

-- the marked looks below one, and the next look
module _ (on : List Bool) (k : ℕ) where
  below-more : marked_below on (k + 1) ≡ marked_below on k ++ cond (is_on on k) (k ∷ []) []
  unfolding marked_below keep
  below-more = rw (add-one, up_more k 0, zero-add) (keep-append (is_on on) (up_from k 0) (k ∷ []) ∙ ap (λ (ks : List ℕ). marked_below on k ++ ks) (keep-first (is_on on) k []))

  pub below-marked : get_or on k false ≡ true → marked_below on (k + 1) ≡ marked_below on k ++ k ∷ []
  unfolding is_on
  below-marked e = below-more ∙ rw e

  pub below-clear : get_or on k false ≡ false → marked_below on (k + 1) ≡ marked_below on k
  unfolding is_on
  below-clear e = below-more ∙ rw e (append-nil (marked_below on k))

pub below-none : (on : List Bool) → marked_below on 0 ≡ []
unfolding marked_below up_from keep
below-none on = refl

pub below-all : (on : List Bool) → marked_below on look_count ≡ looks_marked on
unfolding looks_marked
below-all on = refl

keep_same : (p q : ℕ → Bool) (n k : ℕ) → ((j : ℕ) → k ≤ j → j < k + n → p j ≡ q j) → keep p (up_from n k) ≡ keep q (up_from n k)
unfolding up_from keep
keep_same p q zero k h = refl
keep_same p q (suc n) k h =
    let e : p k ≡ q k = h k (omega arith) (omega arith) in
    rw (keep-first p, keep-first q, e, keep_same p q n (suc k) (λ j a b. h j (omega arith) (omega arith)))

pub marked_used : (on : List Bool) (ps : List Paragraph) → ((look : ℕ) → look < look_count → get_or on look false ≡ is_used ps look) → looks_marked on ≡ looks_used ps
unfolding looks_marked marked_below looks_used is_on
marked_used on ps h = keep_same (is_on on) (is_used ps) look_count 0 (λ j a b. h j (omega arith))

-- The next marked look: the marked looks from one on are the next that is marked and those after it (`marked_from on from ≡ look_and_later on next`), so their
-- list gets shorter from one to the next. No loop goes by it today, and the laws stand for themselves.
pub marked-all : (on : List Bool) → marked_from on 0 ≡ looks_marked on
unfolding marked_from looks_marked marked_below
marked-all on = refl

-- looks of which none is marked
keep_clear : (p : ℕ → Bool) (n m k : ℕ) → any p (up_from n k) ≡ false → keep p (up_from (n + m) k) ≡ keep p (up_from m (k + n))
unfolding up_from any keep
keep_clear p zero m k h = rw (zero-add, add-zero)
keep_clear p (suc n) m k h =
    let e : k + suc n ≡ suc k + n = omega arith in
    by_test (p k)
    (λ t. absurd (false≢true (sym h ∙ rw (t, any))))
    (λ t. rw (e, suc-add n m, t, keep) (keep_clear p n m (suc k) (rw (t, any) at h)))

module _ (on : List Bool) (k : ℕ) where
  marked-first : k < look_count → marked_from on k ≡ cond (is_on on k) (k ∷ marked_from on (k + 1)) (marked_from on (k + 1))
  unfolding marked_from up_from
  marked-first h =
      let e : look_count - k ≡ suc (look_count - (k + 1)) = omega arith in
      rw (e, add-one) (keep-first (is_on on) k (up_from (look_count - suc k) (suc k)))

  pub marked_clear : (n : ℕ) → k + n ≤ look_count → any (is_on on) (up_from n k) ≡ false → marked_from on k ≡ marked_from on (k + n)
  unfolding marked_from
  marked_clear n h e =
      let z : look_count - k ≡ n + (look_count - (k + n)) = omega arith in
      rw z (keep_clear (is_on on) n (look_count - (k + n)) k e)

  pub marked-later : k < look_count → get_or on k false ≡ false → marked_from on k ≡ marked_from on (k + 1)
  unfolding is_on
  marked-later h e = marked-first h ∙ rw e

  pub marked-here : k < look_count → get_or on k false ≡ true → marked_from on k ≡ look_and_later on k
  unfolding is_on look_and_later
  marked-here h e = marked-first h ∙ rw (e, lt-ltb k look_count h)

  pub marked-none : look_count ≤ k → marked_from on k ≡ look_and_later on k
  unfolding marked_from look_and_later up_from keep
  marked-none h = let z : look_count - k ≡ 0 = omega arith in rw (z, le-ltb k look_count h)

-- a look, and the next that is marked
module _ (on : List Bool) (look next : ℕ) (h : look < look_count) (e : marked_from on (look + 1) ≡ look_and_later on next) where
  later-next : look_and_later on look ≡ look ∷ look_and_later on next
  unfolding look_and_later
  later-next = rw (lt-ltb look look_count h) (ap (λ (ks : List ℕ). look ∷ ks) e)

  pub later_fewer : length (look_and_later on next) < length (look_and_later on look)
  later_fewer = omega (arith, ap length later-next)
