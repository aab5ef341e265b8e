-- A property of every element of a list, and laws of the tests over lists.
-- Assumes nothing.
use Prim.Native.Nat.{ℕ, zero, suc, ◌+◌, ◌≤◌, ◌<◌}
use native.Mathlib.Omega.{arith}
use native.Mathlib.Numerals.{add-one}
use native.Mathlib.Nat.{le_of_suc-le-suc, not-suc-le-zero}
use mathlib.Core.Path.{◌≡◌, refl, sym, ap, ◌∙◌}
use mathlib.Core.Bool.{Bool, true, false, ◌&&◌, ◌||◌, and-false, or-true}
use mathlib.Core.List.{List, [], ◌∷◌, ◌++◌, map, append_assoc, flat_map}
use lib.ListN.{length, get_or, take, drop, replicate, length-take, drop_of_length-le}
use lib.Seq.{drop-cons}
use Rattle.meaning.specs.Lists.{all, any, take_while}
use Rattle.std.proofs.lemmas.Bool.{and_parts, or_parts}
use Rattle.meaning.proofs.Logic.{by_test}

-- tests over a list, one element at a time
module _ {A : Type 0} (p : A → Bool) (x : A) (xs : List A) where
  pub all_cons : all p (x ∷ xs) ≡ (p x && all p xs)
  unfolding all
  all_cons = by_test (p x) (λ e. rw (e, all)) (λ e. rw (e, all))

  pub any-cons : any p (x ∷ xs) ≡ (p x || any p xs)
  unfolding any
  any-cons = by_test (p x) (λ e. rw (e, any)) (λ e. rw (e, any))

  pub none_split : any p (x ∷ xs) ≡ false → (p x ≡ false) × (any p xs ≡ false)
  none_split e = or_parts (p x) (any p xs) (sym any-cons ∙ e)

-- and at the end of a list
module _ {A : Type 0} (p : A → Bool) where
  pub all_end : (xs : List A) (x : A) → all p (xs ++ (x ∷ [])) ≡ (p x && all p xs)
  all_end [] x = all_cons p x []
  all_end (y ∷ xs) x =
      by_test (p y)
      (λ e. rw (all_cons p y (xs ++ (x ∷ [])), all_cons p y xs, e) (all_end xs x))
      (λ e. rw (all_cons p y (xs ++ (x ∷ [])), all_cons p y xs, e) (sym (and-false (p x))))

  pub any-end : (xs : List A) (x : A) → any p (xs ++ (x ∷ [])) ≡ (p x || any p xs)
  any-end [] x = any-cons p x []
  any-end (y ∷ xs) x =
      by_test (p y)
      (λ e. rw (any-cons p y (xs ++ (x ∷ [])), any-cons p y xs, e) (sym (or-true (p x))))
      (λ e. rw (any-cons p y (xs ++ (x ∷ [])), any-cons p y xs, e) (any-end xs x))

pub data All {A : Type 0} (P : A → Type 0) : List A → Type 0 where
  nil : All P []
  cons : {x : A} {xs : List A} → P x → All P xs → All P (x ∷ xs)

module _ {A : Type 0} {P : A → Type 0} where
  pub all_of : ((x : A) → P x) → (xs : List A) → All P xs
  all_of h [] = nil
  all_of h (x ∷ xs) = cons (h x) (all_of h xs)

  pub all_append : {xs ys : List A} → All P xs → All P ys → All P (xs ++ ys)
  all_append nil h = h
  all_append (cons p k) h = cons p (all_append k h)

  pub all_left : (xs ys : List A) → All P (xs ++ ys) → All P xs
  all_left [] ys h = nil
  all_left (x ∷ xs) ys (cons p h) = cons p (all_left xs ys h)

  pub all_right : (xs ys : List A) → All P (xs ++ ys) → All P ys
  all_right [] ys h = h
  all_right (x ∷ xs) ys (cons p h) = all_right xs ys h

  pub all_copies : (n : ℕ) (x : A) → P x → All P (replicate n x)
  all_copies zero x p = nil
  all_copies (suc n) x p = cons p (all_copies n x p)

  pub all-at : {xs : List A} → All P xs → (d : A) → P d → (k : ℕ) → P (get_or xs k d)
  all-at nil d q k = q
  all-at (cons p h) d q zero = p
  all-at (cons p h) d q (suc k) = all-at h d q k

-- nothing is asked
abbrev pub Any : List ℕ → Type 0
Any b = Unit {0}

pub any-blocks : (bs : List (List ℕ)) → All Any bs
any-blocks = all_of (λ b. tt)

pub at_copies : {A : Type 0} (n i : ℕ) (d : A) → get_or (replicate n d) i d ≡ d
at_copies {A} n i d = all-at {P = λ (x : A). x ≡ d} (all_copies n d refl) d refl i

pub all_so : {A : Type 0} {P Q : A → Type 0} → ((x : A) → P x → Q x) → {xs : List A} → All P xs → All Q xs
all_so f nil = nil
all_so f (cons p h) = cons (f _ p) (all_so f h)

pub all_map : {A B : Type 0} {P : A → Type 0} {Q : B → Type 0} (f : A → B) → ((x : A) → P x → Q (f x)) → {xs : List A} → All P xs → All Q (map f xs)
all_map f g nil = nil
all_map f g (cons p h) = cons (g _ p) (all_map f g h)

pub join_append : {A : Type 0} (f : A → List ℕ) (xs ys : List A) → flat_map f (xs ++ ys) ≡ flat_map f xs ++ flat_map f ys
unfolding flat_map
join_append f [] ys = refl
join_append f (x ∷ xs) ys = ap (λ (l : List ℕ). f x ++ l) (join_append f xs ys) ∙ sym (append_assoc (f x) (flat_map f xs) (flat_map f ys))

-- the test `all`, clause by clause
module _ {A : Type 0} (p : A → Bool) where
  pub test-nil : all p [] ≡ true
  unfolding all
  test-nil = refl

  pub test-cons : (x : A) (xs : List A) → p x ≡ true → all p xs ≡ true → all p (x ∷ xs) ≡ true
  unfolding all
  test-cons x xs e h = rw (e, all) h

  pub test_split : (x : A) (xs : List A) → all p (x ∷ xs) ≡ true → (p x ≡ true) × (all p xs ≡ true)
  test_split x xs e = and_parts (p x) (all p xs) (sym (all_cons p x xs) ∙ e)

  -- a test that every element passes holds at each place
  pub test_at : (xs : List A) (d : A) → all p xs ≡ true → (k : ℕ) → k < length xs → p (get_or xs k d) ≡ true
  test_at [] d t k h = absurd (not-suc-le-zero h)
  test_at (x ∷ xs) d t zero h = (test_split x xs t).0
  test_at (x ∷ xs) d t (suc k) h = test_at xs d (test_split x xs t).1 k (le_of_suc-le-suc h)

  pub test-all : {xs : List A} → All (λ (x : A). p x ≡ true) xs → all p xs ≡ true
  test-all nil = test-nil
  test-all (cons {x} {xs} e h) = test-cons x xs e (test-all h)

  pub all_tested : (xs : List A) → all p xs ≡ true → All (λ (x : A). p x ≡ true) xs
  all_tested [] e = nil
  all_tested (x ∷ xs) e = let s = test_split x xs e in cons s.0 (all_tested xs s.1)

-- the elements before the first that fails a test
module _ {A : Type 0} (p : A → Bool) where
  pub while_on : (x : A) (xs : List A) → p x ≡ true → take_while p (x ∷ xs) ≡ x ∷ take_while p xs
  unfolding take_while
  while_on x xs e = rw (e, take_while)

  pub while_off : (x : A) (xs : List A) → p x ≡ false → take_while p (x ∷ xs) ≡ []
  unfolding take_while
  while_off x xs e = rw (e, take_while)

  pub take_while_lem : (xs : List A) → take (length (take_while p xs)) xs ≡ take_while p xs
  unfolding take_while
  take_while_lem [] = refl
  take_while_lem (x ∷ xs) = by_test (p x) (λ e. rw (while_on x xs e, take_while_lem xs)) (λ e. rw (while_off x xs e))

  pub while_short : (xs : List A) → length (take_while p xs) ≤ length xs
  while_short xs = omega (arith, simp length-take at (ap length (take_while_lem xs)))

  -- how many there are from a place on, as a loop meets them: one more, none at an element that fails, none at the end
  module _ (xs : List A) (i : ℕ) (d : A) where
    pub while_more : i < length xs → p (get_or xs i d) ≡ true → length (take_while p (drop i xs)) ≡ 1 + length (take_while p (drop (i + 1) xs))
    while_more h e = rw (add-one, drop-cons xs i d h, while_on (get_or xs i d) (drop (suc i) xs) e) (omega arith)

    pub while_stops : i < length xs → p (get_or xs i d) ≡ false → length (take_while p (drop i xs)) ≡ 0
    while_stops h e = rw (drop-cons xs i d h, while_off (get_or xs i d) (drop (suc i) xs) e)

  pub while_ends : (xs : List A) (i : ℕ) → length xs ≤ i → length (take_while p (drop i xs)) ≡ 0
  unfolding take_while
  while_ends xs i h = rw drop_of_length-le
