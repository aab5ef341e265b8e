-- The characters that a text's codes stand for: a code point that is no mark, and on it one of the thirteen marks or none.
-- Assumes nothing.
use Prim.Native.Nat.{ℕ, zero, suc, ◌+◌, ◌*◌, ◌<◌}
use native.Mathlib.Omega.{arith}
use mathlib.Core.Path.{◌≡◌, refl, sym, ap}
use mathlib.Core.Bool.{Bool, true, false, not, ◌&&◌}
use mathlib.Core.List.{List, [], ◌∷◌}
use lib.Dec.{ltb, leb, eqb}
use lib.ListN.{get_or}
use Rattle.std.specs.Prelude.{Option, Some, None, slice_get}
use borrow.Author.Tests.{lt-ltb, ltb-true, leb-true, eqb-true, not-true}
use Rattle.meaning.specs.declared.Glyph.{Glyph}
use Rattle.meaning.specs.Lists.{all, any}
use Rattle.meaning.specs.Tables.{latin_table, composed_table}
use Rattle.meaning.specs.Characters.{latin, letter, composed, mark_of, base, accented}
use Rattle.meaning.specs.Glyphs.{marks, is_mark, single, space}
use Rattle.meaning.specs.Profile.{first_surrogate, is_scalar}
use Rattle.std.proofs.lemmas.Bool.{and_from, and_parts, false≢true}
use Rattle.meaning.proofs.Logic.{by_test, between}
use Rattle.meaning.proofs.ListLaws.{any-cons, all-at, all_tested, test_split}

-- a code point before the surrogates, and no mark itself
is_base : ℕ → Bool
is_base p = ltb p first_surrogate && not (is_mark p)

-- on it a mark or none
is_marking : Option ℕ → Bool
is_marking None = true
is_marking (Some m) = is_mark m

pub is_spelled : Glyph → Bool
is_spelled g = is_base g.point && is_marking g.mark

abbrev pub Spelled : Glyph → Type 0
Spelled g = is_spelled g ≡ true

-- all entries of the tables, and the marks, by one computed test
tables : (all is_base latin_table ≡ true) × (all is_base composed_table ≡ true) × (all is_mark marks ≡ true) × (all is_scalar marks ≡ true)
unfolding all any is_base is_scalar is_mark marks latin_table composed_table
tables = (refl, refl, refl, refl)

base-at : (xs : List ℕ) (k : ℕ) → all is_base xs ≡ true → is_base (get_or xs k 0) ≡ true
base-at xs k e = all-at (all_tested is_base xs e) 0 (unfold is_base is_mark any marks in refl) k

-- what all numbers of a list pass, each of them passes
one_of : (q : ℕ → Bool) (x : ℕ) (xs : List ℕ) → any (eqb x) xs ≡ true → all q xs ≡ true → q x ≡ true
one_of q x [] e h = absurd (false≢true (unfold any in e))
one_of q x (y ∷ xs) e h =
    let s = test_split q y xs h in
    by_test (eqb x y)
    (λ f. rw (eqb-true x y f) s.0)
    (λ f. one_of q x xs (rw (any-cons (eqb x) y xs, f) at e) s.1)

-- no code point below U+0300 is a mark
below-marks : (p : ℕ) → p < 768 → is_mark p ≡ false
unfolding is_mark
below-marks p h =
    by_test (is_mark p)
    (λ e. absurd (omega (arith, h, leb-true 768 p (one_of (leb 768) p marks e (unfold all marks in refl)))))
    (λ e. e)

-- a mark is not 0: where a mark of 0 is to say that there is none, as the page of request 7 asks, no mark is taken for none
pub mark_not_none : (m : ℕ) → is_mark m ≡ true → eqb m 0 ≡ false
unfolding is_mark
mark_not_none m e = not-true (eqb m 0) (one_of (λ k. not (eqb k 0)) m marks e (unfold all marks in refl))

small-base : (p : ℕ) → p < 768 → is_base p ≡ true
unfolding is_base
small-base p h = and_from (ltb p first_surrogate) (not (is_mark p)) (lt-ltb p first_surrogate (omega arith)) (ap not (below-marks p h))

single-spelled : (p : ℕ) → is_base p ≡ true → Spelled (single p)
unfolding is_spelled is_marking single
single-spelled p e = and_from (is_base p) true e refl

pub space-spelled : Spelled space
space-spelled = unfold single in single-spelled 32 (small-base 32 (omega arith))

pub latin-spelled : (c : ℕ) → Spelled (single (latin c))
unfolding latin
latin-spelled c = single-spelled _ (base-at latin_table c tables.0)

composed-base : (a l : ℕ) → is_base (composed a l) ≡ true
unfolding composed
composed-base zero l = small-base 0 (omega arith)
composed-base (suc a) zero = small-base 0 (omega arith)
composed-base (suc a) (suc l) = base-at composed_table (52 * a + l) tables.1

letter-small : (c : ℕ) → eqb (letter c) 0 ≡ false → c < 768
unfolding letter
letter-small c e =
    by_test (leb 65 c && leb c 90)
    (λ f. omega (arith, (between 65 90 c f).1))
    (λ f.
    by_test (leb 97 c && leb c 122)
    (λ g. omega (arith, (between 97 122 c g).1))
    (λ g. absurd (false≢true (sym (rw (f, g) at e)))))

base-right : (c : ℕ) → is_base (base c) ≡ true
unfolding base
base-right c =
    by_test (eqb c 32)
    (λ e. rw e (small-base 160 (omega arith)))
    (λ e.
    by_test (eqb (letter c) 0)
    (λ f. rw (e, f) (small-base 0 (omega arith)))
    (λ f. rw (e, f) (small-base c (letter-small c f))))

mark-at : (ms : List ℕ) (a : ℕ) → all is_mark ms ≡ true → is_marking (slice_get ms a) ≡ true
unfolding is_marking
mark-at [] a e = refl
mark-at (m ∷ ms) zero e = (test_split is_mark m ms e).0
mark-at (m ∷ ms) (suc a) e = mark-at ms a (test_split is_mark m ms e).1

marking : (a : ℕ) → is_marking (mark_of a) ≡ true
unfolding mark_of
marking zero = unfold is_marking in refl
marking (suc a) = mark-at marks a tables.2

pub accented-spelled : (a c : ℕ) → Spelled (accented a c)
unfolding accented is_spelled
accented-spelled a c =
    by_test (eqb (composed a (letter c)) 0)
    (λ e. rw e (and_from _ _ (base-right c) (marking a)))
    (λ e. rw e (unfold is_spelled in single-spelled _ (composed-base a (letter c))))

-- a character that is spelled: its code point is no mark, and what stands on it is one
module _ (g : Glyph) (e : Spelled g) where
  parts : (is_base g.point ≡ true) × (is_marking g.mark ≡ true)
  unfolding is_spelled
  parts = and_parts (is_base g.point) (is_marking g.mark) e

  base-parts : (ltb g.point first_surrogate ≡ true) × (not (is_mark g.point) ≡ true)
  unfolding is_base
  base-parts = and_parts (ltb g.point first_surrogate) (not (is_mark g.point)) parts.0

  pub point_base : is_mark g.point ≡ false
  point_base = not-true (is_mark g.point) base-parts.1

  pub mark_is : {m : ℕ} → g.mark ≡ Some m → is_mark m ≡ true
  unfolding is_marking
  mark_is f = rw f at parts.1

  -- the code point has sixteen bits, and UTF-8 writes it
  point_below : g.point < first_surrogate
  point_below = ltb-true g.point first_surrogate base-parts.0

  pub point_small : g.point < 65536
  point_small = omega (arith, point_below)

  pub point_scalar : is_scalar g.point ≡ true
  unfolding is_scalar
  point_scalar = rw (lt-ltb g.point first_surrogate point_below)

  pub mark_scalar : {m : ℕ} → g.mark ≡ Some m → is_scalar m ≡ true
  mark_scalar {m} f = one_of is_scalar m marks (unfold is_mark in mark_is f) tables.3
