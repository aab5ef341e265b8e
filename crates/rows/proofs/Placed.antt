-- The rows of a text, each with the position where it starts, row by row.
-- Assumes nothing.
use Prim.Native.Nat.{ℕ, zero, suc, ◌-◌, ◌≤◌}
use native.Mathlib.Omega.{arith}
use mathlib.Core.Path.{◌≡◌, refl, sym, ap, ◌∙◌}
use mathlib.Core.Bool.{Bool}
use mathlib.Core.List.{List, [], ◌∷◌}
use lib.ListN.{length}
use Rattle.std.specs.Prelude.{Option, Some, None}
use Rattle.rows.specs.declared.Row.{Row}
use Rattle.rows.specs.Scanned.{row_at, row_end_after, next_row_at}
use Rattle.rows.specs.Places.{start_after, places_in, row_places}
use Rattle.rows.proofs.RowEnds.{ended_at, start-on}
use Rattle.rows.proofs.TextLoop.{rest_of}

module _ (s : List ℕ) (paired : Bool) where
  -- the next row, by the test whether a row end follows
  module _ (i : ℕ) where
    pub start-next : {next : ℕ} → row_end_after s i ≡ Some next → start_after s paired i ≡ Some (next_row_at s paired next)
    unfolding start_after
    start-next e = rw e

    pub start-none : row_end_after s i ≡ None → start_after s paired i ≡ None
    unfolding start_after
    start-none e = rw e

    start_falls : (r : Option ℕ) → row_end_after s i ≡ r → rest_of (length s) (start_after s paired i) ≤ length s - i
    start_falls None e = rw (start-none e) (omega arith)
    start_falls (Some next) e =
        let w = ended_at s i refl e in
        rw (start-next e) (omega (arith, w.on, w.within, start-on s paired next))

  in_none : (n : ℕ) → places_in n s paired None ≡ []
  unfolding places_in
  in_none zero = refl
  in_none (suc n) = refl

  in_some : (n i : ℕ) → places_in (suc n) s paired (Some i) ≡ (i, row_at s i) ∷ places_in n s paired (start_after s paired i)
  unfolding places_in
  in_some n i = refl

  -- turns enough are as good as others
  in_enough : (n m : ℕ) (at : Option ℕ) → rest_of (length s) at ≤ n → rest_of (length s) at ≤ m → places_in n s paired at ≡ places_in m s paired at
  in_enough n m None h k = in_none n ∙ sym (in_none m)
  in_enough zero m (Some i) h k = absurd (omega arith)
  in_enough (suc n) zero (Some i) h k = absurd (omega arith)
  in_enough (suc n) (suc m) (Some i) h k =
      let f = start_falls i (row_end_after s i) refl in
      in_some n i
      ∙ ap (λ (rs : List (ℕ × Row)). (i, row_at s i) ∷ rs) (in_enough n m (start_after s paired i) (omega arith) (omega arith))
      ∙ sym (in_some m i)

  in_few : (n : ℕ) (at : Option ℕ) → length (places_in n s paired at) ≤ n
  unfolding places_in
  in_few zero at = omega arith
  in_few (suc n) None = omega arith
  in_few (suc n) (Some i) = omega (arith, in_few n (start_after s paired i))

  pub places_few : (at : Option ℕ) → length (row_places s paired at) ≤ suc (length s)
  unfolding row_places
  places_few at = in_few (suc (length s)) at

  pub places-none : row_places s paired None ≡ []
  unfolding row_places
  places-none = in_none (suc (length s))

  pub places-more : (i : ℕ) → row_places s paired (Some i) ≡ (i, row_at s i) ∷ row_places s paired (start_after s paired i)
  unfolding row_places
  places-more i =
      let f = start_falls i (row_end_after s i) refl in
      in_some (length s) i
      ∙ ap (λ (rs : List (ℕ × Row)). (i, row_at s i) ∷ rs) (in_enough (length s) (suc (length s)) (start_after s paired i) (omega arith) (omega arith))

-- the first of the rows from a position on, and the others
pub record FirstPlace (s : List ℕ) (paired : Bool) (at : Option ℕ) (x : ℕ × Row) (xs : List (ℕ × Row)) : Type 0 where
  pub start : at ≡ Some x.0
  pub row : x.1 ≡ row_at s x.0
  pub others : xs ≡ row_places s paired (start_after s paired x.0)

pub first-place :
    (s : List ℕ) (paired : Bool) (at : Option ℕ) {x : ℕ × Row} {xs : List (ℕ × Row)} → row_places s paired at ≡ x ∷ xs → FirstPlace s paired at x xs
first-place s paired None e = let f = places-none s paired in cc
first-place s paired (Some i) {x} {xs} e =
    let f = places-more s paired i in
    let p : x ≡ (i, row_at s i) = cc in
    let q : xs ≡ row_places s paired (start_after s paired i) = cc in
    rw (p, q) (record { start = refl; row = refl; others = refl })

pub no_place : (s : List ℕ) (paired : Bool) (at : Option ℕ) → row_places s paired at ≡ [] → at ≡ None
no_place s paired None e = refl
no_place s paired (Some i) e = let f = places-more s paired i in cc
