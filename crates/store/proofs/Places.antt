-- What stands where in a list after some of it was written over: before the place, at it, and behind it.
-- Assumes nothing.
use Prim.Native.Nat.{ℕ, suc, ◌+◌, ◌-◌, ◌≤◌}
use native.Mathlib.Omega.{arith}
use mathlib.Core.Path.{◌≡◌, refl, sym, ap, ap₂, ◌∙◌}
use mathlib.Core.List.{List, [], ◌∷◌, ◌++◌, append_assoc}
use lib.ListN.{length, take, drop, set, take-append-drop, length-drop}
use lib.Seq.{length-take-le, take-append-le, drop-append-le, take_at, drop_at, take-set-le, drop-set-lt, drop-set-add, take-add, drop-drop}
use Rattle.meaning.specs.Lists.{field}
use Rattle.output.specs.Output.{stored}
use Rattle.output.proofs.Laws.{stored-fits}

-- behind what was written
pub drop-after : (s : List ℕ) (at : ℕ) (xs : List ℕ) (from : ℕ) → at + length xs ≤ from → drop from (stored s at xs) ≡ drop from s
unfolding stored
drop-after s at [] from h = refl
drop-after s at (x ∷ xs) from h = drop-after (set s at x) (suc at) xs from (omega arith) ∙ drop-set-lt from s at x (omega arith)

pub field-after : (s : List ℕ) (at : ℕ) (xs : List ℕ) (from n : ℕ) → at + length xs ≤ from → field from n (stored s at xs) ≡ field from n s
unfolding field
field-after s at xs from n h = ap (take n) (drop-after s at xs from h)

-- before it
one-before : (s : List ℕ) (at x from n : ℕ) → from + n ≤ at → field from n (set s at x) ≡ field from n s
unfolding field
one-before s at x from n h =
    let k = at - from in
    let e : at ≡ from + k = omega arith in
    ap (λ (i : ℕ). take n (drop from (set s i x))) e
    ∙ ap (take n) (drop-set-add from s k x)
    ∙ take-set-le n (drop from s) k x (omega arith)

pub field-before : (s : List ℕ) (at : ℕ) (xs : List ℕ) (from n : ℕ) → from + n ≤ at → field from n (stored s at xs) ≡ field from n s
unfolding stored
field-before s at [] from n h = refl
field-before s at (x ∷ xs) from n h = field-before (set s at x) (suc at) xs from n (omega arith) ∙ one-before s at x from n h

-- at its place
pub field-here : (s : List ℕ) (from : ℕ) (xs : List ℕ) → from + length xs ≤ length s → field from (length xs) (stored s from xs) ≡ xs
unfolding field
field-here s from xs h =
    let rest = drop (from + length xs) s in
    rw (stored-fits s from xs h, append_assoc (take from s) xs rest, drop_at (take from s) (xs ++ rest) from (length-take-le from s (omega arith)))
    (take_at xs rest (length xs) refl)

-- with what stood before it
pub field_grown :
    (s : List ℕ) (from n : ℕ) (xs : List ℕ) → from + n + length xs ≤ length s → field from (n + length xs) (stored s (from + n) xs) ≡ field from n s ++ xs
unfolding field
field_grown s from n xs h =
    let t = stored s (from + n) xs in
    take-add n (length xs) (drop from t)
    ∙ ap₂ ◌++◌ (field-before s (from + n) xs from n (omega arith)) (ap (take (length xs)) (drop-drop n from t) ∙ field-here s (from + n) xs h)

-- a list of which all from a place on was changed
field-front : (p t : List ℕ) (from n : ℕ) → from + n ≤ length p → field from n (p ++ t) ≡ field from n p
unfolding field
field-front p t from n h =
    ap (take n) (drop-append-le from p t (omega arith)) ∙ take-append-le n (drop from p) t (simp length-drop (omega arith))

module _ (s s' t : List ℕ) (at : ℕ) (e : s' ≡ take at s ++ t) (h : at ≤ length s) where
  pub changed_behind : drop at s' ≡ t
  changed_behind = ap (drop at) e ∙ drop_at (take at s) t at (length-take-le at s h)

  pub changed_before : (from n : ℕ) → from + n ≤ at → field from n s' ≡ field from n s
  changed_before from n k =
      let l = length-take-le at s h in
      ap (field from n) e
      ∙ field-front (take at s) t from n (omega arith)
      ∙ sym (field-front (take at s) (drop at s) from n (omega arith))
      ∙ ap (field from n) (take-append-drop at s)
