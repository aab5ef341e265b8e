-- The laws of writing into a lent buffer: writes one after the other are one write, and what it leaves there.
-- Assumes nothing.
use mathlib.Core.Path.{◌≡◌, refl, sym, ap, ◌∙◌}
use mathlib.Core.List.{List, [], ◌∷◌, ◌++◌, append-nil, append_assoc, flat_map}
use Prim.Native.Nat.{ℕ, suc, ◌+◌, ◌-◌, ◌<◌, ◌≤◌, ◌^◌, min}
use native.Mathlib.Nat.{add-zero, add-suc, suc-add}
use native.Mathlib.Omega.{arith}
use lib.ListN.{length, set, take, drop, get_or, length-append, length-set, take-append-drop}
use lib.Seq.{set_out, length-sets, sets-eq, drop-cons, drop-drop, length-take-le, take_all}
use Rattle.std.proofs.lemmas.List.{drop_min}
use Rattle.meaning.proofs.Logic.{by_le}
use Rattle.meaning.proofs.ListLaws.{join_append}
use Rattle.output.specs.declared.Writer.{Writer}
use Rattle.output.specs.Output.{stored, past, Wrote, Put}

module _ {A : Type 0} where
  pub length-stored : (buf : List A) (at : ℕ) (xs : List A) → length (stored buf at xs) ≡ length buf
  unfolding stored
  length-stored buf at xs = length-sets buf at xs

  -- past the end nothing is stored
  pub stored-out : (buf : List A) (at : ℕ) (xs : List A) → length buf ≤ at → stored buf at xs ≡ buf
  unfolding stored
  stored-out buf at [] h = refl
  stored-out buf at (x ∷ xs) h =
      stored-out (set buf at x) (suc at) xs (omega (arith, length-set buf at x)) ∙ set_out buf at x h

  pub stored-append : (buf : List A) (at : ℕ) (xs ys : List A) → stored buf at (xs ++ ys) ≡ stored (stored buf at xs) (at + length xs) ys
  unfolding stored
  stored-append buf at [] ys = rw add-zero
  stored-append buf at (x ∷ xs) ys = rw (stored-append (set buf at x) (suc at) xs ys, suc-add, add-suc)

  -- one value of a run is stored, and the rest from the next index on
  pub stored_next : (buf : List A) (at : ℕ) (xs : List A) (j : ℕ) (z : A) → j < length xs
      → stored (set buf (at + j) (get_or xs j z)) (at + (j + 1)) (drop (j + 1) xs) ≡ stored buf (at + j) (drop j xs)
  unfolding stored
  stored_next buf at xs j z h =
      let e : at + (j + 1) ≡ suc (at + j) = omega arith in
      let k : j + 1 ≡ suc j = omega arith in
      rw (drop-cons xs j z, e, k)

  -- of what is stored only as many count as there are places for
  pub stored-cut : (buf : List A) (at n : ℕ) (xs : List A) → n ≡ min (length xs) (length buf - at) → stored buf at (take n xs) ≡ stored buf at xs
  stored-cut buf at n xs e =
      by_le (length xs) n
      (λ h. ap (stored buf at) (take_all n xs h))
      (λ h.
      let size : length (take n xs) ≡ n = length-take-le n xs (omega arith) in
      sym
      (ap (stored buf at) (sym (take-append-drop n xs)) ∙ stored-append buf at (take n xs) (drop n xs)
      ∙ stored-out (stored buf at (take n xs)) (at + length (take n xs)) (drop n xs) (omega (arith, size, length-stored buf at (take n xs)))))

  -- where there is room, the values stand between what was before and what was after
  pub stored-fits : (buf : List A) (at : ℕ) (xs : List A) → at + length xs ≤ length buf → stored buf at xs ≡ take at buf ++ xs ++ drop (at + length xs) buf
  unfolding stored
  stored-fits buf at xs h = sets-eq xs buf at h

  -- so the values that fit may be copied at once, in the place of a part of the buffer
  pub stored-copied :
      (buf : List A) (at : ℕ) (xs : List A) (n k : ℕ) {ys : List A} → at ≤ length buf → n ≡ min (length xs) (length buf - at) → k ≡ n → ys ≡ take n xs
      → take at buf ++ (ys ++ drop k (drop at buf)) ≡ stored buf at xs
  stored-copied buf at xs n k e f g h =
      let size : length (take n xs) ≡ n = length-take-le n xs (omega arith) in
      rw (g, h, drop-drop)
      (sym (sym (stored-cut buf at n xs f) ∙ stored-fits buf at (take n xs) (omega (arith, size)) ∙ rw (size, append_assoc)))

-- a position that saturates lies past the end of any buffer, as the sum does
stored_past : (l : List ℕ) (at n : ℕ) (ys : List ℕ) → length l < 2 ^ 64 → stored l (past at n) ys ≡ stored l (at + n) ys
unfolding past
stored_past l at n ys h =
    by_le (length l) (at + n)
    (λ p. stored-out l (past at n) ys (omega arith) ∙ sym (stored-out l (at + n) ys p))
    (λ p. let e : past at n ≡ at + n = omega arith in rw e)

-- two writes are one. Nested to the right, as a document's parts are
infixr 50 ◌⨟◌
pub ◌⨟◌ : {buf b1 b2 xs ys : List ℕ} {at r1 r2 : ℕ} → Wrote buf at xs b1 r1 → Wrote b1 r1 ys b2 r2 → Wrote buf at (xs ++ ys) b2 r2
unfolding past
◌⨟◌ {buf} {xs = xs} {ys} {at} w v =
    record {
      held =
          v.held
          ∙ rw (w.next, w.held) (stored_past (stored buf at xs) at (length xs) ys (omega (arith, length-stored buf at xs, w.room)) ∙ sym (stored-append buf at xs ys));
      next = omega (arith, length-append xs ys, w.next, v.next);
      room = w.room;
    }

pub wrote-length : {buf b1 xs : List ℕ} {at r : ℕ} → Wrote buf at xs b1 r → length b1 ≡ length buf
wrote-length {buf} {b1} {xs} {at} w = ap length w.held ∙ length-stored buf at xs

-- the same bytes under another name
pub wrote_as : {buf b1 xs ys : List ℕ} {at r : ℕ} → ys ≡ xs → Wrote buf at xs b1 r → Wrote buf at ys b1 r
wrote_as e w = rw e w

pub wrote_nothing : (buf : List ℕ) (at : ℕ) → length buf < 2 ^ 64 → at < 2 ^ 64 → Wrote buf at [] buf at
unfolding stored past
wrote_nothing buf at h k = record { held = refl; next = omega arith; room = h }

-- past the end of a buffer only the position counts
pub wrote-out : (buf : List ℕ) (at : ℕ) (xs : List ℕ) → length buf ≤ at → length buf < 2 ^ 64 → Wrote buf at xs buf (past at (length xs))
wrote-out buf at xs h k = record { held = sym (stored-out buf at xs h); next = refl; room = k }

-- one item more: the step of every loop that writes item after item
pub wrote-more :
    {A : Type 0} (f : A → List ℕ) (xs : List A) (x : A) {buf b1 b2 : List ℕ} {at r1 r2 : ℕ} → Wrote buf at (flat_map f xs) b1 r1
    → Wrote b1 r1 (f x) b2 r2 → Wrote buf at (flat_map f (xs ++ x ∷ [])) b2 r2
unfolding flat_map
wrote-more f xs x w v = rw (join_append f xs (x ∷ []), append-nil (f x)) (w ⨟ v)

-- what a writer puts one after the other. Nested to the right as well
infixr 50 ◌▸◌
pub ◌▸◌ : {w w1 w2 : Writer} {xs ys : List ℕ} → Put w xs w1 → Put w1 ys w2 → Put w (xs ++ ys) w2
p ▸ q = record { wrote = p.wrote ⨟ q.wrote; same = q.same ∙ p.same }

pub put_as : {w w1 : Writer} {xs ys : List ℕ} → ys ≡ xs → Put w xs w1 → Put w ys w1
put_as e p = rw e p

pub put_nothing : (w : Writer) → length w.out.now < 2 ^ 64 → w.at < 2 ^ 64 → Put w [] w
put_nothing w h k = record { wrote = wrote_nothing w.out.now w.at h k; same = refl }

-- past the end of the buffer only the position counts
pub put-out :
    (w : Writer) (xs : List ℕ) {r : ℕ} → length w.out.now ≤ w.at → length w.out.now < 2 ^ 64 → r ≡ past w.at (length xs)
    → Put w xs (record { out = w.out; at = r })
put-out w xs h k e = rw e (record { wrote = wrote-out w.out.now w.at xs h k; same = refl })

-- one item more, as for bytes written
pub put-more :
    {A : Type 0} (f : A → List ℕ) (xs : List A) (x : A) {w w1 w2 : Writer} → Put w (flat_map f xs) w1 → Put w1 (f x) w2
    → Put w (flat_map f (xs ++ x ∷ [])) w2
put-more f xs x p q = record { wrote = wrote-more f xs x p.wrote q.wrote; same = q.same ∙ p.same }

-- a position that saturates lies past the end of any bytes, as the number does
pub drop_past : (s : List ℕ) (n : ℕ) → length s < 2 ^ 64 → drop (min n 18446744073709551615) s ≡ drop n s
drop_past s n h =
    let e : min (min n 18446744073709551615) (length s) ≡ min n (length s) = omega arith in
    sym (drop_min (min n 18446744073709551615) s) ∙ rw e (drop_min n s)
