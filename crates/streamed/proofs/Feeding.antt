-- A lump, part by part, by the check's definition.
-- Assumes nothing.
use Prim.Native.Nat.{ℕ, ◌+◌, ◌/◌, ◌%◌, ◌≤◌, ◌<◌}
use native.Mathlib.Omega.{arith}
use mathlib.Core.Path.{◌≡◌, refl, sym, ap, ◌∙◌}
use mathlib.Core.Bool.{true}
use mathlib.Core.List.{List, [], ◌++◌}
use lib.ListN.{length, take, drop, take-append-drop, length-drop, length-append}
use lib.Seq.{length-take-le}
use Rattle.meaning.specs.Lists.{field}
use Rattle.meaning.specs.Blocks.{gsi_size, block_size}
use Rattle.output.specs.Output.{stored}
use Rattle.feeding.specs.Feeding.{Check, with_part, walked, fed}
use Rattle.feeding.proofs.Cutting.{fed-append, fed-gsi, fed-part, fed-block, one_block, fed-blocks}
use Rattle.store.specs.declared.State.{State}
use Rattle.store.specs.Layout.{gsi_at, part_at, store_size}
use Rattle.store.specs.Numbers.{with_gsi_size, with_part_size}
use Rattle.store.specs.Stores.{check_in}
use Rattle.store.proofs.Checks.{check_gsi, check_part}
use Rattle.store.specs.Tests.{is_sound_state}
use Rattle.streamed.proofs.Sound.{gsi_low, part_low, facts, has_gsi, has_part}
use Rattle.std.proofs.lemmas.List.{nil_from_length}

-- a lump in two parts
pub fed_then : (c : Check) {d e : Check} (xs : List ℕ) {ys zs : List ℕ} (n : ℕ) → ys ≡ take n xs → zs ≡ drop n xs → d ≡ fed c ys → e ≡ fed d zs → e ≡ fed c xs
fed_then c xs n y z f g = g ∙ rw (f, y, z) (sym (fed-append c (take n xs) (drop n xs)) ∙ ap (fed c) (take-append-drop n xs))

module _ (s : State) (store : List ℕ) (l : length store ≡ store_size) (h : is_sound_state s ≡ true) where
  -- bytes of the GSI block
  pub gsi_fed :
      {n : ℕ} {store' : List ℕ} (xs : List ℕ) → s.gsi + length xs ≤ gsi_size → n ≡ s.gsi + length xs
      → store' ≡ stored store (gsi_at + s.gsi) xs → check_in (with_gsi_size s n) store' ≡ fed (check_in s store) xs
  gsi_fed xs k e d = rw (e, d) (check_gsi store l s xs k ∙ sym (fed-gsi (check_in s store) xs (omega (arith, has_gsi s store l h))))

  module _ (whole : s.gsi ≡ gsi_size) where
    full : gsi_size ≤ length (check_in s store).gsi
    full = omega (arith, has_gsi s store l h)

    -- bytes of a block that stays unfinished
    pub part_fed :
        {n : ℕ} {store' : List ℕ} (xs : List ℕ) → s.part + length xs < block_size → n ≡ s.part + length xs
        → store' ≡ stored store (part_at + s.part) xs → check_in (with_part_size s n) store' ≡ fed (check_in s store) xs
    part_fed xs k e d =
        rw (e, d) (check_part store l s xs (gsi_low s h) (omega arith) ∙ sym (fed-part (check_in s store) xs full (omega (arith, has_part s store l h))))

    -- the bytes that make a block whole
    module _ (xs : List ℕ) (k : s.part + length xs ≡ block_size) {n : ℕ} {store1 : List ℕ} (e : n ≡ s.part + length xs) (d : store1 ≡ stored store (part_at + s.part) xs) where
      abbrev grown : State
      grown = with_part_size s n

      grown_check : check_in grown store1 ≡ with_part (check_in s store) ((check_in s store).part ++ xs)
      grown_check = rw (e, d) (check_part store l s xs (gsi_low s h) (omega arith))

      whole-block : field part_at block_size store1 ≡ (check_in s store).part ++ xs
      unfolding check_in
      whole-block =
          let z : n ≡ block_size = e ∙ k in
          rw (sym z) (ap (λ (c : Check). c.part) grown_check)

      part_unread : (n : ℕ) (b : List ℕ) → walked (check_in s store1) n b ≡ walked (check_in grown store1) n b
      unfolding check_in
      part_unread n b = refl

      pub block_fed :
          {b : List ℕ} {c : Check} → b ≡ field part_at block_size store1 → c ≡ walked (check_in s store1) (length b / block_size) b
          → c ≡ fed (check_in s store) xs
      block_fed {b} f w =
          let p = (check_in s store).part ++ xs in
          let m : length p ≡ block_size = simp length-append (omega (arith, has_part s store l h)) in
          let q : b ≡ p = f ∙ whole-block in
          let one : length b / block_size ≡ 1 = rw q (rw m refl) in
          w ∙ part_unread _ b
          ∙ rw (one, grown_check, q)
          (sym (one_block (check_in s store) p (facts s store l h).count_low m) ∙ sym (fed-block (check_in s store) xs full (omega (arith, has_part s store l h, part_low s h)) (omega (arith, has_part s store l h))))

-- whole blocks
module _ (s : State) (store : List ℕ) (l : length store ≡ store_size) (h : is_sound_state s ≡ true) (whole : s.gsi ≡ gsi_size) (none : s.part ≡ 0) where
  pub blocks_fed :
      {c : Check} (xs : List ℕ) → length xs % block_size ≡ 0 → c ≡ walked (check_in s store) (length xs / block_size) xs → c ≡ fed (check_in s store) xs
  blocks_fed xs z w =
      let e : (check_in s store).part ≡ [] = nil_from_length (check_in s store).part (omega (arith, has_part s store l h)) in
      w ∙ sym (fed-blocks (check_in s store) (length xs / block_size) xs (full s store l h whole) e (facts s store l h).count_low (omega arith))

-- a block has its size
pub block_length : (store : List ℕ) → length store ≡ store_size → length (field part_at block_size store) ≡ block_size
unfolding field
block_length store l = length-take-le block_size (drop part_at store) (omega (arith, length-drop part_at store))
