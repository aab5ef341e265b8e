-- The numbers of a check stay sound: when bytes of the GSI block or of a block come, and after whole blocks.
-- Assumes nothing.
use Prim.Native.Nat.{ℕ, suc, ◌+◌, ◌-◌, ◌≤◌, ◌<◌, min}
use native.Mathlib.Omega.{arith}
use mathlib.Core.Path.{◌≡◌, ◌∙◌}
use mathlib.Core.Bool.{true, ◌&&◌, ◌||◌}
use mathlib.Core.List.{List}
use mathlib.Core.Logic.{⊎_elim}
use lib.Dec.{leb, ltb, eqb}
use lib.ListN.{length, drop, length-take, length-drop}
use borrow.Author.Tests.{leb-true, ltb-true, le-leb, lt-ltb}
use Rattle.meaning.specs.Blocks.{gsi_size, block_size, blocks}
use Rattle.meaning.specs.Lists.{field}
use Rattle.meaning.specs.Gsi.{most_blocks, format_of}
use Rattle.meaning.specs.Walk.{steps, set_rule}
use Rattle.meaning.proofs.ListLaws.{Any, any-blocks}
use Rattle.std.proofs.lemmas.Bool.{and_from, and_parts, or_cases, or_left, or_right}
use Rattle.meaning.proofs.Logic.{by_le}
use Rattle.laws.proofs.Steps.{blocks-length, steps-keep}
use Rattle.laws.proofs.Walk.{WithinIf, step-within}
use Rattle.closed.specs.Body.{lay_set}
use Rattle.feeding.specs.Feeding.{Check, walked}
use Rattle.feeding.specs.Sound.{is_sound}
use Rattle.feeding.proofs.Sound.{Sounds, facts-sound, sound-facts}
use Rattle.store.specs.declared.State.{State}
use Rattle.store.specs.Numbers.{with_gsi_size, with_part_size}
use Rattle.store.specs.Layout.{gsi_at, part_at, store_size}
use Rattle.store.specs.Stores.{check_in}
use Rattle.store.proofs.Sound.{sound_state}
use Rattle.store.specs.Tests.{is_pass_over, is_sound_state}

-- the tests, one by one
record Tested (s : State) : Type 0 where
  gsi : s.gsi ≤ gsi_size
  part : s.part < block_size
  count : s.count ≤ suc most_blocks
  begun : (leb gsi_size s.gsi || (eqb s.part 0 && eqb s.count 0)) ≡ true
  pass : is_pass_over (min s.count most_blocks) s.pass ≡ true

tested_sound : (s : State) → Tested s → is_sound_state s ≡ true
unfolding is_sound_state
tested_sound s t =
    and_from _ _
    (and_from _ _ (and_from _ _ (and_from _ _ (le-leb s.gsi gsi_size t.gsi) (lt-ltb s.part block_size t.part)) (le-leb s.count (suc most_blocks) t.count)) t.begun)
    t.pass

module _ (s : State) (h : is_sound_state s ≡ true) where
  sound_tested : Tested s
  unfolding is_sound_state
  sound_tested =
      let t1 = leb s.gsi gsi_size in
      let t2 = ltb s.part block_size in
      let t3 = leb s.count (suc most_blocks) in
      let t4 = leb gsi_size s.gsi || (eqb s.part 0 && eqb s.count 0) in
      let a4 = and_parts (t1 && t2 && t3 && t4) (is_pass_over (min s.count most_blocks) s.pass) h in
      let a3 = and_parts (t1 && t2 && t3) t4 a4.0 in
      let a2 = and_parts (t1 && t2) t3 a3.0 in
      let a1 = and_parts t1 t2 a2.0 in
      record {
        gsi = leb-true s.gsi gsi_size a1.0;
        part = ltb-true s.part block_size a1.1;
        count = leb-true s.count (suc most_blocks) a2.1;
        begun = a3.1;
        pass = a4.1;
      }

  pub gsi_low : s.gsi ≤ gsi_size
  gsi_low = sound_tested.gsi

  pub part_low : s.part < block_size
  part_low = sound_tested.part

  pub count_low : s.count ≤ suc most_blocks
  count_low = sound_tested.count

  pub sound_gsi : {n : ℕ} → s.gsi ≤ n → n ≤ gsi_size → is_sound_state (with_gsi_size s n) ≡ true
  sound_gsi {n} l k =
      let t = sound_tested in
      tested_sound (with_gsi_size s n)
      (record {
        gsi = k;
        part = t.part;
        count = t.count;
        begun =
            ⊎_elim
            (λ e. let f = leb-true gsi_size s.gsi e in or_left _ _ (le-leb gsi_size n (omega arith)))
            (or_right (leb gsi_size n) _)
            (or_cases (leb gsi_size s.gsi) _ t.begun);
        pass = t.pass;
      })

  pub sound_part : {n : ℕ} → s.gsi ≡ gsi_size → n < block_size → is_sound_state (with_part_size s n) ≡ true
  sound_part {n} g k =
      let t = sound_tested in
      tested_sound (with_part_size s n)
      (record { gsi = t.gsi; part = k; count = t.count; begun = or_left _ _ (le-leb gsi_size s.gsi (omega arith)); pass = t.pass })

-- the check of sound numbers in its store
module _ (s : State) (store : List ℕ) (l : length store ≡ store_size) (h : is_sound_state s ≡ true) where
  pub sound : is_sound (check_in s store) ≡ true
  sound = sound_state store l s ∙ h

  pub facts : Sounds (check_in s store)
  facts = sound-facts (check_in s store) sound

  pub has_gsi : length (check_in s store).gsi ≡ s.gsi
  unfolding check_in field
  has_gsi = omega (arith, gsi_low s h, length-take s.gsi (drop gsi_at store), length-drop gsi_at store)

  pub has_part : length (check_in s store).part ≡ s.part
  unfolding check_in field
  has_part = omega (arith, part_low s h, length-take s.part (drop part_at store), length-drop part_at store)

-- after whole blocks; more than TNB can count are not walked over
module _ (c : Check) (n : ℕ) (xs : List ℕ) (h : is_sound c ≡ true) (g : length c.gsi ≡ gsi_size) where
  known : Sounds c
  known = sound-facts c h

  abbrev count_then : ℕ
  count_then = min (min (c.count + n) (suc most_blocks)) most_blocks

  within-none : suc most_blocks ≤ c.count → WithinIf count_then (walked c n xs).outcome
  unfolding blocks steps
  within-none p =
      let m : min n (most_blocks - c.count) ≡ 0 = omega arith in
      let k : min c.count most_blocks ≡ count_then = omega arith in
      rw m (rw k at known.within)

  within_some : c.count ≤ most_blocks → WithinIf count_then (walked c n xs).outcome
  within_some p =
      let f = format_of c.mode c.gsi in
      let m = min n (most_blocks - c.count) in
      let z : min c.count most_blocks ≡ c.count = omega arith in
      let k : c.count + length (blocks m xs) ≡ count_then = omega (arith, blocks-length m xs) in
      rw k at (steps-keep f (set_rule f) (lay_set f) Any WithinIf (step-within f (set_rule f) (lay_set f)) c.count c.outcome (blocks m xs) (any-blocks _) (rw z at known.within))

  pub walked-sound : is_sound (walked c n xs) ≡ true
  walked-sound =
      facts-sound (walked c n xs)
      (record {
        gsi-short = omega arith;
        part-short = omega arith;
        count_low = omega arith;
        gsi-first = λ l. absurd (omega arith);
        within = by_le (suc most_blocks) c.count within-none (λ p. within_some (omega arith));
      })
