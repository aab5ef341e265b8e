-- The test for a check that was opened and fed, as facts: opening makes them, and feeding keeps them.
-- Assumes nothing.
use Prim.Native.Nat.{ℕ, suc, ◌≤◌, ◌<◌, min}
use native.Mathlib.Omega.{arith}
use mathlib.Core.Path.{◌≡◌, refl, sym, subst}
use mathlib.Core.Bool.{Bool, true, ◌&&◌, ◌||◌}
use mathlib.Core.List.{List, [], ◌∷◌, ◌++◌}
use mathlib.Core.Logic.{⊎_elim}
use lib.Dec.{ltb, leb, eqb}
use lib.ListN.{length, length-append}
use borrow.Author.Tests.{leb-true, ltb-true, eqb-true, le-leb, lt-ltb, eq-eqb}
use Rattle.meaning.specs.Blocks.{gsi_size, block_size}
use Rattle.meaning.specs.Gsi.{most_blocks, format_of}
use Rattle.meaning.specs.Walk.{set_rule}
use Rattle.std.proofs.lemmas.Bool.{and_from, and_parts, or_cases, or_left, or_right}
use Rattle.meaning.proofs.Logic.{by_le}
use Rattle.laws.proofs.Walk.{WithinIf, step-within, start-within}
use Rattle.closed.specs.Body.{empty_body, lay_set}
use Rattle.feeding.specs.Feeding.{Check, opened, with_block, with_byte, fed}
use Rattle.feeding.specs.Sound.{is_within, is_sound}
use Rattle.feeding.proofs.Cutting.{byte-gsi, byte-part, byte-block, block-counted, block-passed}
use Rattle.feeding.proofs.Within.{within-test, tested-within}

-- what holds of a check that was opened and fed
pub record Sounds (c : Check) : Type 0 where
  pub gsi-short : length c.gsi ≤ gsi_size
  pub part-short : length c.part < block_size
  pub count_low : c.count ≤ suc most_blocks
  pub gsi-first : length c.gsi < gsi_size → (length c.part ≡ 0) × (c.count ≡ 0)
  pub within : WithinIf (min c.count most_blocks) c.outcome

module _ (c : Check) where
  -- nothing is begun before the GSI block is whole
  abbrev first_test : Bool
  first_test = leb gsi_size (length c.gsi) || (eqb (length c.part) 0 && eqb c.count 0)

  first-test : (length c.gsi < gsi_size → (length c.part ≡ 0) × (c.count ≡ 0)) → first_test ≡ true
  first-test h =
      by_le gsi_size (length c.gsi)
      (λ l. or_left _ _ (le-leb gsi_size (length c.gsi) l))
      (λ l.
      or_right (leb gsi_size (length c.gsi)) _
      (and_from _ _ (eq-eqb (length c.part) 0 (h l).0) (eq-eqb c.count 0 (h l).1)))

  tested-first : first_test ≡ true → length c.gsi < gsi_size → (length c.part ≡ 0) × (c.count ≡ 0)
  tested-first e l =
      ⊎_elim
      (λ t. absurd (omega (arith, leb-true gsi_size (length c.gsi) t)))
      (λ t.
      let a = and_parts (eqb (length c.part) 0) (eqb c.count 0) t in
      (eqb-true (length c.part) 0 a.0, eqb-true c.count 0 a.1))
      (or_cases (leb gsi_size (length c.gsi)) _ e)

  -- the facts pass the test, and the test gives the facts
  pub facts-sound : Sounds c → is_sound c ≡ true
  unfolding is_sound
  facts-sound s =
      and_from _ _
      (and_from _ _
      (and_from _ _
      (and_from _ _ (le-leb (length c.gsi) gsi_size s.gsi-short) (lt-ltb (length c.part) block_size s.part-short))
      (le-leb c.count (suc most_blocks) s.count_low))
      (first-test s.gsi-first))
      (within-test (min c.count most_blocks) c.outcome s.within)

  pub sound-facts : is_sound c ≡ true → Sounds c
  unfolding is_sound
  sound-facts e =
      let t1 = leb (length c.gsi) gsi_size in
      let t2 = ltb (length c.part) block_size in
      let t3 = leb c.count (suc most_blocks) in
      let a4 = and_parts (t1 && t2 && t3 && first_test) (is_within (min c.count most_blocks) c.outcome) e in
      let a3 = and_parts (t1 && t2 && t3) first_test a4.0 in
      let a2 = and_parts (t1 && t2) t3 a3.0 in
      let a1 = and_parts t1 t2 a2.0 in
      record {
        gsi-short = leb-true (length c.gsi) gsi_size a1.0;
        part-short = ltb-true (length c.part) block_size a1.1;
        count_low = leb-true c.count (suc most_blocks) a2.1;
        gsi-first = tested-first a3.1;
        within = tested-within (min c.count most_blocks) c.outcome a4.1;
      }

pub opened-sound : (mode room : ℕ) → is_sound (opened mode room) ≡ true
unfolding opened
opened-sound mode room =
    let f = format_of mode [] in
    facts-sound (opened mode room)
    (record {
      gsi-short = omega arith;
      part-short = omega arith;
      count_low = omega arith;
      gsi-first = λ h. (refl, refl);
      within = start-within f (set_rule f) (lay_set f) empty_body;
    })

-- a check whose GSI block is whole
whole_sounds :
    (c : Check) → length c.gsi ≡ gsi_size → length c.part < block_size → c.count ≤ suc most_blocks
    → WithinIf (min c.count most_blocks) c.outcome → Sounds c
whole_sounds c g p k w = record { gsi-short = omega arith; part-short = p; count_low = k; gsi-first = λ l. absurd (omega arith); within = w }

-- one byte more keeps the facts
module _ (c : Check) (s : Sounds c) where
  block_sounds : (b : List ℕ) → length c.gsi ≡ gsi_size → Sounds (with_block c b)
  block_sounds b g =
      by_le (suc c.count) most_blocks
      (λ h.
      let f = format_of c.mode c.gsi in
      let m : min c.count most_blocks ≡ c.count = omega arith in
      let n : min (suc c.count) most_blocks ≡ suc c.count = omega arith in
      subst Sounds (sym (block-counted c b h))
      (whole_sounds _ g (omega arith) (omega arith)
      (rw n (step-within f (set_rule f) (lay_set f) c.count c.outcome b tt (rw m at s.within)))))
      (λ h.
      let m : min c.count most_blocks ≡ most_blocks = omega arith in
      subst Sounds (sym (block-passed c b (omega arith))) (whole_sounds _ g (omega arith) (omega arith) (rw m at s.within)))

  byte_sounds : (b : ℕ) → Sounds (with_byte c b)
  byte_sounds b =
      by_le gsi_size (length c.gsi)
      (λ g.
      let e : length c.gsi ≡ gsi_size = omega arith in
      by_le block_size (suc (length c.part))
      (λ h. subst Sounds (sym (byte-block c b g h)) (block_sounds (c.part ++ (b ∷ [])) e))
      (λ h. subst Sounds (sym (byte-part c b g h)) (whole_sounds _ e (simp length-append (omega arith)) s.count_low s.within)))
      (λ g.
      subst Sounds (sym (byte-gsi c b g))
      (record {
        gsi-short = simp length-append (omega arith);
        part-short = s.part-short;
        count_low = s.count_low;
        gsi-first = λ l. s.gsi-first g;
        within = s.within;
      }))

-- bytes keep them
fed_sounds : (c : Check) (xs : List ℕ) → Sounds c → Sounds (fed c xs)
unfolding fed
fed_sounds c [] s = s
fed_sounds c (b ∷ xs) s = fed_sounds (with_byte c b) xs (byte_sounds c s b)

pub fed-sound : (c : Check) (xs : List ℕ) → is_sound c ≡ true → is_sound (fed c xs) ≡ true
fed-sound c xs e = facts-sound (fed c xs) (fed_sounds c xs (sound-facts c e))
