-- Where in the file a byte of a set's text stands: in the text of one of the set's blocks, behind those of the blocks before.
-- Assumes nothing.
use Prim.Native.Nat.{ℕ, zero, suc, ◌+◌, ◌-◌, ◌≤◌, ◌<◌}
use native.Mathlib.Omega.{arith}
use mathlib.Core.Path.{◌≡◌, refl, sym, ap, ◌∙◌}
use mathlib.Core.List.{List, ◌++◌, flat_map, append_assoc}
use lib.Dec.{ltb}
use lib.ListN.{length, length-append, get_or-append}
use lib.Seq.{take-append-le, take-append-add, get_or-append-add}
use borrow.Author.Tests.{ltb-true, ltb-false}
use Rattle.meaning.specs.Lists.{up_from}
use Rattle.meaning.specs.Blocks.{header_size, block_start}
use Rattle.meaning.specs.Reasons.{text_at, text_offset}
use Rattle.meaning.proofs.Logic.{by_test}
use Rattle.reasons.specs.Faults.{Stands}
use Rattle.reasons.proofs.BlockTexts.{text-byte, texts}

module _ (file : List ℕ) where
  -- a byte of the first block's text
  stands_here : (k i : ℕ) (rest : List ℕ) → i < length (text_at file k) → Stands file (text_at file k ++ rest) k i (block_start k + header_size + i)
  unfolding flat_map up_from
  stands_here k i rest h =
      let z : k - k ≡ 0 = omega arith in
      record {
        at_block = k;
        index = i;
        from_place = omega arith;
        in_its_text = h;
        offset = refl;
        before = rw z (take-append-le i (text_at file k) rest (omega arith));
        same = (text-byte file k i h).same ∙ sym (get_or-append (text_at file k) rest 0 i h);
      }

  -- a byte behind it
  stands-later :
      (k i o : ℕ) (rest : List ℕ) → Stands file rest (suc k) i o → Stands file (text_at file k ++ rest) k (length (text_at file k) + i) o
  unfolding flat_map up_from
  stands-later k i o rest s =
      let z : s.at_block - k ≡ suc (s.at_block - suc k) = omega (arith, s.from_place) in
      record {
        at_block = s.at_block;
        index = s.index;
        from_place = omega (arith, s.from_place);
        in_its_text = s.in_its_text;
        offset = s.offset;
        before =
            rw z
            (take-append-add (text_at file k) rest i ∙ ap (λ (t : List ℕ). text_at file k ++ t) s.before
            ∙ sym (append_assoc (text_at file k) _ _));
        same = s.same ∙ sym (get_or-append-add (text_at file k) rest i 0);
      }

  -- a byte of the texts of one block more in front
  text-more :
      (n m k i : ℕ)
      → ((j : ℕ) → j < length (texts file n (suc k)) → Stands file (texts file n (suc k)) (suc k) j (text_offset file m (suc k) j))
      → i < length (texts file (suc n) k) → Stands file (texts file (suc n) k) k i (text_offset file (suc m) k i)
  unfolding flat_map up_from text_offset
  text-more n m k i more l =
      by_test (ltb i (length (text_at file k)))
      (λ t. rw (t, text_offset) (stands_here k i (texts file n (suc k)) (ltb-true _ _ t)))
      (λ t.
      let j = i - length (text_at file k) in
      let le = ltb-false i (length (text_at file k)) t in
      let z : length (text_at file k) + j ≡ i = omega arith in
      let w = length-append (text_at file k) (texts file n (suc k)) in
      rw (t, text_offset) (rw z at (stands-later k j _ (texts file n (suc k)) (more j (omega arith)))))

  text-stands : (n m k i : ℕ) → n ≤ m → i < length (texts file n k) → Stands file (texts file n k) k i (text_offset file m k i)
  unfolding flat_map up_from
  text-stands zero m k i h l = absurd (omega arith)
  text-stands (suc n) zero k i h l = absurd (omega arith)
  text-stands (suc n) (suc m) k i h l = text-more n m k i (λ j. text-stands n m (suc k) j (omega arith)) l

  pub set-stands : (text : List ℕ) (n m k i : ℕ) → text ≡ texts file n k → n ≤ m → i < length text → Stands file text k i (text_offset file m k i)
  set-stands text n m k i e h l = rw e (text-stands n m k i h (rw e at l))

  pub stands-within : {text : List ℕ} {place i o : ℕ} → Stands file text place i o → o < length file
  stands-within s = rw s.offset (text-byte file s.at_block s.index s.in_its_text).within
