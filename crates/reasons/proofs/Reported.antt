-- What is shown of a refusal: why, at its offset in the file, and how far its numbers go. The cases of one that names a block, or none.
-- Assumes nothing.
use Prim.Native.Nat.{ℕ, ◌+◌, ◌-◌, ◌≤◌, ◌<◌}
use native.Mathlib.Omega.{arith}
use mathlib.Core.Path.{◌≡◌}
use mathlib.Core.List.{List}
use lib.ListN.{length}
use borrow.Author.Tests.{lt-ltb, le-ltb, ne_eqb}
use Rattle.meaning.specs.declared.Refusal.{Refusal}
use Rattle.meaning.specs.Gsi.{block_count}
use Rattle.meaning.specs.Blocks.{block_size, block_start}
use Rattle.meaning.specs.Reasons.{text_offset, offset_in}
use Rattle.reasons.specs.Explained.{Explained}

-- block and offset of a refusal, so that an offset in the file can be reckoned from them
pub record Placed (file : List ℕ) (r : Refusal) : Type 0 where
  pub block :
      7 ≤ r.number → r.number < 13
      → (r.place ≤ block_count file) × (r.offset < block_size) × (block_start r.place + r.offset ≤ length file)
  pub text : 13 ≤ r.number → r.number < 16 → r.place < block_count file

pub record Reported (mode room : ℕ) (file : List ℕ) (r : Refusal) : Type 0 where
  pub why : Explained mode room file r.number r.place (offset_in file r)
  pub within : offset_in file r ≤ length file
  pub placed : Placed file r

-- the offset by the number
module _ (file : List ℕ) (r : Refusal) where
  pub file-offset : 1 ≤ r.number → r.number < 7 → offset_in file r ≡ r.offset
  unfolding offset_in
  file-offset l h = rw (ne_eqb r.number 0 (λ z. omega arith), le-ltb 15 r.number (omega arith), lt-ltb r.number 7 (omega arith))

  pub block-offset : 7 ≤ r.number → r.number < 13 → offset_in file r ≡ block_start r.place + r.offset
  unfolding offset_in
  block-offset l h =
      rw (ne_eqb r.number 0 (λ z. omega arith), le-ltb 15 r.number (omega arith), le-ltb r.number 7 (omega arith), lt-ltb r.number 13 (omega arith))

  pub text-offset : 13 ≤ r.number → r.number < 16 → offset_in file r ≡ text_offset file (block_count file - r.place) r.place r.offset
  unfolding offset_in
  text-offset l h =
      rw (ne_eqb r.number 0 (λ z. omega arith), le-ltb 15 r.number (omega arith), le-ltb r.number 7 (omega arith), le-ltb r.number 13 (omega arith))

-- number and offset of a rule of a block
pub record InBlock (n o : ℕ) : Type 0 where
  pub low : 7 ≤ n
  pub high : n < 13
  pub offset : o < block_size

block_within : (file : List ℕ) (k o : ℕ) → k < block_count file → o < block_size → block_start k + o ≤ length file
unfolding block_count
block_within file k o h l = omega arith

module _ {mode room : ℕ} {file : List ℕ} where
  pub block-reported :
      (r : Refusal) (k : ℕ) → k < block_count file → r.place ≡ k → InBlock r.number r.offset
      → Explained mode room file r.number k (block_start k + r.offset) → Reported mode room file r
  block-reported r k h e i why =
      let z = block-offset file r i.low i.high in
      let w = block_within file k r.offset h i.offset in
      record {
        why = rw (z, e) why;
        within = rw (z, e) w;
        placed = record { block = λ l m. (omega arith, i.offset, rw e w); text = λ l m. absurd (omega (arith, i.high)) };
      }
