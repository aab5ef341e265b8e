-- The place of a text's byte in the file, block by block, and of a refusal.
-- Assumes nothing.
use Prim.Native.Nat.{ℕ, suc, ◌+◌, ◌-◌, ◌≤◌, ◌<◌}
use native.Mathlib.Omega.{arith}
use native.Mathlib.Numerals.{add-one}
use mathlib.Core.Path.{◌≡◌}
use mathlib.Core.List.{List, []}
use lib.ListN.{length}
use borrow.Author.Tests.{lt-ltb, le-ltb}
use Rattle.meaning.specs.Gsi.{block_count}
use Rattle.meaning.specs.Blocks.{header_size, text_size, block_start, block_at, header_of, block_text}
use Rattle.meaning.specs.Sets.{is_user}
use Rattle.meaning.specs.Reasons.{text_at, text_offset}
use Rattle.meaning.proofs.Logic.{by_cond}
use Rattle.meaning.proofs.Texts.{text-short}

-- what is left of a text, from block k on, of n blocks
module _ (file : List ℕ) (n k left : ℕ) where
  pub found : k < n → left < length (text_at file k) → text_offset file (n - k) k left ≡ block_start k + header_size + left
  unfolding text_offset
  found h l = let z : n - k ≡ suc (n - k - 1) = omega arith in rw (z, lt-ltb left (length (text_at file k)) l, text_offset)

  pub passed :
      k < n → length (text_at file k) ≤ left
      → text_offset file (n - k) k left ≡ text_offset file (n - (k + 1)) (k + 1) (left - length (text_at file k))
  unfolding text_offset
  passed h l =
      let z : n - k ≡ suc (n - (k + 1)) = omega arith in
      rw (z, le-ltb left (length (text_at file k)) l, text_offset, add-one)

  pub past_all : n ≤ k → text_offset file (n - k) k left ≡ length file
  unfolding text_offset
  past_all h = let z : n - k ≡ 0 = omega arith in rw z

-- a byte of a block's text stands before the end of the block, and so of the file
module _ (file : List ℕ) (k left : ℕ) where
  pub text-within : {n : ℕ} → n ≡ block_count file → k < n → left < length (text_at file k) → block_start k + header_size + left < length file
  unfolding block_count text_at
  text-within e h l =
      let short = by_cond (λ (t : List ℕ). length t ≤ text_size) (is_user (header_of (block_at file k))) [] (block_text (block_at file k)) (omega arith) (text-short (block_at file k)) in
      omega arith
