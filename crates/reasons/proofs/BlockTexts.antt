-- The texts of a file's blocks: their bytes are the file's, and the texts of one block more end with its own.
-- Assumes nothing.
use Prim.Native.Nat.{ℕ, zero, suc, ◌+◌, ◌-◌, ◌≤◌, ◌<◌}
use native.Mathlib.Omega.{arith}
use mathlib.Core.Path.{◌≡◌, sym, ap, ◌∙◌}
use mathlib.Core.Bool.{false}
use mathlib.Core.List.{List, [], ◌∷◌, ◌++◌, flat_map, append-nil}
use lib.ListN.{length, get_or, take, drop, length-take, length-drop}
use lib.Seq.{get_or-take, get_or-drop}
use Rattle.meaning.specs.Lists.{take_while, field, up_from}
use Rattle.meaning.specs.Blocks.{header_size, text_size, block_size, block_start, block_at, header_of, in_text, block_text}
use Rattle.meaning.specs.Sets.{is_user}
use Rattle.meaning.specs.Reasons.{text_at}
use Rattle.meaning.proofs.Logic.{by_test}
use Rattle.meaning.proofs.ListLaws.{join_append, take_while_lem, while_short}

-- a byte of a block's text is the file's
while_byte : (n i : ℕ) (s : List ℕ) → i < length (take_while in_text (take n s)) → get_or (take_while in_text (take n s)) i 0 ≡ get_or s i 0
while_byte n i s h =
    let l = while_short in_text (take n s) in
    let w : i < n = omega (arith, length-take n s) in
    sym (ap (λ (t : List ℕ). get_or t i 0) (take_while_lem in_text (take n s))) ∙ get_or-take _ (take n s) i 0 h ∙ get_or-take n s i 0 w

pub record InFile (file : List ℕ) (o byte : ℕ) : Type 0 where
  pub within : o < length file
  pub same : get_or file o 0 ≡ byte

block-byte : (file : List ℕ) (k i : ℕ) → i < length (block_text (block_at file k)) → InFile file (block_start k + header_size + i) (get_or (block_text (block_at file k)) i 0)
unfolding block_text block_at field
block-byte file k i h =
    let from = drop (block_start k) file in
    let b = take block_size from in
    let l = while_short in_text (take text_size (drop header_size b)) in
    let l₁ = length-take text_size (drop header_size b) in
    let l₂ = length-drop header_size b in
    let l₃ = length-take block_size from in
    let l₄ = length-drop (block_start k) file in
    let w : header_size + i < block_size = omega arith in
    let z : block_start k + header_size + i ≡ block_start k + (header_size + i) = omega arith in
    record {
      within = omega arith;
      same =
          rw z
          (sym (get_or-drop (block_start k) file (header_size + i) 0) ∙ sym (get_or-take block_size from (header_size + i) 0 w)
          ∙ sym (get_or-drop header_size b i 0) ∙ sym (while_byte text_size i (drop header_size b) h));
    }

pub text-byte : (file : List ℕ) (k i : ℕ) → i < length (text_at file k) → InFile file (block_start k + header_size + i) (get_or (text_at file k) i 0)
unfolding text_at
text-byte file k i h =
    by_test (is_user (header_of (block_at file k)))
    (λ u. absurd (omega (arith, rw u at h)))
    (λ u. rw u (block-byte file k i (rw u at h)))

-- the texts of n blocks, from block k on
abbrev pub texts : List ℕ → ℕ → ℕ → List ℕ
texts file n k = flat_map (text_at file) (up_from n k)

-- one block more
up_last : (n k : ℕ) → up_from (suc n) k ≡ up_from n k ++ ((k + n) ∷ [])
unfolding up_from
up_last zero k = let z : k + 0 ≡ k = omega arith in rw z
up_last (suc n) k = let z : k + suc n ≡ suc k + n = omega arith in rw z (ap (λ (l : List ℕ). k ∷ l) (up_last n (suc k)))

pub texts-more : (file : List ℕ) (n k : ℕ) → k ≤ n → texts file (suc n - k) k ≡ texts file (n - k) k ++ text_at file n
unfolding flat_map
texts-more file n k h =
    let z : suc n - k ≡ suc (n - k) = omega arith in
    let y : k + (n - k) ≡ n = omega arith in
    rw (z, up_last (n - k) k, y) (join_append (text_at file) (up_from (n - k) k) (n ∷ []) ∙ ap (λ (t : List ℕ). texts file (n - k) k ++ t) (append-nil (text_at file n)))

pub texts-none : (file : List ℕ) (k : ℕ) → texts file (k - k) k ≡ []
unfolding flat_map up_from
texts-none file k = let z : k - k ≡ 0 = omega arith in rw z

pub text_of_block : (file : List ℕ) (k : ℕ) → is_user (header_of (block_at file k)) ≡ false → text_at file k ≡ block_text (block_at file k)
unfolding text_at
text_of_block file k u = rw u
