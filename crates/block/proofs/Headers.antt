-- A header read from the first 16 bytes of a block, or from fewer that are filled up with zeros, is the header of those bytes.
-- Assumes nothing.
use Prim.Native.Nat.{ℕ, zero, suc, ◌+◌, ◌<◌, ◌≤◌}
use native.Mathlib.Omega.{arith}
use mathlib.Core.List.{List, [], ◌∷◌, ◌++◌}
use mathlib.Core.Path.{◌≡◌, refl}
use lib.ListN.{length, take, drop, get_or, replicate}
use lib.Seq.{get_or-drop}
use Rattle.std.proofs.Common.{get_or-take}
use Rattle.meaning.proofs.ListLaws.{at_copies}
use Rattle.meaning.specs.Blocks.{time_at, header_of}

filled : (b z : List ℕ) → ((i : ℕ) → get_or z i 0 ≡ 0) → (j : ℕ) → get_or (b ++ z) j 0 ≡ get_or b j 0
filled [] z h j = h j
filled (x ∷ b) z h zero = refl
filled (x ∷ b) z h (suc j) = filled b z h j

module _ (a b : List ℕ) (e : (j : ℕ) → j < 16 → get_or a j 0 ≡ get_or b j 0) where
  time_alike : (i : ℕ) → i ≤ 12 → time_at i a ≡ time_at i b
  unfolding time_at
  time_alike i h = rw (e i (omega arith), e (1 + i) (omega arith), e (2 + i) (omega arith), e (3 + i) (omega arith))

  header-alike : header_of a ≡ header_of b
  unfolding header_of
  header-alike =
      rw (
        e 0 (omega arith),
        e 1 (omega arith),
        e 2 (omega arith),
        e 3 (omega arith),
        e 4 (omega arith),
        time_alike 5 (omega arith),
        time_alike 9 (omega arith),
        e 13 (omega arith),
        e 14 (omega arith),
        e 15 (omega arith),
      )

pub header_whole : (b h : List ℕ) → h ≡ take 16 b → header_of h ≡ header_of b
header_whole b h e = rw e (header-alike _ b (λ j k. get_or-take 16 b j 0 k))

pub header-filled : (b : List ℕ) (k : ℕ) → header_of (b ++ drop (length b) (replicate k 0)) ≡ header_of b
header-filled b k = header-alike _ b (λ j h. filled b (drop (length b) (replicate k 0)) (λ i. rw get_or-drop (at_copies k (length b + i) 0)) j)

-- .. with the size of an array that is filled up: the search does not find the number of zeros by itself
pub header_filled : (b : List ℕ) → header_of (b ++ drop (length b) (replicate 16 0)) ≡ header_of b
header_filled b = header-filled b 16
