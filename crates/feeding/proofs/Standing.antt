-- What a check keeps of a file: its GSI block, the walk over its whole blocks, and the bytes behind them.
-- Assumes nothing.
use Prim.Native.Nat.{ℕ, zero, suc, ◌*◌, ◌-◌, ◌/◌, ◌≤◌, ◌<◌, min}
use native.Mathlib.Omega.{arith}
use native.Mathlib.Nat.{zero-add}
use mathlib.Core.Path.{◌≡◌, refl, sym, ap, ap₂, subst, ◌∙◌}
use mathlib.Core.List.{List, ◌∷◌, ◌++◌, append_assoc}
use lib.ListN.{length, take, drop, take-append-drop, length-append, length-drop, drop_of_length-le}
use lib.Seq.{length-take-le, take_all, take_at, drop_at, take-append-le, drop-append-le}
use Rattle.meaning.specs.Blocks.{gsi_size, block_size, blocks, block_start}
use Rattle.meaning.specs.Gsi.{most_blocks, block_count}
use Rattle.meaning.specs.Walk.{steps, walk}
use Rattle.meaning.proofs.Logic.{by_le}
use Rattle.feeding.specs.Feeding.{Check, opened, with_gsi, with_part, fed, walked}
use Rattle.feeding.specs.Standing.{standing, Stands}
use Rattle.feeding.proofs.Cutting.{fed-append, fed-gsi, fed-part, fed-blocks}

-- blocks do not see what stands behind them
blocks-front : (n : ℕ) (xs ys : List ℕ) → block_size * n ≤ length xs → blocks n (xs ++ ys) ≡ blocks n xs
unfolding blocks
blocks-front zero xs ys h = refl
blocks-front (suc n) xs ys h =
    ap₂ ◌∷◌ (take-append-le block_size xs ys (omega arith))
    (ap (blocks n) (drop-append-le block_size xs ys (omega arith)) ∙ blocks-front n (drop block_size xs) ys (simp length-drop (omega arith)))

module _ (mode room : ℕ) where
  -- a file that ends in its GSI block, or right behind it
  stands-short : (file : List ℕ) → length file ≤ gsi_size → fed (opened mode room) file ≡ standing mode room file
  unfolding opened standing walk steps blocks block_count
  stands-short file h =
      let k : (length file - gsi_size) / block_size ≡ 0 = omega arith in
      fed-gsi (opened mode room) file (omega arith) ∙ rw (k, take_all gsi_size file h, drop_of_length-le file {i = gsi_size} h)

  -- a file in its parts: the GSI block, k whole blocks, and what stands behind them
  module _ (gsi whole part : List ℕ) (k : ℕ) (g : length gsi ≡ gsi_size) (w : length whole ≡ block_size * k) (p : length part < block_size) where
    fed-parts : fed (opened mode room) (gsi ++ (whole ++ part)) ≡ with_part (walked (with_gsi (opened mode room) gsi) k whole) part
    unfolding opened
    fed-parts =
        let c = with_gsi (opened mode room) gsi in
        fed-append (opened mode room) gsi (whole ++ part)
        ∙ ap (λ (d : Check). fed d (whole ++ part)) (fed-gsi (opened mode room) gsi (omega arith))
        ∙ fed-append c whole part
        ∙ ap (λ (d : Check). fed d part) (fed-blocks c k whole (omega arith) refl (omega arith) w)
        ∙ fed-part (walked c k whole) part (omega arith) (omega arith)

    count-parts : block_count (gsi ++ (whole ++ part)) ≡ k
    unfolding block_count
    count-parts = simp length-append (omega arith)

    behind_blocks : drop (block_start k) (gsi ++ (whole ++ part)) ≡ part
    behind_blocks = rw (← (append_assoc gsi whole part)) (drop_at (gsi ++ whole) part (block_start k) (simp length-append (omega arith)))

    standing-parts : standing mode room (gsi ++ (whole ++ part)) ≡ with_part (walked (with_gsi (opened mode room) gsi) k whole) part
    unfolding opened standing walk
    standing-parts =
        rw (
          count-parts,
          behind_blocks,
          take_at gsi (whole ++ part) gsi_size g,
          drop_at gsi (whole ++ part) gsi_size g,
          blocks-front (min k most_blocks) whole part (omega arith),
          zero-add,
        )

    stands_parts : fed (opened mode room) (gsi ++ (whole ++ part)) ≡ standing mode room (gsi ++ (whole ++ part))
    stands_parts = fed-parts ∙ sym standing-parts

-- a check that was fed a file
pub stands : Stands
unfolding block_count
stands mode room file =
    by_le (length file) gsi_size
    (λ h. stands-short mode room file h)
    (λ h.
    let k = block_count file in
    let rest = drop gsi_size file in
    let l : length rest ≡ length file - gsi_size = length-drop gsi_size file in
    let whole = take (block_size * k) rest in
    let part = drop (block_size * k) rest in
    let z : take gsi_size file ++ (whole ++ part) ≡ file =
    ap (λ (r : List ℕ). take gsi_size file ++ r) (take-append-drop (block_size * k) rest) ∙ take-append-drop gsi_size file
    in
    subst (λ (x : List ℕ). fed (opened mode room) x ≡ standing mode room x) z
    (stands_parts mode room (take gsi_size file) whole part k
    (length-take-le gsi_size file (omega arith))
    (length-take-le (block_size * k) rest (omega arith))
    (simp length-drop (omega arith))))
