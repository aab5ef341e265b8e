-- The walk over a file's blocks, part by part: a walk over two parts goes on from the first, each block is one step, and what every step
-- keeps the walk keeps.
-- Assumes nothing.
use Prim.Native.Nat.{ℕ, zero, suc, ◌+◌, ◌*◌, ◌-◌, ◌≤◌}
use native.Mathlib.Omega.{arith}
use native.Mathlib.Numerals.{add-one}
use mathlib.Core.Path.{◌≡◌, refl, ap, ◌∙◌}
use mathlib.Core.List.{List, [], ◌∷◌, ◌++◌}
use lib.ListN.{length, take, drop}
use lib.Seq.{drop-drop}
use Rattle.meaning.specs.declared.Refusal.{Refusal}
use Rattle.meaning.specs.declared.Format.{Format}
use Rattle.meaning.specs.Lists.{field}
use Rattle.meaning.specs.Blocks.{gsi_size, block_size, blocks, block_at}
use Rattle.meaning.specs.Sets.{BlockSet}
use Rattle.meaning.specs.Walk.{Outcome, step, steps, walk}
use Rattle.meaning.specs.Walk.Outcome.{refused}
use Rattle.meaning.proofs.ListLaws.{All}
use Rattle.meaning.proofs.ListLaws.All.{cons}

pub blocks-length : (n : ℕ) (s : List ℕ) → length (blocks n s) ≡ n
unfolding blocks
blocks-length zero s = refl
blocks-length (suc n) s = ap suc (blocks-length n (drop block_size s))

blocks_last : (k : ℕ) (s : List ℕ) → blocks (suc k) s ≡ blocks k s ++ (take block_size (drop (block_size * k) s) ∷ [])
unfolding blocks
blocks_last zero s = refl
blocks_last (suc k) s =
    let z : block_size + block_size * k ≡ block_size * suc k = omega arith in
    ap (λ (bs : List (List ℕ)). take block_size s ∷ bs) (blocks_last k (drop block_size s) ∙ rw (drop-drop, z))

module _ {A : Type 0} (f : Format) (rule : BlockSet → Refusal) (add : BlockSet → A → A) where
  pub steps-append :
      (k : ℕ) (o : Outcome A) (bs cs : List (List ℕ))
      → steps f rule add k o (bs ++ cs) ≡ steps f rule add (k + length bs) (steps f rule add k o bs) cs
  unfolding steps
  steps-append k o [] cs = let z : k + 0 ≡ k = omega arith in rw z
  steps-append k o (b ∷ bs) cs =
      let z : k + suc (length bs) ≡ suc k + length bs = omega arith in
      rw z (steps-append (suc k) (step f rule add k o b) bs cs)

  -- what each step keeps
  pub steps-keep :
      (Block : List ℕ → Type 0) (P : ℕ → Outcome A → Type 0)
      → ((k : ℕ) (o : Outcome A) (b : List ℕ) → Block b → P k o → P (suc k) (step f rule add k o b))
      → (k : ℕ) (o : Outcome A) (bs : List (List ℕ)) → All Block bs → P k o → P (k + length bs) (steps f rule add k o bs)
  unfolding steps
  steps-keep Block P keep k o [] g h = let z : k + 0 ≡ k = omega arith in rw z h
  steps-keep Block P keep k o (b ∷ bs) (cons c g) h =
      let z : k + suc (length bs) ≡ suc k + length bs = omega arith in
      rw z (steps-keep Block P keep (suc k) (step f rule add k o b) bs g (keep k o b c h))

  module _ (x : A) (file : List ℕ) where
    -- one block more
    pub walk_more : (k : ℕ) → walk f rule add x file (k + 1) ≡ step f rule add k (walk f rule add x file k) (block_at file k)
    unfolding walk block_at field steps
    walk_more k =
        let z : 0 + k ≡ k = omega arith in
        rw (add-one, blocks_last k (drop gsi_size file), drop-drop)
        (steps-append 0 _ (blocks k (drop gsi_size file)) _ ∙ rw (blocks-length k (drop gsi_size file), z))

    -- a refusal stays
    stays_by : {r : Refusal} (k d : ℕ) → walk f rule add x file k ≡ refused r → walk f rule add x file (d + k) ≡ refused r
    unfolding step
    stays_by k zero e = let z : 0 + k ≡ k = omega arith in rw z e
    stays_by k (suc d) e =
        let z : suc d + k ≡ (d + k) + 1 = omega arith in
        rw z (walk_more (d + k) ∙ rw (stays_by k d e))

    pub walk-stays : {r : Refusal} (k n : ℕ) → k ≤ n → walk f rule add x file k ≡ refused r → walk f rule add x file n ≡ refused r
    walk-stays k n h e = let z : n ≡ (n - k) + k = omega arith in rw z (stays_by k (n - k) e)
