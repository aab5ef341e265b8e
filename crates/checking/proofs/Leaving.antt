-- Pass one over some bytes, by what is left of them.
-- Assumes nothing.
use Prim.Native.Nat.{ℕ, suc, ◌+◌, ◌-◌, ◌*◌, ◌≤◌, ◌<◌, ◌^◌, min}
use native.Mathlib.Omega.{arith}
use mathlib.Core.Path.{◌≡◌, refl, ◌∙◌}
use mathlib.Core.Bool.{true, false}
use mathlib.Core.List.{List}
use lib.ListN.{length, drop}
use lib.Seq.{drop-drop}
use Rattle.meaning.specs.declared.Format.{Format}
use Rattle.meaning.specs.Refusals.{is_good}
use Rattle.meaning.specs.Lists.{field}
use Rattle.meaning.specs.Blocks.{block_size, blocks}
use Rattle.output.specs.Output.{past}
use Rattle.output.proofs.Laws.{drop_past}
use Rattle.checking.specs.Passing.{Passing, more, block_taken, pass_all}

module _ (f : Format) (bytes : List ℕ) (n first : ℕ) (start : Passing) where
  -- after k blocks: what is still to be passed
  pub record Left (p : Passing) (k : ℕ) : Type 0 where
    pub long : length p.text ≡ length start.text
    pub onward : pass_all f (past first k) p (blocks (n - k) (drop (k * block_size) bytes)) ≡ pass_all f first start (blocks n bytes)

  pub left-all : first < 2 ^ 64 → Left start 0
  unfolding past
  left-all h =
      let z : n - 0 ≡ n = omega arith in
      let y : past first 0 ≡ first = omega arith in
      record { long = refl; onward = rw (z, y) refl }

  module _ {p : Passing} {k : ℕ} (l : Left p k) where
    pub left-none : n ≤ k → p ≡ pass_all f first start (blocks n bytes)
    unfolding blocks pass_all
    left-none h = let z : n - k ≡ 0 = omega arith in rw z at l.onward

    module _ (h : k < n) where
      next : n - k ≡ suc (n - (k + 1))
      next = omega arith

      pub left-refused : is_good p.pass.refusal ≡ false → p ≡ pass_all f first start (blocks n bytes)
      unfolding blocks pass_all
      left-refused e = rw (next, e, pass_all) at l.onward

      module _ (e : is_good p.pass.refusal ≡ true) where
        one_more :
            pass_all f (more (past first k)) (block_taken f (past first k) (field (k * block_size) block_size bytes) p)
            (blocks (n - (k + 1)) (drop (k * block_size + block_size) bytes)) ≡ pass_all f first start (blocks n bytes)
        unfolding blocks pass_all field
        one_more = rw (next, e, pass_all, drop-drop) at l.onward

        pub left-more :
            length bytes < 2 ^ 64 → {place at : ℕ} {b : List ℕ} {q : Passing} → place ≡ min (first + k) 18446744073709551615
            → at ≡ min (k * block_size) 18446744073709551615 → b ≡ field at block_size bytes → q ≡ block_taken f place b p
            → length q.text ≡ length p.text → Left q (k + 1)
        unfolding past field
        left-more m u v d s x =
            let y : more (past first k) ≡ past first (k + 1) = omega arith in
            let z : k * block_size + block_size ≡ (k + 1) * block_size = omega arith in
            record { long = x ∙ l.long; onward = rw (s, d, u, v, drop_past bytes (k * block_size) m) (rw (y, z) at one_more) }
