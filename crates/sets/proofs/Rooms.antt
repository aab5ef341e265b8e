-- A text buffer with room for some blocks has room for the next of them.
-- Assumes nothing.
use Prim.Native.Nat.{ℕ, ◌+◌, ◌≤◌}
use native.Mathlib.Omega.{arith}
use mathlib.Core.Path.{◌≡◌, refl}
use mathlib.Core.Bool.{true}
use mathlib.Core.List.{List}
use mathlib.Core.Option.{some}
use lib.ListN.{length, length-take}
use borrow.Author.Tests.{le-leb}
use Rattle.meaning.specs.Blocks.{text_size, header_of, block_text}
use Rattle.meaning.specs.Sets.{BlockSet, is_user}
use Rattle.meaning.proofs.Logic.{by_test}
use Rattle.meaning.proofs.Texts.{text-short}
use Rattle.laws.proofs.Walk.{Short, Bounded}
use Rattle.std.specs.Prelude.{Option, Some, None}
use Rattle.sets.specs.declared.Set.{Set}
use Rattle.sets.specs.declared.Sets.{Sets}
use Rattle.sets.specs.Assembling.{set_of, set_with, current_of, assembly_of, text_end, has_room, room_for}

module _ (k : ℕ) (text : List ℕ) (l : room_for (k + 1) ≤ length text) where
  -- a set that is short leaves room for the text of another block
  end_low : (c : Option Set) → ((s : BlockSet) → current_of c text ≡ some s → Short k s) → text_end c + text_size ≤ length text
  unfolding current_of set_of set_with text_end
  end_low None h = omega arith
  end_low (Some s) h = let g = h _ refl in omega (arith, g.size, g.last, g.few, length-take s.size text)

  pub room-left : (b : List ℕ) (s : Sets) → Bounded k (assembly_of s text) → has_room b s text ≡ true
  unfolding has_room assembly_of
  room-left b s h =
      by_test (is_user (header_of b))
      (λ u. rw u)
      (λ u. rw u (le-leb (text_end s.current + length (block_text b)) (length text) (omega (arith, text-short b, end_low s.current h))))
