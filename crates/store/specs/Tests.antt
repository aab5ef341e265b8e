-- What holds of every check that was opened and fed, asked of its numbers alone.
-- Assumes nothing.
use Rattle.std.specs.Prelude.{ℕ, suc, ◌*◌, min, Bool, true, not, ◌&&◌, ◌||◌, Option, Some, None, ltb, leb, eqb}
use Rattle.meaning.specs.Refusals.{is_good}
use Rattle.meaning.specs.Blocks.{gsi_size, block_size, text_size}
use Rattle.meaning.specs.Sets.{numbered_blocks}
use Rattle.meaning.specs.Walk.{total}
use Rattle.output.specs.Output.{past}
use Rattle.sets.specs.declared.Set.{Set}
use Rattle.checking.specs.declared.blocks.Pass.{Pass}
use Rattle.meaning.specs.Gsi.{most_blocks}
use Rattle.store.specs.declared.State.{State}
use Rattle.store.specs.Layout.{text_room, store_size, is_phase}
use Rattle.store.specs.Phases.{phase_number}

-- the set that is open after n blocks
unfoldable pub is_short_set : ℕ → Set → Bool
is_short_set n s = ltb s.last numbered_blocks && ltb s.last n && leb (min s.size text_room) (text_size * suc s.last)

unfoldable pub is_short_current : ℕ → Option Set → Bool
is_short_current n None = true
is_short_current n (Some s) = is_short_set n s

-- pass one over n blocks; the sum of the counts stays at the largest number
unfoldable pub is_pass_over : ℕ → Pass → Bool
is_pass_over n w = not (is_good w.refusal) || (eqb (past 0 (total w.counts)) n && is_short_current n w.sets.current)

unfoldable pub is_sound_state : State → Bool
is_sound_state s =
    leb s.gsi gsi_size
    && ltb s.part block_size
    && leb s.count (suc most_blocks)
    && (leb gsi_size s.gsi || (eqb s.part 0 && eqb s.count 0))
    && is_pass_over (min s.count most_blocks) s.pass

-- a store of this size that has these numbers is that of a check
unfoldable pub is_check_by : ℕ → State → Bool
is_check_by size s = eqb size store_size && is_phase (phase_number s.phase) && is_sound_state s
