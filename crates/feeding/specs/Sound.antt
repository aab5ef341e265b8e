-- What holds of every check that was opened and fed, as a test: a state for which it fails is that of no check.
-- Assumes nothing.
use Rattle.std.specs.Prelude.{ℕ, suc, ◌*◌, min, Bool, true, ◌&&◌, ◌||◌, ltb, leb, eqb, length}
use Rattle.std.proofs.Math.Option.{Option, none, some}
use Rattle.meaning.specs.Blocks.{gsi_size, block_size, text_size}
use Rattle.meaning.specs.Sets.{BlockSet, numbered_blocks}
use Rattle.meaning.specs.Walk.{total, Outcome}
use Rattle.meaning.specs.Walk.Outcome.{refused, accepted}
use Rattle.closed.specs.Body.{Body}
use Rattle.meaning.specs.Gsi.{most_blocks}
use Rattle.feeding.specs.Feeding.{Check}

-- a set that is open after n blocks: a numbered block is its last, and its text is that of no more blocks than this
unfoldable pub is_short_so_far : ℕ → Option BlockSet → Bool
is_short_so_far n none = true
is_short_so_far n (some s) = ltb s.last numbered_blocks && ltb s.last n && leb (length s.text) (text_size * suc s.last)

-- a walk over n blocks: each is counted once
unfoldable pub is_within : ℕ → Outcome Body → Bool
is_within n (refused r) = true
is_within n (accepted p) = eqb (total p.counts) n && is_short_so_far n p.assembly.current

-- no block is counted or begun before the GSI block is whole
unfoldable pub is_sound : Check → Bool
is_sound c =
    leb (length c.gsi) gsi_size
    && ltb (length c.part) block_size
    && leb c.count (suc most_blocks)
    && (leb gsi_size (length c.gsi) || (eqb (length c.part) 0 && eqb c.count 0))
    && is_within (min c.count most_blocks) c.outcome
