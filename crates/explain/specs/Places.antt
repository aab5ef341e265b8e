-- What the place of a refusal must be, to be named by a number of 64 bits.
-- Assumes nothing.
use Rattle.std.specs.Prelude.{◌+◌, ◌≤◌, ◌<◌, ◌^◌}
use Rattle.meaning.specs.declared.Refusal.{Refusal}
use Rattle.meaning.specs.Blocks.{block_start}

-- the offset of a refusal by a rule of a block is no larger than a file can be
abbrev pub InReach : Refusal → Type 0
InReach r = 7 ≤ r.number → r.number < 13 → block_start r.place + r.offset < 2 ^ 64
