-- Where the parts of a store stand: the numbers of a check, the looks in use, the GSI block, the block that is not whole yet, and the text of the
-- open set.
-- Assumes nothing.
use Rattle.std.specs.Prelude.{ℕ, ◌+◌, ◌*◌, Bool, ◌||◌, List, eqb, drop}
use Rattle.meaning.specs.Lists.{field, bytes}
use Rattle.meaning.specs.Looks.{look_count}
use Rattle.meaning.specs.Blocks.{gsi_size, text_size, block_size}
use Rattle.meaning.specs.Sets.{numbered_blocks}
use Rattle.words.specs.Words.{word_size, value_of, words}
use Rattle.words.specs.Flags.{flags_in}

-- how many numbers
abbrev pub number_count : ℕ
number_count = 35

abbrev pub marks_at : ℕ
marks_at = word_size * number_count

abbrev pub gsi_at : ℕ
gsi_at = marks_at + look_count

abbrev pub part_at : ℕ
part_at = gsi_at + gsi_size

abbrev pub text_at : ℕ
text_at = part_at + block_size

-- the longest text: that of the numbered blocks and the last
abbrev pub text_room : ℕ
text_room = (numbered_blocks + 1) * text_size

abbrev pub store_size : ℕ
store_size = text_at + text_room

-- what the first number of an open check, and of a closed one, spells
unfoldable pub open_phase : ℕ
open_phase = value_of (bytes "STLCHECK")

unfoldable pub closed_phase : ℕ
closed_phase = value_of (bytes "STLCLOSE")

-- the first number of a check
abbrev pub is_phase : ℕ → Bool
is_phase n = eqb n open_phase || eqb n closed_phase

-- the parts of a store
abbrev pub numbers_in : List ℕ → List ℕ
numbers_in store = words number_count store

abbrev pub marks_in : List ℕ → List Bool
marks_in store = flags_in (field marks_at look_count store)

abbrev pub text_in : List ℕ → List ℕ
text_in store = drop text_at store
