-- Why a file is refused: the rule, the block, the offset in the file and the byte there: document 02, request 3.
-- Assumes nothing.
use Rattle.std.specs.Prelude.{Option, Some, None, ℕ, zero, suc, ◌+◌, ◌-◌, true, false, cond, ◌||◌, List, [], ◌∷◌, ltb, eqb, length, get_or}
use Rattle.meaning.specs.declared.Refusal.{Refusal}
use Rattle.meaning.specs.declared.Reason.{Reason}
use Rattle.meaning.specs.Gsi.{block_count}
use Rattle.meaning.specs.Blocks.{header_size, block_start, block_at, header_of, block_text}
use Rattle.meaning.specs.Sets.{is_user}
use Rattle.meaning.specs.Conversion.{refusal}

-- the text of block k; user data has none
unfoldable pub text_at : List ℕ → ℕ → List ℕ
text_at file k = cond (is_user (header_of (block_at file k))) [] (block_text (block_at file k))

-- where in the file byte i of the texts of n blocks, from block k on, stands; past them all, the file's end
unfoldable pub text_offset : List ℕ → ℕ → ℕ → ℕ → ℕ
text_offset file zero k i = length file
text_offset file (suc n) k i =
    elim (ltb i (length (text_at file k))) [
      | true ↦ block_start k + header_size + i
      | false ↦ text_offset file n (suc k) (i - length (text_at file k))
    ]

-- A refusal's offset in the file. That of the rules 1 to 6 counts from the file's start, that of 7 to 12 from the block's, that of 13 to 15
-- from the start of the set's text; 16, and no refusal, stand at the file's end.
unfoldable pub offset_in : List ℕ → Refusal → ℕ
offset_in file r =
    cond (eqb r.number 0 || ltb 15 r.number) (length file)
    (cond (ltb r.number 7) r.offset
    (cond (ltb r.number 13) (block_start r.place + r.offset)
    (text_offset file (block_count file - r.place) r.place r.offset)))

-- the byte at an offset of the file, if there is one
unfoldable pub byte_at : List ℕ → ℕ → Option ℕ
byte_at file o = cond (ltb o (length file)) (Some (get_or file o 0)) None

unfoldable pub reason_of : List ℕ → Refusal → Reason
reason_of file r =
    record { number = r.number; block = r.place; offset = offset_in file r; byte = byte_at file (offset_in file r) }

-- why a file is refused, for a break mode and a buffer of some length; of an accepted file the number is 0
unfoldable pub reason : ℕ → List ℕ → ℕ → Reason
reason mode file room = reason_of file (refusal mode file room)

-- 1 for a byte, 0 for none; and the byte, or 0
unfoldable pub presence_of : Option ℕ → ℕ
presence_of (Some b) = 1
presence_of None = 0

unfoldable pub value_of : Option ℕ → ℕ
value_of (Some b) = b
value_of None = 0

-- the five numbers of a reason
unfoldable pub reason_numbers : Reason → List ℕ
reason_numbers r = r.number ∷ r.block ∷ r.offset ∷ presence_of r.byte ∷ value_of r.byte ∷ []
