-- The GSI block, and the rules 1 to 6 over a whole file: document 01, "The file" and "What comes back"; document 02, requests 1 and 3.
-- Assumes nothing.
use Rattle.std.specs.Prelude.{ℕ, ◌+◌, ◌*◌, ◌-◌, ◌/◌, ◌%◌, Bool, true, false, cond, ◌&&◌, ◌||◌, List, [], ◌∷◌, leb, eqb, length, get_or}
use Rattle.meaning.specs.declared.Screen.{Screen}
use Rattle.meaning.specs.declared.Format.{Format}
use Rattle.meaning.specs.declared.Refusal.{Refusal}
use Rattle.meaning.specs.Lists.{all, field, same, bytes}
use Rattle.meaning.specs.Refusals.{Rule, first_broken}
use Rattle.meaning.specs.Blocks.{gsi_size, block_size}

-- where the fields start: DFC, DSC, CCT, TNB, MNR
abbrev pub dfc_at : ℕ
dfc_at = 3

abbrev pub dsc_at : ℕ
dsc_at = 11

abbrev pub cct_at : ℕ
cct_at = 12

abbrev pub tnb_at : ℕ
tnb_at = 238

abbrev pub mnr_at : ℕ
mnr_at = 253

-- DFC, 3 to 10: the frames of a second, 0 where it is neither of the two
unfoldable pub rate_of : List ℕ → ℕ
rate_of file =
    elim (same (field dfc_at 8 file) (bytes "STL25.01")) [
      | true ↦ 25
      | false ↦ elim (same (field dfc_at 8 file) (bytes "STL30.01")) [ true ↦ 30 | false ↦ 0 ]
    ]

unfoldable pub is_rate : ℕ → Bool
is_rate n = eqb n 25 || eqb n 30

-- the blocks present
unfoldable pub block_count : List ℕ → ℕ
block_count file = (length file - gsi_size) / block_size

unfoldable pub is_digit : ℕ → Bool
is_digit c = leb 48 c && leb c 57

-- the number that decimal digits write, after those before
unfoldable pub value_from : ℕ → List ℕ → ℕ
value_from v [] = v
value_from v (c ∷ cs) = value_from (10 * v + (c - 48)) cs

-- the number that decimal digits write, 0 where one of them is no digit
unfoldable pub number_in : List ℕ → ℕ
number_in cs = cond (all is_digit cs) (value_from 0 cs) 0

-- TNB, 238 to 242: its bytes, and the number that they write
abbrev pub tnb_field : List ℕ → List ℕ
tnb_field file = field tnb_at 5 file

unfoldable pub tnb : List ℕ → ℕ
tnb file = number_in (tnb_field file)

-- the most blocks that TNB can count
abbrev pub most_blocks : ℕ
most_blocks = 99999

-- MNR, 253 to 254: the rows of the screen of open subtitles, 0 where one of its bytes is no digit
unfoldable pub mnr : List ℕ → ℕ
mnr file = number_in (field mnr_at 2 file)

-- DSC, 11: "1" and "2" are for teletext, "0" is for open subtitles
abbrev pub dsc : List ℕ → ℕ
dsc file = get_or file dsc_at 0

unfoldable pub is_teletext : List ℕ → Bool
is_teletext file = eqb (dsc file) 49 || eqb (dsc file) 50

-- the lines 1 to 23 of a teletext page, or the rows that MNR gives, from 0 on
unfoldable pub screen_of : List ℕ → Screen
screen_of file = cond (is_teletext file) (record { first = 1; end = 24 }) (record { first = 0; end = mnr file })

-- how a file is read in a break mode
unfoldable pub format_of : ℕ → List ℕ → Format
format_of mode file = record { mode = mode; rate = rate_of file; screen = screen_of file; teletext = is_teletext file }

-- a file's length is that of the GSI block and of whole blocks
abbrev pub is_whole : ℕ → Bool
is_whole n = leb gsi_size n && eqb ((n - gsi_size) % block_size) 0

-- the rules 1 to 6 by the break mode, the file's end, whether it has whole blocks, how many, and the GSI block. Each has the offset of its
-- field; 1 and 2 have none, and stand at the file's end. MNR is read in files of open subtitles only.
abbrev pub gsi_rules : ℕ → ℕ → Bool → ℕ → List ℕ → List Rule
gsi_rules mode end whole count gsi =
    (1, end, eqb mode 1 || eqb mode 2)
    ∷ (2, end, whole)
    ∷ (3, dfc_at, is_rate (rate_of gsi))
    ∷ (4, dsc_at, is_teletext gsi || eqb (dsc gsi) 48)
    ∷ (5, cct_at, same (field cct_at 2 gsi) (bytes "00"))
    ∷ (6, tnb_at, all is_digit (tnb_field gsi) && eqb (tnb gsi) count)
    ∷ (6, mnr_at, is_teletext gsi || leb 1 (mnr gsi))
    ∷ []

-- those of a file: its fields stand at its front
unfoldable pub file_rules : ℕ → List ℕ → List Rule
file_rules mode file = gsi_rules mode (length file) (is_whole (length file)) (block_count file) file

-- the first of them that a break mode and a file break
unfoldable pub file_rule : ℕ → List ℕ → Refusal
file_rule mode file = first_broken 0 (file_rules mode file)
