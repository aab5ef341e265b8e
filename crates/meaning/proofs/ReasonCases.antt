-- Cases of document 02, request 3: for each rule, and for most kinds within a rule, the number, the block, the offset and the byte, computed.
-- Assumes nothing.
use Prim.Native.Nat.{ℕ}
use mathlib.Core.Bool.{Bool, true, false, ◌&&◌}
use mathlib.Core.List.{List, [], ◌∷◌, ◌++◌}
use lib.Dec.{T, eqb}
use lib.ListN.{replicate, take, set}
use Rattle.std.specs.Prelude.{Option, Some, None}
use Rattle.meaning.specs.declared.Reason.{Reason}
use Rattle.meaning.specs.Lists.{all}
use Rattle.meaning.specs.Reasons.{reason}
use Rattle.meaning.proofs.Computed.{computed}
use Rattle.meaning.proofs.Files.{Block, subtitle, file_of, one_of, files}

-- a break mode, a file, the room, and the reason
record Case : Type 0 where
  mode : ℕ
  file : List ℕ
  room : ℕ
  expected : Reason

same_byte : Option ℕ → Option ℕ → Bool
same_byte (Some b) (Some d) = eqb b d
same_byte (Some b) None = false
same_byte None (Some d) = false
same_byte None None = true

same_reason : Reason → Reason → Bool
same_reason r e =
    eqb r.number e.number && eqb r.block e.block && eqb r.offset e.offset && same_byte r.byte e.byte

holds : Case → Bool
holds c = same_reason (reason c.mode c.file c.room) c.expected

-- the byte at an offset is named; none is, at the end of the file
named : ℕ → List ℕ → ℕ → ℕ → ℕ → ℕ → Case
named mode file number block offset byte =
    record { mode = mode; file = file; room = 65536; expected = record { number = number; block = block; offset = offset; byte = Some byte } }

unnamed : ℕ → List ℕ → ℕ → ℕ → ℕ → ℕ → Case
unnamed mode file room number block offset =
    record { mode = mode; file = file; room = room; expected = record { number = number; block = block; offset = offset; byte = None } }

-- a file of one subtitle with a text, at line 20, and one that is accepted
one : List ℕ → List ℕ
one text = file_of (subtitle 20 text ∷ [])

good : List ℕ
good = one (65 ∷ [])

-- a block of a set at line VP, by its EBN; user data
part : ℕ → ℕ → List ℕ → Block
part vp ebn text = record { sn = 1; ebn = ebn; seconds = 3; frames = 4; vp = vp; cf = 0; text = text }

user : Block
user = part 0 254 (127 ∷ 127 ∷ [])

-- a subtitle in two blocks, and with user data between them
two : List ℕ → List ℕ → List ℕ
two front back = file_of (part 20 0 front ∷ part 20 255 back ∷ [])

with_user_data : List ℕ → List ℕ → List ℕ
with_user_data front back = file_of (part 20 0 front ∷ user ∷ user ∷ part 20 255 back ∷ [])

-- open subtitles on a screen of two rows, from the last row on
film : List ℕ → List ℕ
film text = one_of "000" "02" 1 text

-- 112 bytes, of which the last is given, behind a 0Dh: a whole block
full : ℕ → List ℕ
full last = (13 ∷ replicate 60 32) ++ (138 ∷ 138 ∷ replicate 48 32) ++ (last ∷ [])

file : List Case
file =
    unnamed 1 good 65536 0 0 1152
    ∷ unnamed 0 good 65536 1 0 1152
    ∷ unnamed 1 [] 65536 2 0 0
    ∷ unnamed 1 (take 1151 good) 65536 2 0 1151
    -- DFC by its first byte, right or wrong; DSC; CCT
    ∷ named 1 (set good 3 88) 3 0 3 88
    ∷ named 1 (set good 10 50) 3 0 3 83
    ∷ named 1 (set good 11 51) 4 0 11 51
    ∷ named 1 (set good 13 49) 5 0 12 48
    -- TNB, also with a byte that is no digit; MNR; TNB where both are wrong
    ∷ named 1 (set good 240 32) 6 0 238 48
    ∷ named 1 (set good 242 50) 6 0 238 48
    ∷ named 1 (one_of "000" "00" 0 (65 ∷ [])) 6 0 253 48
    ∷ named 1 (set (one_of "000" "00" 0 (65 ∷ [])) 242 50) 6 0 238 48
    ∷ unnamed 1 good 10 16 0 1152
    ∷ []

-- blocks at 1,024 and at 1,152
block : List Case
block =
    -- EBN where no set is open, and in a set, before any disagreement
    named 1 (set good 1027 1) 7 0 1027 1
    ∷ named 1 (set good 1027 240) 7 0 1027 240
    ∷ named 1 (set (two (65 ∷ []) (66 ∷ [])) 1155 240) 7 1 1155 240
    ∷ named 1 (set (two (65 ∷ []) (66 ∷ [])) 1155 2) 7 1 1155 2
    ∷ named 1 (set (set (two (65 ∷ []) (66 ∷ [])) 1155 2) 1152 9) 7 1 1155 2
    -- SGN before SN before CF; SN by its low byte
    ∷ named 1 (set (set (two (65 ∷ []) (66 ∷ [])) 1167 1) 1152 9) 7 1 1152 9
    ∷ named 1 (set (set (two (65 ∷ []) (66 ∷ [])) 1167 1) 1154 9) 7 1 1153 1
    ∷ named 1 (set (two (65 ∷ []) (66 ∷ [])) 1167 1) 7 1 1167 1
    -- a set open at the end, user data behind it
    ∷ unnamed 1 (file_of (part 20 0 (65 ∷ []) ∷ user ∷ [])) 65536 7 2 1280
    -- CF; SN; CS
    ∷ named 1 (set good 1039 2) 8 0 1039 2
    ∷ named 1 (file_of (subtitle 20 [] ∷ subtitle 20 [] ∷ [])) 9 1 1153 1
    ∷ named 1 (set good 1028 1) 10 0 1028 1
    -- a frame of TCI, also where TCO is out of range; hours and minutes of TCO; TCO before TCI and equal to it
    ∷ named 1 (set good 1033 24) 11 0 1033 24
    ∷ named 1 (set (set good 1035 1) 1036 2) 11 0 1033 10
    ∷ named 1 (set good 1032 25) 11 0 1032 25
    ∷ named 1 (set (set good 1032 25) 1033 24) 11 0 1032 25
    ∷ named 1 (set (set good 1034 60) 1033 9) 11 0 1034 60
    ∷ named 1 (set good 1033 9) 11 0 1033 9
    -- VP before JC
    ∷ named 1 (set (set good 1037 24) 1038 4) 12 0 1037 24
    ∷ named 1 (set good 1038 4) 12 0 1038 4
    ∷ []

text : List Case
text =
    -- 7Fh behind an accent pair; the accent of a pair; an accent before nothing; C9h; a control in an open file, a switch in teletext
    named 1 (one (194 ∷ 101 ∷ 127 ∷ [])) 13 0 1042 127
    ∷ named 1 (one (65 ∷ 194 ∷ 160 ∷ [])) 13 0 1041 194
    ∷ named 1 (one (194 ∷ 88 ∷ 194 ∷ 32 ∷ 206 ∷ 194 ∷ [])) 13 0 1044 206
    ∷ named 1 (one (65 ∷ 194 ∷ [])) 13 0 1041 194
    ∷ named 1 (one (65 ∷ 201 ∷ 65 ∷ [])) 13 0 1041 201
    ∷ named 1 (film (65 ∷ 1 ∷ [])) 13 0 1041 1
    ∷ named 1 (one (65 ∷ 128 ∷ [])) 13 0 1041 128
    -- in the second block, the first cut at 8Fh; a pair over two blocks, with user data between them
    ∷ named 1 (two (65 ∷ []) (66 ∷ 127 ∷ [])) 13 0 1169 127
    ∷ named 1 (two (65 ∷ 194 ∷ []) (160 ∷ 66 ∷ [])) 13 0 1041 194
    ∷ named 1 (with_user_data (65 ∷ 194 ∷ []) (101 ∷ 127 ∷ [])) 13 0 1425 127
    -- the second set
    ∷ named 1 (file_of (subtitle 20 [] ∷ record { sn = 2; ebn = 255; seconds = 3; frames = 4; vp = 20; cf = 0; text = 127 ∷ [] } ∷ [])) 13 1 1168 127
    -- 0Dh after a character; in a later row of single height; after a character of a later row of double height, where it may begin the row
    ∷ named 1 (one (65 ∷ 13 ∷ [])) 14 0 1041 13
    ∷ named 1 (one (65 ∷ 138 ∷ 13 ∷ [])) 14 0 1042 13
    ∷ named 1 (one (13 ∷ 65 ∷ 138 ∷ 13 ∷ 65 ∷ 13 ∷ [])) 14 0 1045 13
    -- odd runs in break mode 2 and double height: of three, of one behind a pair, before a wrong 0Dh and after one, over two blocks
    ∷ named 2 (one (13 ∷ 65 ∷ 138 ∷ 138 ∷ 138 ∷ 66 ∷ [])) 14 0 1042 138
    ∷ named 2 (one (13 ∷ 138 ∷ 138 ∷ 66 ∷ 138 ∷ [])) 14 0 1044 138
    ∷ named 2 (one (13 ∷ 138 ∷ 66 ∷ 13 ∷ [])) 14 0 1041 138
    ∷ named 2 (one (13 ∷ 66 ∷ 13 ∷ 138 ∷ [])) 14 0 1042 13
    ∷ named 2 (two (full 138) (138 ∷ 138 ∷ 66 ∷ [])) 14 0 1151 138
    -- a row of 65 cells: the first, one behind another, one over two blocks; a row past the last line, also the first; the lower of both
    ∷ named 1 (one (replicate 65 32)) 15 0 1040 32
    ∷ named 1 (two (full 32) (replicate 17 32)) 15 0 1103 32
    ∷ named 1 (file_of (subtitle 23 (13 ∷ 65 ∷ []) ∷ [])) 15 0 1040 13
    ∷ named 1 (one (replicate 65 32 ++ (138 ∷ 138 ∷ 138 ∷ 138 ∷ 65 ∷ []))) 15 0 1040 32
    ∷ named 1 (one (65 ∷ 138 ∷ replicate 65 32)) 15 0 1042 32
    ∷ named 1 (one (65 ∷ 138 ∷ 138 ∷ 138 ∷ 138 ∷ 66 ∷ [])) 15 0 1045 66
    -- a row without bytes: the break before it, also as the last byte of a block; of a pair the first
    ∷ named 2 (two (full 138) (138 ∷ [])) 15 0 1151 138
    ∷ named 1 (one (65 ∷ 138 ∷ 138 ∷ 138 ∷ 138 ∷ [])) 15 0 1044 138
    ∷ named 2 (one (13 ∷ 65 ∷ 138 ∷ 138 ∷ 138 ∷ 138 ∷ [])) 15 0 1044 138
    ∷ named 2 (one (13 ∷ 65 ∷ 138 ∷ 138 ∷ 138 ∷ 138 ∷ 66 ∷ [])) 15 0 1046 66
    ∷ named 1 (film (65 ∷ 138 ∷ 128 ∷ [])) 15 0 1042 128
    ∷ []

right : T (all holds (file ++ block ++ text))
unfolding computed files same_byte same_reason holds named unnamed one good part user two with_user_data film full file block text
right = tt
