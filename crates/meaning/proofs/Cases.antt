-- The P cases of document 01, "Both sides of each line", and cases of document 02: one table, one statement, computed.
-- Assumes nothing.
use Prim.Native.Nat.{ℕ, zero, suc}
use Prim.Native.String.{String}
use mathlib.Core.Bool.{Bool, true, false, ◌&&◌}
use mathlib.Core.List.{List, [], ◌∷◌, ◌++◌, map, flat_map}
use lib.Dec.{T, eqb}
use lib.ListN.{replicate}
use Rattle.meaning.specs.declared.Answer.{Answer}
use Rattle.meaning.specs.Lists.{all, same, bytes}
use Rattle.meaning.specs.declared.Format.{Format}
use Rattle.meaning.specs.Gsi.{format_of}
use Rattle.meaning.specs.Walk.{Subtitle, Outcome, outcome}
use Rattle.meaning.specs.Walk.Outcome.{refused, accepted}
use Rattle.meaning.specs.Document.{Paragraph, write_piece, utf8}
use Rattle.meaning.specs.Conversion.{paragraph_of, answer}
use Rattle.meaning.proofs.Computed.{computed}
use Rattle.meaning.proofs.Files.{gsi, gsi_with, block, subtitle, blocks_of, file_of, one_of, files}

-- a break mode and a file, the answer's number and place, and the code points of what stands in each paragraph
record Case : Type 0 where
  mode : ℕ
  file : List ℕ
  number : ℕ
  place : ℕ
  paragraphs : List (List ℕ)

paragraphs_in : Format → Outcome (List Subtitle) → List (List ℕ)
paragraphs_in f (refused r) = []
paragraphs_in f (accepted p) = map (λ (q : Paragraph). flat_map write_piece q.pieces) (map (paragraph_of f) p.gathered)

same_texts : List (List ℕ) → List (List ℕ) → Bool
same_texts [] [] = true
same_texts [] (t ∷ ts) = false
same_texts (s ∷ ss) [] = false
same_texts (s ∷ ss) (t ∷ ts) = elim (same s (flat_map utf8 t)) [ true ↦ same_texts ss ts | false ↦ false ]

is_same_answer : Answer → ℕ → ℕ → Bool
is_same_answer a number place = eqb a.number number && eqb a.place place

holds : Case → Bool
holds c =
    is_same_answer (answer c.mode c.file 65536) c.number c.place
    && same_texts (paragraphs_in (format_of c.mode c.file) (outcome c.mode c.file)) c.paragraphs

refuses : ℕ → List ℕ → ℕ → ℕ → Case
refuses mode file number place = record { mode = mode; file = file; number = number; place = place; paragraphs = [] }

accepts : ℕ → List ℕ → List String → Case
accepts mode file paragraphs = record { mode = mode; file = file; number = 0; place = 0; paragraphs = map bytes paragraphs }

-- one paragraph, by its code points; and one that is a span in white on black
reads : List ℕ → List ℕ → Case
reads file points = record { mode = 1; file = file; number = 0; place = 0; paragraphs = points ∷ [] }

spells : List ℕ → List ℕ → Case
spells file points = reads file (bytes "<tt:span style=\"s007\">" ++ points ++ bytes "</tt:span>")

-- a file of one subtitle
one : ℕ → List ℕ → List ℕ
one vp text = file_of (subtitle vp text ∷ [])

-- a file of one subtitle in two blocks
two : ℕ → List ℕ → List ℕ → List ℕ
two vp front back =
    file_of
    (record { sn = 1; ebn = 0; seconds = 3; frames = 4; vp = vp; cf = 0; text = front }
    ∷ record { sn = 1; ebn = 255; seconds = 3; frames = 4; vp = vp; cf = 0; text = back }
    ∷ [])

-- a row of 64 blanks, then a row of 46 and C2h: 112 bytes
full : List ℕ
full = replicate 64 32 ++ (138 ∷ []) ++ replicate 46 32 ++ (194 ∷ [])

-- a file of one open subtitle on a screen of eleven rows
film : ℕ → List ℕ → List ℕ
film vp text = one_of "000" "11" vp text

paper : List Case
paper =
    -- TNB 00002, one block
    refuses 1 (gsi 2 ++ block (subtitle 20 (65 ∷ []))) 6 0
    -- TCO equal to TCI; a second set with the same SN
    ∷ refuses 1 (file_of (record { sn = 1; ebn = 255; seconds = 1; frames = 2; vp = 20; cf = 0; text = 65 ∷ [] } ∷ [])) 11 0
    ∷ refuses 1 (file_of (subtitle 20 (65 ∷ []) ∷ subtitle 20 (65 ∷ []) ∷ [])) 9 1
    -- single height, VP 23; double height, VP 22 and 23
    ∷ accepts 1 (one 23 (65 ∷ [])) ("<tt:span style=\"s007\">A</tt:span>" ∷ [])
    ∷ accepts 1 (one 22 (13 ∷ 65 ∷ [])) ("<tt:span style=\"s071\">A</tt:span>" ∷ [])
    ∷ refuses 1 (one 23 (13 ∷ 65 ∷ [])) 15 0
    -- C2h last in block 00h, after 112 bytes and before 8Fh; 65h first in block FFh
    ∷ accepts 1 (two 22 full (101 ∷ [])) ("<tt:br/><tt:span style=\"s007\">é</tt:span>" ∷ [])
    ∷ accepts 1 (two 23 (194 ∷ []) (101 ∷ [])) ("<tt:span style=\"s007\">é</tt:span>" ∷ [])
    -- C2h, 20h: one cell since document 02, request 4
    ∷ spells (one 23 (194 ∷ 32 ∷ [])) (160 ∷ 769 ∷ [])
    -- 64 cells and 65
    ∷ accepts 1 (one 23 (replicate 63 32 ++ (65 ∷ []))) ("<tt:span style=\"s007\">A</tt:span>" ∷ [])
    ∷ refuses 1 (one 23 (replicate 64 32 ++ (65 ∷ []))) 15 0
    -- double height, a lone 8Ah between words
    ∷ accepts 1 (one 20 (13 ∷ 65 ∷ 138 ∷ 66 ∷ [])) ("<tt:span style=\"s071\">A</tt:span><tt:br/><tt:span style=\"s071\">B</tt:span>" ∷ [])
    ∷ refuses 2 (one 20 (13 ∷ 65 ∷ 138 ∷ 66 ∷ [])) 14 0
    -- spans
    ∷ accepts 1 (one 23 (1 ∷ 65 ∷ 2 ∷ 3 ∷ 66 ∷ [])) ("<tt:span style=\"s001\">A  </tt:span><tt:span style=\"s003\">B</tt:span>" ∷ [])
    ∷ accepts 1 (one 23 (1 ∷ 65 ∷ 7 ∷ 32 ∷ 1 ∷ 66 ∷ [])) ("<tt:span style=\"s001\">A   B</tt:span>" ∷ [])
    ∷ accepts 1 (one 23 (1 ∷ 29 ∷ 7 ∷ 65 ∷ [])) ("<tt:span style=\"s015\">  A</tt:span>" ∷ [])
    -- a comment set with frame 99
    ∷ accepts 1 (file_of (record { sn = 1; ebn = 255; seconds = 1; frames = 99; vp = 20; cf = 1; text = 65 ∷ [] } ∷ [])) []
    -- not in document 01's list: what stands after 8Fh is no text
    ∷ accepts 1 (one 23 (65 ∷ 143 ∷ 66 ∷ [])) ("<tt:span style=\"s007\">A</tt:span>" ∷ [])
    ∷ []

-- document 02, request 1
request1 : List Case
request1 =
    -- MNR and VP; rows that end at MNR and one past
    accepts 1 (one_of "000" "02" 0 (65 ∷ [])) ("<tt:span style=\"s007\">A</tt:span><tt:br/>" ∷ [])
    ∷ accepts 1 (one_of "000" "02" 1 (65 ∷ [])) ("<tt:span style=\"s007\">A</tt:span>" ∷ [])
    ∷ refuses 1 (one_of "000" "02" 2 (65 ∷ [])) 12 0
    ∷ accepts 1 (one_of "000" "02" 0 (65 ∷ 138 ∷ 66 ∷ [])) ("<tt:span style=\"s007\">A</tt:span><tt:br/><tt:span style=\"s007\">B</tt:span>" ∷ [])
    ∷ refuses 1 (one_of "000" "02" 1 (65 ∷ 138 ∷ 66 ∷ [])) 15 0
    ∷ accepts 1 (one_of "000" "99" 98 (65 ∷ [])) ("<tt:span style=\"s007\">A</tt:span>" ∷ [])
    ∷ refuses 1 (one_of "000" "00" 0 (65 ∷ [])) 6 0
    ∷ refuses 1 (one_of "000" "1 " 0 (65 ∷ [])) 6 0
    -- CCT comes before MNR; MNR is not read in a teletext file, whose screen begins at line 1; DSC "3"
    ∷ refuses 1 (one_of "001" "00" 0 (65 ∷ [])) 5 0
    ∷ accepts 1 (one_of "100" "00" 23 (65 ∷ [])) ("<tt:span style=\"s007\">A</tt:span>" ∷ [])
    ∷ refuses 1 (one_of "100" "99" 0 (65 ∷ [])) 12 0
    ∷ refuses 1 (one_of "300" "11" 1 (65 ∷ [])) 4 0
    -- italics and underline hold across rows until switched, and not in the next subtitle
    ∷ accepts 1 (film 9 (128 ∷ 65 ∷ 138 ∷ 66 ∷ 129 ∷ 67 ∷ [])) ("<tt:span style=\"s263\">A</tt:span><tt:br/><tt:span style=\"s263\">B</tt:span><tt:span style=\"s007\">C</tt:span>" ∷ [])
    ∷ accepts 2 (film 9 (65 ∷ 130 ∷ 138 ∷ 66 ∷ 131 ∷ 67 ∷ [])) ("<tt:span style=\"s007\">A</tt:span><tt:br/><tt:span style=\"s135\">B</tt:span><tt:span style=\"s007\">C</tt:span>" ∷ [])
    ∷ accepts 1 (gsi_with "000" 2 "11" ++ blocks_of (subtitle 10 (128 ∷ 130 ∷ 65 ∷ []) ∷ record { sn = 2; ebn = 255; seconds = 3; frames = 4; vp = 10; cf = 0; text = 66 ∷ [] } ∷ [])) ("<tt:span style=\"s391\">A</tt:span>" ∷ "<tt:span style=\"s007\">B</tt:span>" ∷ [])
    -- an underlined space is shown; a blank leaves italics open; blanks only are white and upright
    ∷ accepts 1 (film 10 (130 ∷ 32 ∷ 65 ∷ 32 ∷ 131 ∷ 32 ∷ [])) ("<tt:span style=\"s135\"> A </tt:span>" ∷ [])
    ∷ accepts 1 (film 10 (128 ∷ 65 ∷ 129 ∷ 32 ∷ 128 ∷ 66 ∷ [])) ("<tt:span style=\"s263\">A B</tt:span>" ∷ [])
    ∷ accepts 1 (film 10 (130 ∷ 65 ∷ 131 ∷ 128 ∷ 32 ∷ 130 ∷ 32 ∷ [])) ("<tt:span style=\"s135\">A</tt:span><tt:span style=\"s007\"> </tt:span><tt:span style=\"s391\"> </tt:span>" ∷ [])
    -- codes of the other kind, 84h, an accent before a switch
    ∷ refuses 1 (film 10 (7 ∷ 65 ∷ [])) 13 0
    ∷ refuses 1 (film 10 (132 ∷ 65 ∷ [])) 13 0
    ∷ refuses 1 (film 10 (194 ∷ 128 ∷ [])) 13 0
    ∷ refuses 1 (one 23 (128 ∷ 65 ∷ [])) 13 0
    -- 64 cells and ten switches; 65 cells
    ∷ accepts 1 (film 10 (replicate 10 128 ++ replicate 63 32 ++ (65 ∷ []))) ("<tt:span style=\"s263\">A</tt:span>" ∷ [])
    ∷ refuses 1 (film 10 (replicate 10 128 ++ replicate 64 32 ++ (65 ∷ []))) 15 0
    ∷ []

-- document 02, request 2
request2 : List Case
request2 =
    -- text before 0Bh and after 0Ah; 0Bh only, 0Ah only
    accepts 1 (one 23 (88 ∷ 11 ∷ 65 ∷ 10 ∷ 89 ∷ [])) ("<tt:span style=\"s007\">A</tt:span>" ∷ [])
    ∷ accepts 1 (one 23 (88 ∷ 11 ∷ 65 ∷ [])) ("<tt:span style=\"s007\">A</tt:span>" ∷ [])
    ∷ accepts 1 (one 23 (88 ∷ 10 ∷ 65 ∷ [])) ("" ∷ [])
    -- white on red, set while hidden: the cell of the 0Bh that opens the box is hidden, those of a further 0Bh and of the closing 0Ah are shown
    ∷ accepts 1 (one 23 (1 ∷ 29 ∷ 7 ∷ 11 ∷ 65 ∷ 11 ∷ 66 ∷ 10 ∷ 67 ∷ [])) ("<tt:span style=\"s015\">A B </tt:span>" ∷ [])
    -- 0Ah outside any box
    ∷ accepts 1 (one 23 (1 ∷ 29 ∷ 7 ∷ 10 ∷ 11 ∷ 65 ∷ [])) ("<tt:span style=\"s015\">A</tt:span>" ∷ [])
    -- a second box; between the two, blanks on black in the subtitle's height
    ∷ accepts 1 (one 23 (11 ∷ 65 ∷ 10 ∷ 88 ∷ 11 ∷ 66 ∷ 10 ∷ [])) ("<tt:span style=\"s007\">A   B</tt:span>" ∷ [])
    ∷ accepts 1 (one 22 (13 ∷ 1 ∷ 29 ∷ 7 ∷ 11 ∷ 65 ∷ 10 ∷ 88 ∷ 11 ∷ 66 ∷ [])) ("<tt:span style=\"s079\">A </tt:span><tt:span style=\"s071\">  </tt:span><tt:span style=\"s079\">B</tt:span>" ∷ [])
    -- what is set between boxes holds in the second; 1Ch hidden
    ∷ accepts 1 (one 23 (1 ∷ 29 ∷ 7 ∷ 11 ∷ 65 ∷ 10 ∷ 28 ∷ 2 ∷ 11 ∷ 66 ∷ [])) ("<tt:span style=\"s015\">A </tt:span><tt:span style=\"s002\">   B</tt:span>" ∷ [])
    -- a box ends with its row; a row without box codes is shown whole
    ∷ accepts 1 (one 22 (11 ∷ 65 ∷ 138 ∷ 66 ∷ [])) ("<tt:span style=\"s007\">A</tt:span><tt:br/><tt:span style=\"s007\">B</tt:span>" ∷ [])
    ∷ accepts 1 (one 22 (11 ∷ 65 ∷ 10 ∷ 138 ∷ 66 ∷ [])) ("<tt:span style=\"s007\">A</tt:span><tt:br/><tt:span style=\"s007\">B</tt:span>" ∷ [])
    ∷ accepts 1 (one 22 (11 ∷ 65 ∷ 138 ∷ 66 ∷ 10 ∷ [])) ("<tt:span style=\"s007\">A</tt:span><tt:br/>" ∷ [])
    -- hidden codes are tested: 7Fh, C2h 0Bh, 0Dh after a character; 64 cells and 65
    ∷ refuses 1 (one 23 (65 ∷ 10 ∷ 127 ∷ [])) 13 0
    ∷ refuses 1 (one 23 (194 ∷ 11 ∷ 65 ∷ [])) 13 0
    ∷ refuses 1 (one 22 (88 ∷ 13 ∷ 11 ∷ 65 ∷ [])) 14 0
    ∷ accepts 1 (one 23 (replicate 62 88 ++ (11 ∷ 65 ∷ []))) ("<tt:span style=\"s007\">A</tt:span>" ∷ [])
    ∷ refuses 1 (one 23 (replicate 63 88 ++ (11 ∷ 65 ∷ []))) 15 0
    -- a second 0Ah; A0h hidden; 0Bh last; a box over two blocks
    ∷ accepts 1 (one 23 (1 ∷ 29 ∷ 7 ∷ 11 ∷ 65 ∷ 10 ∷ 10 ∷ 67 ∷ [])) ("<tt:span style=\"s015\">A </tt:span>" ∷ [])
    ∷ accepts 1 (one 23 (160 ∷ 11 ∷ 65 ∷ 10 ∷ 160 ∷ [])) ("<tt:span style=\"s007\">A</tt:span>" ∷ [])
    ∷ accepts 1 (one 23 (65 ∷ 11 ∷ [])) ("" ∷ [])
    ∷ accepts 1 (two 23 (88 ∷ 11 ∷ []) (65 ∷ 10 ∷ 89 ∷ [])) ("<tt:span style=\"s007\">A</tt:span>" ∷ [])
    -- 0Dh in a row that is hidden whole; break mode 2; 0Dh hidden in a later row
    ∷ accepts 1 (one 20 (13 ∷ 10 ∷ 138 ∷ 65 ∷ [])) ("<tt:br/><tt:span style=\"s071\">A</tt:span>" ∷ [])
    ∷ accepts 2 (one 20 (13 ∷ 11 ∷ 65 ∷ 138 ∷ 138 ∷ 66 ∷ 10 ∷ [])) ("<tt:span style=\"s071\">A</tt:span><tt:br/>" ∷ [])
    ∷ refuses 1 (one 22 (65 ∷ 138 ∷ 10 ∷ 13 ∷ 66 ∷ [])) 14 0
    -- no box in open subtitles
    ∷ refuses 1 (film 10 (11 ∷ 65 ∷ [])) 13 0
    ∷ []

-- one list again and again
times : ℕ → List ℕ → List ℕ
times zero xs = []
times (suc n) xs = xs ++ times n xs

-- C2h, 20h, and what it stands for
accent_space : List ℕ
accent_space = 194 ∷ 32 ∷ []

marked_space : List ℕ
marked_space = 160 ∷ 769 ∷ []

-- document 02, request 4
request4 : List Case
request4 =
    -- Q, which no accent is composed with, under each of the thirteen
    spells
    (one 23 (flat_map (λ (a : ℕ). a ∷ 81 ∷ []) (193 ∷ 194 ∷ 195 ∷ 196 ∷ 197 ∷ 198 ∷ 199 ∷ 200 ∷ 202 ∷ 203 ∷ 205 ∷ 206 ∷ 207 ∷ [])))
    (flat_map (λ (m : ℕ). 81 ∷ m ∷ []) (768 ∷ 769 ∷ 770 ∷ 771 ∷ 772 ∷ 774 ∷ 775 ∷ 776 ∷ 778 ∷ 807 ∷ 779 ∷ 808 ∷ 780 ∷ []))
    -- C2h, 58h; a small letter; over two blocks
    ∷ spells (one 23 (194 ∷ 88 ∷ [])) (88 ∷ 769 ∷ [])
    ∷ spells (one 23 (194 ∷ 113 ∷ [])) (113 ∷ 769 ∷ [])
    ∷ spells (two 23 (194 ∷ []) (88 ∷ [])) (88 ∷ 769 ∷ [])
    ∷ spells (two 23 (194 ∷ []) (32 ∷ [])) marked_space
    -- an accent before 20h at both ends of a row; in a colour of its own
    ∷ spells (one 23 (32 ∷ 194 ∷ 32 ∷ 65 ∷ 206 ∷ 32 ∷ 32 ∷ [])) (160 ∷ 769 ∷ 65 ∷ 160 ∷ 808 ∷ [])
    ∷ reads (one 23 (65 ∷ 1 ∷ 194 ∷ 32 ∷ [])) (bytes "<tt:span style=\"s007\">A </tt:span><tt:span style=\"s001\">" ++ marked_space ++ bytes "</tt:span>")
    -- 64 such cells and 65
    ∷ spells (two 23 (times 56 accent_space) (times 8 accent_space)) (times 64 marked_space)
    ∷ refuses 1 (two 23 (times 56 accent_space) (times 9 accent_space)) 15 0
    -- an accent before an accent, a row end, A0h, a control, what stands beside the letters, a letter that is not A to Z or a to z
    ∷ refuses 1 (one 23 (194 ∷ 194 ∷ 65 ∷ [])) 13 0
    ∷ refuses 1 (one 22 (194 ∷ 138 ∷ 65 ∷ [])) 13 0
    ∷ refuses 1 (one 23 (194 ∷ 160 ∷ [])) 13 0
    ∷ refuses 1 (one 23 (194 ∷ 7 ∷ 65 ∷ [])) 13 0
    ∷ refuses 1 (one 23 (194 ∷ 49 ∷ [])) 13 0
    ∷ refuses 1 (one 23 (194 ∷ 64 ∷ [])) 13 0
    ∷ refuses 1 (one 23 (194 ∷ 91 ∷ [])) 13 0
    ∷ refuses 1 (one 23 (194 ∷ 96 ∷ [])) 13 0
    ∷ refuses 1 (one 23 (194 ∷ 123 ∷ [])) 13 0
    ∷ refuses 1 (one 23 (194 ∷ 225 ∷ [])) 13 0
    -- before nothing, also where a letter stands first in the next set
    ∷ refuses 1 (one 23 (65 ∷ 194 ∷ [])) 13 0
    ∷ refuses 1 (file_of (subtitle 23 (65 ∷ 194 ∷ []) ∷ record { sn = 2; ebn = 255; seconds = 3; frames = 4; vp = 23; cf = 0; text = 101 ∷ [] } ∷ [])) 13 0
    -- C0h, C9h and CCh are no accents
    ∷ refuses 1 (one 23 (192 ∷ 32 ∷ [])) 13 0
    ∷ refuses 1 (one 23 (201 ∷ 88 ∷ [])) 13 0
    ∷ refuses 1 (one 23 (204 ∷ 88 ∷ [])) 13 0
    -- a character for rule 14; hidden as any other; in open subtitles
    ∷ refuses 1 (one 22 (194 ∷ 32 ∷ 13 ∷ 65 ∷ [])) 14 0
    ∷ spells (one 23 (194 ∷ 88 ∷ 11 ∷ 65 ∷ 10 ∷ 194 ∷ 32 ∷ [])) (65 ∷ [])
    ∷ spells (film 10 (130 ∷ 131 ∷ 32 ∷ 194 ∷ 32 ∷ 203 ∷ 88 ∷ [])) (160 ∷ 769 ∷ 88 ∷ 807 ∷ [])
    ∷ []

right : T (all holds (paper ++ request1 ++ request2 ++ request4))
unfolding computed files paragraphs_in same_texts is_same_answer holds refuses accepts reads spells one two full film paper request1 request2 times accent_space marked_space request4
right = tt
