-- A TTI block of 128 bytes: its header, its text, and the rules 8 to 12: document 01, "The file" and "What comes back"; document 02, requests 1 and 3.
-- Assumes nothing.
use Rattle.std.specs.Prelude.{ℕ, zero, suc, ◌+◌, ◌*◌, Bool, cond, not, ◌&&◌, ◌||◌, List, [], ◌∷◌, ◌++◌, ltb, leb, eqb, get_or, take, drop}
use Rattle.meaning.specs.declared.Time.{Time}
use Rattle.meaning.specs.declared.Header.{Header}
use Rattle.meaning.specs.declared.Screen.{Screen}
use Rattle.meaning.specs.declared.Format.{Format}
use Rattle.meaning.specs.Lists.{all, take_while, field}
use Rattle.meaning.specs.Refusals.{Rule, holds}

-- the bytes of the GSI block, of a TTI block's header and text, and of a TTI block
abbrev pub gsi_size : ℕ
gsi_size = 1024

abbrev pub header_size : ℕ
header_size = 16

abbrev pub text_size : ℕ
text_size = 112

abbrev pub block_size : ℕ
block_size = header_size + text_size

-- n blocks, one after another
unfoldable pub blocks : ℕ → List ℕ → List (List ℕ)
blocks zero s = []
blocks (suc n) s = take block_size s ∷ blocks n (drop block_size s)

-- where block k starts in the file
abbrev pub block_start : ℕ → ℕ
block_start k = gsi_size + block_size * k

-- the block of a file at a place: its bytes, fewer where the file ends in it
unfoldable pub block_at : List ℕ → ℕ → List ℕ
block_at file k = field (block_start k) block_size file

-- where the fields of a header start
abbrev pub sgn_at : ℕ
sgn_at = 0

abbrev pub sn_at : ℕ
sn_at = 1

abbrev pub ebn_at : ℕ
ebn_at = 3

abbrev pub cs_at : ℕ
cs_at = 4

abbrev pub tci_at : ℕ
tci_at = 5

abbrev pub tco_at : ℕ
tco_at = 9

abbrev pub vp_at : ℕ
vp_at = 13

abbrev pub jc_at : ℕ
jc_at = 14

abbrev pub cf_at : ℕ
cf_at = 15

-- a time: four bytes from an offset
unfoldable pub time_at : ℕ → List ℕ → Time
time_at i b = record { hours = get_or b i 0; minutes = get_or b (1 + i) 0; seconds = get_or b (2 + i) 0; frames = get_or b (3 + i) 0 }

-- the header, 0 to 15; SN has its low byte first
unfoldable pub header_of : List ℕ → Header
header_of b =
    record {
      sgn = get_or b sgn_at 0;
      sn = get_or b sn_at 0 + 256 * get_or b (1 + sn_at) 0;
      ebn = get_or b ebn_at 0;
      cs = get_or b cs_at 0;
      tci = time_at tci_at b;
      tco = time_at tco_at b;
      vp = get_or b vp_at 0;
      jc = get_or b jc_at 0;
      cf = get_or b cf_at 0;
    }

-- 8Fh ends a text
unfoldable pub in_text : ℕ → Bool
in_text c = not (eqb c 143)

-- a block's text, 16 to 127: the bytes before the first 8Fh, all 112 if there is none
unfoldable pub block_text : List ℕ → List ℕ
block_text b = take_while in_text (field header_size text_size b)

-- rule 11 over the bytes of a time, which starts at an offset
unfoldable pub time_rules : ℕ → ℕ → Time → List Rule
time_rules rate at t =
    (11, at, ltb t.hours 24)
    ∷ (11, 1 + at, ltb t.minutes 60)
    ∷ (11, 2 + at, ltb t.seconds 60)
    ∷ (11, 3 + at, ltb t.frames rate)
    ∷ []

unfoldable pub time_in_range : ℕ → Time → Bool
time_in_range rate t = all holds (time_rules rate 0 t)

unfoldable pub in_frames : ℕ → Time → ℕ
in_frames rate t = ((t.hours * 60 + t.minutes) * 60 + t.seconds) * rate + t.frames

-- rule 11: the bytes of both times in range; TCO after TCI is asked where they are, and named by TCO
unfoldable pub times_rules : ℕ → Time → Time → List Rule
times_rules rate start stop =
    time_rules rate tci_at start
    ++ (time_rules rate tco_at stop
    ++ ((11, tco_at, not (time_in_range rate start && time_in_range rate stop) || ltb (in_frames rate start) (in_frames rate stop)) ∷ []))

unfoldable pub times_right : ℕ → Time → Time → Bool
times_right rate start stop = all holds (times_rules rate start stop)

unfoldable pub is_comment : Header → Bool
is_comment h = eqb h.cf 1

-- a line of the screen
unfoldable pub on_screen : Screen → ℕ → Bool
on_screen s vp = leb s.first vp && ltb vp s.end

-- the rules 10 to 12; a comment is not tested for them
unfoldable pub subtitle_rules : Format → Header → List Rule
subtitle_rules f h =
    (10, cs_at, eqb h.cs 0)
    ∷ (times_rules f.rate h.tci h.tco
    ++ ((12, vp_at, on_screen f.screen h.vp) ∷ (12, jc_at, leb h.jc 3) ∷ []))

-- the rules 8 to 12 over a set's first block. `least` is the least SN that rule 9 allows.
unfoldable pub first_block_rules : Format → ℕ → Header → List Rule
first_block_rules f least h = (8, cf_at, leb h.cf 1) ∷ (9, sn_at, leb least h.sn) ∷ cond (is_comment h) [] (subtitle_rules f h)
