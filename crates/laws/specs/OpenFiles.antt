-- What holds of files of open subtitles: document 02, requests 1 and 2.
-- Assumes nothing.
use Rattle.std.specs.Prelude.{ℕ, ◌≡◌, Bool, true, false, not, ◌&&◌, List, eqb}
use Rattle.meaning.specs.declared.Token.{Token}
use Rattle.meaning.specs.declared.Look.{Look}
use Rattle.meaning.specs.Lists.{all, any}
use Rattle.meaning.specs.Codes.{is_listed, is_box_code}
use Rattle.meaning.specs.Looks.{black, white}
use Rattle.meaning.specs.Cells.{Cell}
use Rattle.meaning.specs.Walk.{Subtitle, subtitles_of, outcome}
use Rattle.meaning.specs.Conversion.{answer, output}

-- no row holds a box code, and so request 2 hides nothing
abbrev pub NoBoxes : Type 0
NoBoxes = (row : List Token) → all (is_listed false) row ≡ true → any is_box_code row ≡ false

-- either break mode reads as 1
pub record OneMode (file : List ℕ) : Type 0 where
  pub answers : (room : ℕ) → answer 2 file room ≡ answer 1 file room
  pub outputs : (buffer : List ℕ) → output 2 file buffer ≡ output 1 file buffer

-- colour is white on black, height single; italics and underline may be any
unfoldable pub is_white_on_black : Look → Bool
is_white_on_black l = eqb l.colour white && eqb l.background black

unfoldable pub is_plain : Look → Bool
is_plain l = is_white_on_black l && not l.double

unfoldable pub is_plain_cell : Cell → Bool
is_plain_cell c = is_plain c.look

-- a subtitle of single height whose cells are all such
unfoldable pub is_plain_subtitle : Subtitle → Bool
is_plain_subtitle s = not s.double && all (all is_plain_cell) s.rows

-- every subtitle of an accepted file is such; a refused file has none
abbrev pub WhiteOnBlack : ℕ → List ℕ → Type 0
WhiteOnBlack mode file = all is_plain_subtitle (subtitles_of (outcome mode file)) ≡ true
