-- A text's codes and what they stand for: document 01, "Text to rows"; document 02, requests 1, 2 and 4.
-- Assumes nothing.
use Rattle.std.specs.Prelude.{ℕ, Bool, true, false, cond, not, ◌&&◌, ◌||◌, List, [], ◌∷◌, ltb, leb, eqb}
use Rattle.meaning.specs.declared.Glyph.{Glyph}
use Rattle.meaning.specs.declared.Token.{Token}
use Rattle.meaning.specs.declared.Token.TheVariants.{Character, Control, Switch, RowEnd, Unlisted}
use Rattle.meaning.specs.Characters.{latin, accent, accented}
use Rattle.meaning.specs.Glyphs.{single}

-- 00h to 07h, 0Ah, 0Bh, 0Dh, 1Ch, 1Dh
unfoldable pub is_control : ℕ → Bool
is_control c = ltb c 8 || eqb c 10 || eqb c 11 || eqb c 13 || eqb c 28 || eqb c 29

-- 80h to 83h: italics on and off, underline on and off
unfoldable pub is_switch : ℕ → Bool
is_switch c = leb 128 c && leb c 131

-- a character, where there is one: a code point of 0 stands for none
unfoldable pub character_of : Glyph → Token
character_of g = cond (eqb g.point 0) Unlisted (Character g)

-- a code by itself; no accent is listed alone
unfoldable pub code_token : ℕ → Token
code_token c =
    elim (eqb c 138) [
      | true ↦ RowEnd
      | false ↦
          elim (is_control c) [
            | true ↦ Control c
            | false ↦ elim (is_switch c) [ true ↦ Switch c | false ↦ character_of (single (latin c)) ]
          ]
    ]

-- an accent and the code after it
unfoldable pub pair_token : ℕ → ℕ → Token
pair_token a c = character_of (accented (accent a) c)

unfoldable pub is_accent : ℕ → Bool
is_accent c = not (eqb (accent c) 0)

-- a text is read from the left, an accent together with the code after it
unfoldable pub tokens : List ℕ → List Token
tokens [] = []
tokens (c ∷ []) = code_token c ∷ []
tokens (c ∷ d ∷ cs) =
    elim (is_accent c) [ true ↦ pair_token c d ∷ tokens cs | false ↦ code_token c ∷ tokens (d ∷ cs) ]

-- listed in teletext files, or in those of open subtitles: controls are for teletext, switches for open subtitles
unfoldable pub is_listed : Bool → Token → Bool
is_listed teletext (Character g) = true
is_listed teletext (Control c) = teletext
is_listed teletext (Switch c) = not teletext
is_listed teletext RowEnd = true
is_listed teletext Unlisted = false

unfoldable pub is_character : Token → Bool
is_character (Character g) = true
is_character (Control c) = false
is_character (Switch c) = false
is_character RowEnd = false
is_character Unlisted = false

unfoldable pub is_row_end : Token → Bool
is_row_end (Character g) = false
is_row_end (Control c) = false
is_row_end (Switch c) = false
is_row_end RowEnd = true
is_row_end Unlisted = false

-- a token of a row takes a cell: every one does but a switch, and no row holds a row end
unfoldable pub takes_cell : Token → Bool
takes_cell (Character g) = true
takes_cell (Control c) = true
takes_cell (Switch c) = false
takes_cell RowEnd = true
takes_cell Unlisted = true

-- the control of a code
unfoldable pub is_control_of : ℕ → Token → Bool
is_control_of code (Character g) = false
is_control_of code (Control c) = eqb c code
is_control_of code (Switch c) = false
is_control_of code RowEnd = false
is_control_of code Unlisted = false

-- 0Dh
abbrev pub is_double_height : Token → Bool
is_double_height = is_control_of 13

-- 0Bh, the start of a box, and 0Ah, its end
abbrev pub is_box_start : Token → Bool
is_box_start = is_control_of 11

abbrev pub is_box_end : Token → Bool
is_box_end = is_control_of 10

unfoldable pub is_box_code : Token → Bool
is_box_code t = is_box_start t || is_box_end t
