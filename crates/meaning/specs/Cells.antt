-- A row's cells, and those shown: document 01, "Text to rows"; document 02, requests 1, 2 and 4.
-- Assumes nothing.
use Rattle.std.specs.Prelude.{ℕ, Bool, true, false, cond, not, ◌&&◌, ◌||◌, List, [], ◌∷◌, ◌++◌, ltb, eqb}
use Rattle.meaning.specs.declared.Glyph.{Glyph}
use Rattle.meaning.specs.declared.Token.{Token}
use Rattle.meaning.specs.declared.Token.TheVariants.{Character, Control, Switch, RowEnd, Unlisted}
use Rattle.meaning.specs.declared.Look.{Look}
use Rattle.meaning.specs.Lists.{any}
use Rattle.meaning.specs.Glyphs.{spelling, space, is_space}
use Rattle.meaning.specs.Codes.{takes_cell, is_box_start, is_box_end, is_box_code}
use Rattle.meaning.specs.Looks.{black, white_on_black, with_background, with_colour, start_look, on_black}

pub record Cell : Type 0 where
  pub character : Glyph
  pub look : Look

-- the code points of a cell
unfoldable pub points : Cell → List ℕ
points c = spelling c.character

-- a control yields a blank cell
unfoldable pub cell_character : Token → Glyph
cell_character (Character g) = g
cell_character (Control c) = space
cell_character (Switch c) = space
cell_character RowEnd = space
cell_character Unlisted = space

-- 1Ch and 1Dh hold at their own cell: black background, and the current colour as background
unfoldable pub control_here : ℕ → Look → Look
control_here c l = with_background (cond (eqb c 28) black (cond (eqb c 29) l.colour l.background)) l

-- 00h to 07h, a colour, hold from the next cell
unfoldable pub control_next : ℕ → Look → Look
control_next c l = with_colour (cond (ltb c 8) c l.colour) l

-- 80h and 81h switch italics on and off, 82h and 83h underline, from the next cell on
unfoldable pub switched : ℕ → Look → Look
switched c l =
    record {
      italics = eqb c 128 || (l.italics && not (eqb c 129));
      underline = eqb c 130 || (l.underline && not (eqb c 131));
      double = l.double;
      background = l.background;
      colour = l.colour;
    }

-- the look of a token's cell, from the look before it, and the look after it
unfoldable pub look_here : Token → Look → Look
look_here (Character g) l = l
look_here (Control c) l = control_here c l
look_here (Switch c) l = l
look_here RowEnd l = l
look_here Unlisted l = l

unfoldable pub look_next : Token → Look → Look
look_next (Character g) l = l
look_next (Control c) l = control_next c (control_here c l)
look_next (Switch c) l = switched c l
look_next RowEnd l = l
look_next Unlisted l = l

-- after 0Ah cells are hidden, after 0Bh they are not; any other token leaves it
unfoldable pub hidden_next : Token → Bool → Bool
hidden_next t hidden = is_box_end t || (not (is_box_start t) && hidden)

-- a hidden cell becomes a blank on black in the subtitle's height
abbrev pub hidden_cell : Bool → Cell
hidden_cell double = record { character = space; look = white_on_black double }

unfoldable pub hidden_if : Bool → Cell → Cell
hidden_if true c = hidden_cell c.look.double
hidden_if false c = c

-- the pen is all that a token leaves to the next of its row: the look, and whether cells are hidden
pub record Pen : Type 0 where
  pub look : Look
  pub hidden : Bool

-- a token's cell under a pen, and the pen after the token; what is hidden acts all the same
unfoldable pub cell_of : Token → Pen → Cell
cell_of t p = hidden_if p.hidden (record { character = cell_character t; look = look_here t p.look })

unfoldable pub pen_after : Token → Pen → Pen
pen_after t p = record { look = look_next t p.look; hidden = hidden_next t p.hidden }

-- the cell that a token takes, if it takes one
unfoldable pub cells_of : Token → Pen → List Cell
cells_of t p = cond (takes_cell t) (cell_of t p ∷ []) []

-- tokens from a pen on: their cells, and the pen after them
unfoldable pub cells_from : Pen → List Token → List Cell
cells_from p [] = []
cells_from p (t ∷ ts) = cells_of t p ++ cells_from (pen_after t p) ts

unfoldable pub pen_end : Pen → List Token → Pen
pen_end p [] = p
pen_end p (t ∷ ts) = pen_end (pen_after t p) ts

-- the pen at the start of a row, from the look before it: in a row that holds any 0Ah or 0Bh cells are hidden up to and with a 0Bh;
-- in open subtitles no row does
unfoldable pub row_start : List Token → Look → Pen
row_start row l = record { look = start_look l; hidden = any is_box_code row }

-- a row's cells, and the look after it, which is all that a row leaves to the next
abbrev pub cells_of_row : Look → List Token → List Cell
cells_of_row l row = cells_from (row_start row l) row

abbrev pub look_after_row : Look → List Token → Look
look_after_row l row = (pen_end (row_start row l) row).look

-- the cells of rows, one after another
unfoldable pub cell_rows : Look → List (List Token) → List (List Cell)
cell_rows l [] = []
cell_rows l (r ∷ rs) = cells_of_row l r ∷ cell_rows (look_after_row l r) rs

-- a blank is the cell of 20h or of a control, or a hidden one; an underlined space is none, nor is a space with a mark
unfoldable pub is_blank : Cell → Bool
is_blank c = is_space c.character && not c.look.underline

unfoldable pub is_blank_on_black : Cell → Bool
is_blank_on_black c = is_blank c && on_black c.look

unfoldable pub trim_front : List Cell → List Cell
trim_front [] = []
trim_front (c ∷ cs) = elim (is_blank_on_black c) [ true ↦ trim_front cs | false ↦ c ∷ cs ]

-- a cell before cells that are trimmed at their end
unfoldable pub before_trimmed : Cell → List Cell → List Cell
before_trimmed c [] = elim (is_blank_on_black c) [ true ↦ [] | false ↦ c ∷ [] ]
before_trimmed c (d ∷ ds) = c ∷ d ∷ ds

unfoldable pub trim_back : List Cell → List Cell
trim_back [] = []
trim_back (c ∷ cs) = before_trimmed c (trim_back cs)

-- the row without its leading and trailing blanks on black
unfoldable pub shown : List Cell → List Cell
shown cs = trim_back (trim_front cs)
