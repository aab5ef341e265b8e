-- What boxes show: document 02, request 2, in its own words.
-- Assumes nothing.
use Rattle.std.specs.Prelude.{◌≡◌, Bool, false, cond, not, ◌&&◌, ◌||◌, List, [], ◌∷◌, ◌++◌}
use Rattle.meaning.specs.declared.Token.{Token}
use Rattle.meaning.specs.declared.Look.{Look}
use Rattle.meaning.specs.Lists.{any}
use Rattle.meaning.specs.Codes.{is_box_start, is_box_end, is_box_code}
use Rattle.meaning.specs.Looks.{start_look}
use Rattle.meaning.specs.Cells.{cell_character, look_here, look_next, hidden_cell, cell_of, pen_end, row_start}

-- after tokens of a row: a 0Bh stands among them, and no 0Ah behind it
unfoldable pub in_box : List Token → Bool
in_box [] = false
in_box (t ∷ ts) = (is_box_start t && not (any is_box_end ts)) || in_box ts

-- the look after tokens, whatever is hidden
unfoldable pub look_end : Look → List Token → Look
look_end l [] = l
look_end l (t ∷ ts) = look_end (look_next t l) ts

-- a token's cell in its row, from the look before the row: it is hidden exactly if the row holds a 0Ah or 0Bh and the tokens before it
-- do not end in a box; else it is what it would be without boxes
abbrev pub BoxedText : Type 0
BoxedText =
    (l : Look) (before : List Token) (t : Token) (after : List Token)
    → cell_of t (pen_end (row_start (before ++ (t ∷ after)) l) before)
    ≡ cond (any is_box_code (before ++ (t ∷ after)) && not (in_box before))
    (hidden_cell l.double)
    (record { character = cell_character t; look = look_here t (look_end (start_look l) before) })
