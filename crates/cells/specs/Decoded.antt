-- What decoding a row of a text leaves in an array, and what it tells.
-- Assumes nothing.
use Rattle.std.specs.Prelude.{ℕ, ◌≡◌, List, length, drop}
use Rattle.std.proofs.lemmas.List.Edits.{sets}
use Rattle.meaning.specs.declared.Token.{Token}
use Rattle.meaning.specs.Codes.{tokens}
use Rattle.meaning.specs.declared.Look.{Look}
use Rattle.meaning.specs.Looks.{pack, unpack}
use Rattle.meaning.specs.Cells.{Cell, Pen, cells_from, pen_end, row_start, cells_of_row}
use Rattle.meaning.specs.Rows.{first_row}
use Rattle.rows.specs.Scanned.{row_end_after}
use Rattle.cells.specs.declared.PackedCell.{PackedCell}
use Rattle.cells.specs.declared.RowRead.{RowRead}
use Rattle.cells.specs.Packed.{packed_cells}

abbrev pub tokens_from : List ℕ → ℕ → List Token
tokens_from text i = tokens (drop i text)

-- the row that starts at a position of a text: its tokens, and its cells from the look before it
abbrev pub row_tokens : List ℕ → ℕ → List Token
row_tokens text start = first_row (tokens_from text start)

abbrev pub row_at : List ℕ → ℕ → Look → List Cell
row_at text start before = cells_of_row before (row_tokens text start)

-- a row drawn from a pen: the array at entry and at exit, and the result. What has no place in the array is counted all the same.
pub record Drawn (text : List ℕ) (start : ℕ) (pen : Pen) (cells cells' : List PackedCell) (r : RowRead) : Type 0 where
  pub held : cells' ≡ sets cells 0 (packed_cells (cells_from pen (row_tokens text start)))
  pub count : r.cells ≡ length (cells_from pen (row_tokens text start))
  pub after : r.after ≡ row_end_after text start
  pub look : r.look ≡ pack (pen_end pen (row_tokens text start)).look

-- from the pen that the row starts with, after a packed look
abbrev pub Decoded : List ℕ → ℕ → ℕ → List PackedCell → List PackedCell → RowRead → Type 0
Decoded text start before cells cells' r = Drawn text start (row_start (row_tokens text start) (unpack before)) cells cells' r
