-- A paragraph's content laid over a lent buffer: what is written, counted and marked.
-- Assumes nothing.
use Rattle.std.specs.Prelude.{ℕ, min, ◌≡◌, Bool, true, length, set, take, drop}
use mathlib.Core.List.{List, [], ◌∷◌, map, flat_map}
use Rattle.meaning.specs.declared.Format.{Format}
use Rattle.meaning.specs.Looks.{unpack}
use Rattle.meaning.specs.Codes.{tokens}
use Rattle.meaning.specs.Rows.{first_row, is_double, rows_of, row_limit}
use Rattle.meaning.specs.declared.Rows.{Rows}
use Rattle.meaning.specs.Cells.{Cell, points, cells_of_row, look_after_row, cell_rows}
use Rattle.meaning.specs.Walk.{subtitle_rows}
use Rattle.meaning.specs.Document.{Piece, write_piece, looks_of}
use Rattle.meaning.specs.Document.Piece.{span}
use Rattle.meaning.specs.Conversion.{row_spans, row_pieces, pieces}
use Rattle.output.specs.declared.Writer.{Writer}
use Rattle.output.specs.Output.{past, Put}
use Rattle.rows.specs.Scanned.{row_end_after}
use Rattle.rows.specs.Scanning.{count_limit}
use Rattle.cells.specs.declared.RowRead.{RowRead}
use Rattle.cells.specs.Packed.{cells_in}
use Rattle.spans.specs.declared.Span.{Span}
use Rattle.text.specs.declared.BodyWriter.{BodyWriter}

-- the marks with looks set
unfoldable pub marked_with : List Bool → List ℕ → List Bool
marked_with on [] = on
marked_with on (l ∷ ls) = marked_with (set on l true) ls

-- bytes laid, with spans of the given looks among them: what is written, counted and marked
pub record Laid (body : BodyWriter) (bytes looks : List ℕ) (body' : BodyWriter) : Type 0 where
  pub wrote : Put body.writer.now bytes body'.writer.now
  pub spans : body'.spans ≡ past body.spans (length looks)
  pub marks : body'.marks.now ≡ marked_with body.marks.now looks
  pub writer : body'.writer.ghost_name ≡ body.writer.ghost_name
  pub same : body'.marks.ghost_name ≡ body.marks.ghost_name

-- pieces laid
abbrev pub PiecesLaid : BodyWriter → List Piece → BodyWriter → Type 0
PiecesLaid body ps body' = Laid body (flat_map write_piece ps) (looks_of ps) body'

-- a span that was read, as a piece
abbrev pub piece_of : Span → Piece
piece_of s = span (record { look = s.look; characters = flat_map points (cells_in s.cells.now) })

-- the pieces of a row put, with the marks of their looks, and the number of the spans
pub record RowPut (w : Writer) (on : List Bool) (ps : List Piece) (w' : Writer) (on' : List Bool) (n : ℕ) : Type 0 where
  pub wrote : Put w (flat_map write_piece ps) w'
  pub marks : on' ≡ marked_with on (looks_of ps)
  pub count : n ≡ past 0 (length (looks_of ps))

-- a row's cells, as many as a row may have: a text within rule 15 has no longer row
unfoldable pub cut_row : List Cell → List Cell
cut_row cs = take row_limit cs

-- one row of a text laid: its spans, the position after the row end that follows it, if one does, and the look after the row
pub record RowDone (text : List ℕ) (start before : ℕ) (body body' : BodyWriter) (r : RowRead) : Type 0 where
  pub laid : PiecesLaid body (map span (row_spans (cut_row (cells_of_row (unpack before) (first_row (tokens (drop start text))))))) body'
  pub after : r.after ≡ row_end_after text start
  pub look : unpack r.look ≡ look_after_row (unpack before) (first_row (tokens (drop start text)))

-- all rows of a text laid, with their number, counted up to a limit
pub record RowsDone (text : List ℕ) (before : ℕ) (paired : Bool) (body body' : BodyWriter) (rows : Rows) : Type 0 where
  pub laid : PiecesLaid body (row_pieces (map cut_row (cell_rows (unpack before) (rows_of paired (tokens text))))) body'
  pub count : rows.0 ≡ min (length (rows_of paired (tokens text))) count_limit

-- what is laid for a text
unfoldable pub content_of : Format → ℕ → List ℕ → List Piece
content_of f vp text =
    let ts = tokens text in
    pieces f.screen.end vp (is_double ts) (map cut_row (subtitle_rows f.mode ts))
