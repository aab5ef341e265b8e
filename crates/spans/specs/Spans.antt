-- The spans of cells, as they are read from a slice.
-- Assumes nothing.
use Rattle.std.specs.Prelude.{◌≡◌, ℕ, List, [], map, length, get_or, take, drop, Option, IfSome}
use Rattle.std.specs.Iterator.{YieldsFirstBy}
use Rattle.meaning.specs.Cells.{Cell}
use Rattle.meaning.specs.Looks.{pack}
use Rattle.meaning.specs.Spans.{look_of, spans}
use Rattle.cells.specs.declared.PackedCell.{PackedCell}
use Rattle.cells.specs.Packed.{cells_in}
use Rattle.spans.specs.declared.Span.{Span}
use Rattle.spans.specs.declared.Spans.{Spans}

-- a span's cells and its packed look
abbrev pub with_look : List Cell → List Cell × ℕ
with_look cs = (cs, pack (look_of cs))

abbrev pub spans_in : List PackedCell → List (List Cell × ℕ)
spans_in cs = map with_look (spans (cells_in cs))

-- of a span that was read
abbrev pub read_of : Span → List Cell × ℕ
read_of s = (cells_in s.cells.now, s.look)

-- those that an iterator has left
abbrev pub spans_left : Spans → List (List Cell × ℕ)
spans_left s = spans_in s.cells.now

-- the cells that they are read from
abbrev pub cells_left : Spans → List PackedCell
cells_left s = s.cells.now

-- the first span of some cells, none where there are no cells
unfoldable pub first_span : List Cell → List Cell
first_span cs = get_or (spans cs) 0 []

-- a span has the first of the cells, as many as the first span of them, and the others are left. The cells themselves, as they are
-- packed: many packed looks stand for one look.
pub record StandsFirst (cs : List PackedCell) (x : Span) (left : List PackedCell) : Type 0 where
  pub cells : x.cells.now ≡ take (length (first_span (cells_in cs))) cs
  pub others : left ≡ drop (length (first_span (cells_in cs))) cs

-- a call gave the first of the spans, or `None` where none was left, and took its cells from the front
pub record GivesSpan (s : Spans) (r : Option Span) (t : Spans) : Type 0 where
  pub first : YieldsFirstBy read_of spans_left s r t
  pub place : IfSome r (λ x. StandsFirst (cells_left s) x (cells_left t))
