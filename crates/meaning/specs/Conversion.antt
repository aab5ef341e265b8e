-- The document of an accepted file, the answer, and the output buffer: document 01, "What comes back" and "The document, whole"; document 02, request 1.
-- Assumes nothing.
use Rattle.std.specs.Prelude.{ℕ, zero, suc, ◌-◌, Bool, true, false, cond, leb, length, drop, replicate}
use mathlib.Core.List.{List, [], ◌∷◌, ◌++◌, map, flat_map}
use Rattle.meaning.specs.declared.Answer.{Answer}
use Rattle.meaning.specs.declared.Lines.{Lines}
use Rattle.meaning.specs.Looks.{pack}
use Rattle.meaning.specs.Rows.{lines_of, row_count}
use Rattle.meaning.specs.Cells.{Cell, points, shown}
use Rattle.meaning.specs.Spans.{spans, look_of}
use Rattle.meaning.specs.declared.Format.{Format}
use Rattle.meaning.specs.declared.Header.{Header}
use Rattle.meaning.specs.Gsi.{format_of}
use Rattle.meaning.specs.declared.Refusal.{Refusal}
use Rattle.meaning.specs.Refusals.{no_refusal}
use Rattle.meaning.specs.declared.Counts.{Counts}
use Rattle.meaning.specs.Walk.{Subtitle, Outcome, outcome}
use Rattle.meaning.specs.Walk.Outcome.{refused, accepted}
use Rattle.meaning.specs.Document.{Span, Piece, Alignment, Paragraph, Document, render, document_spans}
use Rattle.meaning.specs.Document.Piece.{span, br}
use Rattle.meaning.specs.Document.Alignment.{left, centre, right}

unfoldable pub span_of : List Cell → Span
span_of cs = record { look = pack (look_of cs); characters = flat_map points cs }

unfoldable pub row_spans : List Cell → List Span
row_spans row = map span_of (spans (shown row))

-- rows after the first, each with a tt:br before it
unfoldable pub later_rows : List (List Cell) → List Piece
later_rows [] = []
later_rows (r ∷ rs) = br ∷ (map span (row_spans r) ++ later_rows rs)

unfoldable pub row_pieces : List (List Cell) → List Piece
row_pieces [] = []
row_pieces (r ∷ rs) = map span (row_spans r) ++ later_rows rs

-- filler lines = end of the screen - VP - lines covered
unfoldable pub fillers : ℕ → ℕ → Lines → Lines
fillers end vp covered = record { 0 = end - vp - covered.0 }

-- rows, then one tt:br for each filler line
unfoldable pub pieces : ℕ → ℕ → Bool → List (List Cell) → List Piece
pieces end vp double rs = row_pieces rs ++ replicate (fillers end vp (lines_of double (row_count rs))).0 br

-- JC 00h and 01h are left, 02h centre, 03h right
unfoldable pub alignment_of : ℕ → Alignment
alignment_of zero = left
alignment_of (suc zero) = left
alignment_of (suc (suc zero)) = centre
alignment_of (suc (suc (suc n))) = right

-- the paragraph of a set, by the header of its first block
abbrev pub paragraph_with : Header → List Piece → Paragraph
paragraph_with h ps =
    record { number = h.sn; begin = h.tci; end = h.tco; alignment = alignment_of h.jc; pieces = ps }

unfoldable pub paragraph_of : Format → Subtitle → Paragraph
paragraph_of f s = paragraph_with s.first (pieces f.screen.end s.first.vp s.double s.rows)

-- every subtitle is one paragraph, in order
unfoldable pub document_of : Format → List Subtitle → Document
document_of f ss = record { rate = f.rate; paragraphs = map (paragraph_of f) ss }

-- rule 16: a document of some length fits the buffer
abbrev pub fits_in : ℕ → ℕ → Bool
fits_in room n = leb n room

abbrev pub is_too_long : Refusal
is_too_long = record { number = 16; place = 0; offset = 0 }

-- the refusal of a file, or none: that of the rules 1 to 15, or 16
unfoldable pub refusal_to : Format → ℕ → Outcome (List Subtitle) → Refusal
refusal_to f room (refused r) = r
refusal_to f room (accepted p) = cond (fits_in room (length (render (document_of f p.gathered)))) no_refusal is_too_long

-- for a break mode, a file, and a buffer of some length
unfoldable pub refusal : ℕ → List ℕ → ℕ → Refusal
refusal mode file room = refusal_to (format_of mode file) room (outcome mode file)

-- the answer to a refused file; refusal 16 tells the length needed
unfoldable pub refused_answer : Refusal → ℕ → Answer
refused_answer r needed =
    record { number = r.number; place = r.place; length = needed; subtitles = 0; comments = 0; continuations = 0; users = 0; spans = 0 }

unfoldable pub accepted_answer : ℕ → Counts → ℕ → Answer
accepted_answer written c spans =
    record {
      number = 0;
      place = 0;
      length = written;
      subtitles = c.subtitles;
      comments = c.comments;
      continuations = c.continuations;
      users = c.users;
      spans = spans;
    }

-- the answer to a file within the rules 1 to 15, by its counts and its document's length and spans
unfoldable pub answer_by : ℕ → Counts → ℕ → ℕ → Answer
answer_by room c n spans = elim (fits_in room n) [ true ↦ accepted_answer n c spans | false ↦ refused_answer is_too_long n ]

unfoldable pub answer_to : Format → ℕ → Outcome (List Subtitle) → Answer
answer_to f room (refused r) = refused_answer r 0
answer_to f room (accepted p) =
    let d = document_of f p.gathered in
    answer_by room p.counts (length (render d)) (document_spans d.paragraphs)

-- what comes back for a break mode, a file, and a buffer of some length
unfoldable pub answer : ℕ → List ℕ → ℕ → Answer
answer mode file room = answer_to (format_of mode file) room (outcome mode file)

unfoldable pub buffer_after : Format → List ℕ → Outcome (List Subtitle) → List ℕ
buffer_after f buffer (refused r) = buffer
buffer_after f buffer (accepted p) =
    let d = render (document_of f p.gathered) in
    elim (fits_in (length buffer) (length d)) [ true ↦ d ++ drop (length d) buffer | false ↦ buffer ]

-- what the buffer holds at the end: untouched after a refusal; else the document, and the bytes after it untouched
unfoldable pub output : ℕ → List ℕ → List ℕ → List ℕ
output mode file buffer = buffer_after (format_of mode file) buffer (outcome mode file)
