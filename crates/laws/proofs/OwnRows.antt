-- The document made of subtitles shows their rows.
-- Assumes nothing.
use Prim.Native.Nat.{ℕ, zero, suc}
use mathlib.Core.Path.{◌≡◌, refl, sym, ap, subst, ◌∙◌}
use mathlib.Core.Bool.{true}
use mathlib.Core.List.{List, [], ◌∷◌, ◌++◌, map, append_assoc, flatten, tail}
use lib.ListN.{get_or, replicate}
use Rattle.meaning.specs.declared.Glyph.{Glyph}
use Rattle.meaning.specs.declared.Look.{Look}
use Rattle.meaning.specs.declared.Format.{Format}
use Rattle.meaning.specs.Lists.{onto_first}
use Rattle.meaning.specs.Looks.{pack, unpack, shared, free}
use Rattle.meaning.specs.Cells.{Cell, shown}
use Rattle.meaning.specs.Spans.{look_of, uniform, spans_from, spans}
use Rattle.meaning.specs.Walk.{Subtitle}
use Rattle.meaning.specs.Document.{Span, Piece}
use Rattle.meaning.specs.Document.Piece.{span, br}
use Rattle.meaning.specs.Conversion.{span_of, row_spans, later_rows, row_pieces, paragraph_of}
use Rattle.meaning.specs.Profile.{document_rows, span_cells, row_cells, SameCell, SameCells, subtitle_row, paragraph_row, Shows}
use Rattle.meaning.specs.Profile.SameCells.{none, both}
use Rattle.meaning.proofs.Logic.{by_test}
use Rattle.meaning.proofs.ListLaws.{All, all-at, at_copies}
use Rattle.meaning.proofs.ListLaws.All.{nil, cons}
use Rattle.laws.proofs.Pieces.{fillers_of, pieces_are}
use Rattle.laws.proofs.Fitting.{Fits, all_say, one-uniform}
use Rattle.laws.proofs.Trimming.{shown-nil, shown_twice, same-shown, all_shown}
use Rattle.meaning.proofs.LookLaws.{ThreeBits, unpack-pack}
use Rattle.laws.proofs.CodePoints.{glyphs-points}
use Rattle.laws.proofs.CellFacts.{Sound, characters, characters-spelled, points_of, spans_flat, spans_all, span-bits}

-- each span is uniform
abbrev Uniform : List Cell → Type 0
Uniform g = uniform g ≡ true

from-uniform : (cur cs : List Cell) → Uniform cur → All Uniform (spans_from cur cs)
unfolding spans_from
from-uniform cur [] u = cons u nil
from-uniform cur (c ∷ cs) u =
    by_test (uniform (cur ++ (c ∷ [])))
    (λ e. rw (e, spans_from) (from-uniform (cur ++ (c ∷ [])) cs e))
    (λ e. rw (e, spans_from) (cons u (from-uniform (c ∷ []) cs (one-uniform c))))

spans-uniform : (cs : List Cell) → All Uniform (spans cs)
unfolding spans
spans-uniform [] = nil
spans-uniform (c ∷ cs) = from-uniform (c ∷ []) cs (one-uniform c)

-- a cell that fits a look is the same as its character under that look, packed and unpacked
fits-same : (l : Look) (c : Cell) → ThreeBits l → Fits l c → SameCell c (record { character = c.character; look = unpack (pack l) })
fits-same l c h f =
    let b = unpack-pack l h in
    record { character = refl; shares = f.shares ∙ sym (ap shared b); agrees = λ e. f.agrees e ∙ sym (ap free b) }

span_same :
    (l : Look) {g : List Cell} (cs ds : List Cell) → ThreeBits l → All (Fits l) g → SameCells cs ds
    → SameCells (g ++ cs) (map (λ (p : Glyph). record { character = p; look = unpack (pack l) }) (characters g) ++ ds)
unfolding characters
span_same l cs ds h nil r = r
span_same l cs ds h (cons f k) r = both (fits-same l _ h f) (span_same l cs ds h k r)

spans-same : (gs : List (List Cell)) → All Uniform gs → All (All Sound) gs → SameCells (flatten gs) (row_cells (map span_of gs))
unfolding flatten row_cells span_cells span_of uniform
spans-same [] u h = none
spans-same (g ∷ gs) (cons u us) (cons k h) =
    rw (points_of g, glyphs-points (characters-spelled k)) (span_same (look_of g) (flatten gs) _ (span-bits g k) (all_say (look_of g) g u) (spans-same gs us h))

row_same : (row : List Cell) → All Sound row → SameCells (shown row) (row_cells (row_spans row))
unfolding row_spans
row_same row h =
    rw (spans_flat (shown row)) at
    (spans-same (spans (shown row)) (spans-uniform (shown row)) (spans_all (shown row) (all_shown row h)))

row_shows : (row : List Cell) → All Sound row → SameCells (shown row) (shown (row_cells (row_spans row)))
row_shows row h = rw (shown_twice row) at (same-shown (row_same row h))

-- a paragraph's rows: those of the subtitle, and an empty one for each filler line
spans_then : (ss : List Span) (ps : List Piece) (rs : List (List Span)) → document_rows ps ≡ [] ∷ rs → document_rows (map span ss ++ ps) ≡ ss ∷ rs
unfolding document_rows onto_first
spans_then [] ps rs e = e
spans_then (s ∷ ss) ps rs e = ap (onto_first s) (spans_then ss ps rs e)

filler_rows : (n : ℕ) → document_rows (replicate n br) ≡ [] ∷ replicate n []
unfolding document_rows
filler_rows zero = refl
filler_rows (suc n) = ap (λ (l : List (List Span)). [] ∷ l) (filler_rows n)

later_then : (rs : List (List Cell)) (n : ℕ) → document_rows (later_rows rs ++ replicate n br) ≡ [] ∷ (map row_spans rs ++ replicate n [])
unfolding later_rows document_rows
later_then [] n = filler_rows n
later_then (r ∷ rs) n =
    ap (λ (l : List (List Span)). [] ∷ l)
    (ap document_rows (append_assoc (map span (row_spans r)) (later_rows rs) (replicate n br))
    ∙ spans_then (row_spans r) _ _ (later_then rs n))

empty-row : row_spans [] ≡ []
unfolding row_spans spans
empty-row = rw shown-nil

rows_at : (rs : List (List Cell)) (n i : ℕ) → get_or (map row_spans rs ++ replicate n []) i [] ≡ row_spans (get_or rs i [])
rows_at [] n i = at_copies n i [] ∙ sym empty-row
rows_at (r ∷ rs) n zero = refl
rows_at (r ∷ rs) n (suc i) = rows_at rs n i

pieces-at : (rs : List (List Cell)) (n i : ℕ) → get_or (document_rows (row_pieces rs ++ replicate n br)) i [] ≡ row_spans (get_or rs i [])
unfolding row_pieces later_rows document_rows
pieces-at [] n i = rw (filler_rows n) (at_copies (suc n) i [] ∙ sym empty-row)
pieces-at (r ∷ rs) n i = ap (λ (l : List (List Span)). get_or (tail l) i []) (later_then (r ∷ rs) n) ∙ rows_at (r ∷ rs) n i

paragraph_at : (f : Format) (s : Subtitle) (i : ℕ) → get_or (document_rows (paragraph_of f s).pieces) i [] ≡ row_spans (get_or s.rows i [])
paragraph_at f s i = rw (pieces_are f s) (pieces-at s.rows (fillers_of f s) i)

abbrev pub SoundRows : Subtitle → Type 0
SoundRows s = All (All Sound) s.rows

rows_show :
    (f : Format) (ss : List Subtitle) → All SoundRows ss → (k i : ℕ)
    → SameCells (shown (subtitle_row ss k i)) (shown (row_cells (paragraph_row (map (paragraph_of f) ss) k i)))
unfolding subtitle_row paragraph_row
rows_show f [] h k i = unfold row_cells in rw shown-nil none
rows_show f (s ∷ ss) (cons p h) zero i =
    subst (λ (l : List Span). SameCells (shown (get_or s.rows i [])) (shown (row_cells l)))
    (sym (paragraph_at f s i))
    (row_shows (get_or s.rows i []) (all-at p [] nil i))
rows_show f (s ∷ ss) (cons p h) (suc k) i = rows_show f ss h k i

pub own-shows : (f : Format) (ss : List Subtitle) → All SoundRows ss → Shows (record { rate = f.rate; paragraphs = map (paragraph_of f) ss }) ss
unfolding Shows
own-shows f ss h k i = rows_show f ss h k i
