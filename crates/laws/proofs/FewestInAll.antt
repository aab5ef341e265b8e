-- Row by row and paragraph by paragraph: no document that shows the rows of subtitles has fewer spans than the one made of them.
-- Assumes nothing.
use Prim.Native.Nat.{ℕ, zero, suc, ◌+◌, ◌≤◌}
use native.Mathlib.Omega.{arith}
use mathlib.Core.Path.{◌≡◌, refl, sym, ap, ◌∙◌}
use mathlib.Core.List.{List, [], ◌∷◌, ◌++◌, map, flat_map}
use lib.ListN.{length, get_or, replicate, length-append, length-map}
use Rattle.meaning.specs.declared.Format.{Format}
use Rattle.meaning.specs.Lists.{onto_first}
use Rattle.meaning.specs.Cells.{Cell, shown}
use Rattle.meaning.specs.Spans.{spans}
use Rattle.meaning.specs.Walk.{Subtitle}
use Rattle.meaning.specs.Document.{Span, Piece, Paragraph, Document, looks_of, document_looks, document_spans}
use Rattle.meaning.specs.Document.Piece.{span, br}
use Rattle.meaning.specs.Conversion.{span_of, row_spans, later_rows, row_pieces, paragraph_of}
use Rattle.meaning.specs.Profile.{document_rows, row_cells, SameCells, subtitle_row, paragraph_row, Shows}
use Rattle.laws.proofs.Elements.{count_spans}
use Rattle.laws.proofs.Pieces.{fillers_of, pieces_are}
use Rattle.laws.proofs.Fewest.{row-fewest}

module _ {A : Type 0} where
  sum : (A → ℕ) → List A → ℕ
  sum f [] = 0
  sum f (x ∷ xs) = f x + sum f xs

-- entry by entry, with what stands for a missing one
module _ {A B : Type 0} (f : A → ℕ) (g : B → ℕ) (a : A) (b : B) where
  sum-le : g b ≡ 0 → (xs : List A) (ys : List B) → ((k : ℕ) → f (get_or xs k a) ≤ g (get_or ys k b)) → sum f xs ≤ sum g ys
  unfolding sum
  sum-le e [] ys h = omega arith
  sum-le e (x ∷ xs) [] h = omega (arith, h 0, sum-le e xs [] (λ k. h (suc k)))
  sum-le e (x ∷ xs) (y ∷ ys) h = omega (arith, h 0, sum-le e xs ys (λ k. h (suc k)))

-- the spans of a subtitle's row, and of a document's
ours : List Cell → ℕ
ours row = length (spans (shown row))

theirs : List Span → ℕ
theirs ss = length ss

pub looks-append : (ps qs : List Piece) → looks_of (ps ++ qs) ≡ looks_of ps ++ looks_of qs
unfolding looks_of
looks-append [] qs = refl
looks-append (span s ∷ ps) qs = ap (λ (ls : List ℕ). s.look ∷ ls) (looks-append ps qs)
looks-append (br ∷ ps) qs = looks-append ps qs

count-append : (ps qs : List Piece) → count_spans (ps ++ qs) ≡ count_spans ps + count_spans qs
unfolding count_spans
count-append ps qs = ap length (looks-append ps qs) ∙ length-append (looks_of ps) (looks_of qs)

count-cons : (p : Paragraph) (ps : List Paragraph) → document_spans (p ∷ ps) ≡ count_spans p.pieces + document_spans ps
unfolding count_spans document_spans document_looks flat_map
count-cons p ps = length-append (looks_of p.pieces) (document_looks ps)

count_map : (ss : List Span) → count_spans (map span ss) ≡ length ss
unfolding count_spans looks_of
count_map [] = refl
count_map (s ∷ ss) = ap suc (count_map ss)

count-row : (row : List Cell) → count_spans (map span (row_spans row)) ≡ ours row
unfolding row_spans ours
count-row row = count_map (map span_of (spans (shown row))) ∙ length-map (spans (shown row)) span_of

count-later : (rs : List (List Cell)) → count_spans (later_rows rs) ≡ sum ours rs
unfolding later_rows count_spans looks_of sum
count-later [] = refl
count-later (r ∷ rs) = omega (arith, count-append (map span (row_spans r)) (later_rows rs), count-row r, count-later rs)

count-rows : (rs : List (List Cell)) → count_spans (row_pieces rs) ≡ sum ours rs
unfolding row_pieces later_rows count_spans looks_of sum
count-rows [] = refl
count-rows (r ∷ rs) = count-later (r ∷ rs)

count_breaks : (n : ℕ) → count_spans (replicate n br) ≡ 0
unfolding count_spans looks_of
count_breaks zero = refl
count_breaks (suc n) = count_breaks n

count-filled : (rs : List (List Cell)) (n : ℕ) → count_spans (row_pieces rs ++ replicate n br) ≡ sum ours rs
count-filled rs n = omega (arith, count-append (row_pieces rs) (replicate n br), count-rows rs, count_breaks n)

count-subtitle : (f : Format) (s : Subtitle) → count_spans (paragraph_of f s).pieces ≡ sum ours s.rows
count-subtitle f s = ap count_spans (pieces_are f s) ∙ count-filled s.rows (fillers_of f s)

count-subtitles : (f : Format) (ss : List Subtitle) → document_spans (map (paragraph_of f) ss) ≡ sum (sum ours) (map (λ (s : Subtitle). s.rows) ss)
unfolding sum
count-subtitles f [] = unfold document_spans document_looks flat_map in refl
count-subtitles f (s ∷ ss) = omega (arith, count-cons (paragraph_of f s) (map (paragraph_of f) ss), count-subtitle f s, count-subtitles f ss)

-- a document's spans, row by row
count_onto : (s : Span) (rs : List (List Span)) → sum theirs (onto_first s rs) ≡ suc (sum theirs rs)
unfolding sum onto_first theirs
count_onto s [] = refl
count_onto s (r ∷ rs) = omega arith

count-pieces : (ps : List Piece) → count_spans ps ≡ sum theirs (document_rows ps)
unfolding count_spans looks_of document_rows sum theirs
count-pieces [] = refl
count-pieces (span s ∷ ps) = ap suc (count-pieces ps) ∙ sym (count_onto s (document_rows ps))
count-pieces (br ∷ ps) = omega (arith, count-pieces ps)

count-paragraphs : (ps : List Paragraph) → document_spans ps ≡ sum (sum theirs) (map (λ (p : Paragraph). document_rows p.pieces) ps)
unfolding sum
count-paragraphs [] = unfold document_spans document_looks flat_map in refl
count-paragraphs (p ∷ ps) = omega (arith, count-cons p ps, count-pieces p.pieces, count-paragraphs ps)

sums_le :
    (xs : List (List (List Cell))) (ys : List (List (List Span)))
    → ((k i : ℕ) → SameCells (shown (get_or (get_or xs k []) i [])) (shown (row_cells (get_or (get_or ys k []) i []))))
    → sum (sum ours) xs ≤ sum (sum theirs) ys
unfolding ours theirs sum
sums_le xs ys h =
    sum-le (sum ours) (sum theirs) [] [] refl xs ys
    (λ k.
    sum-le ours theirs [] [] refl (get_or xs k []) (get_or ys k [])
    (λ i. row-fewest (shown (get_or (get_or xs k []) i [])) (get_or (get_or ys k []) i []) (h k i)))

pub document-fewest : (f : Format) (d : Document) (ss : List Subtitle) → Shows d ss → document_spans (map (paragraph_of f) ss) ≤ document_spans d.paragraphs
unfolding Shows subtitle_row paragraph_row
document-fewest f d ss h =
    omega (
      arith,
      count-subtitles f ss,
      count-paragraphs d.paragraphs,
      sums_le (map (λ (s : Subtitle). s.rows) ss) (map (λ (p : Paragraph). document_rows p.pieces) d.paragraphs) h,
    )
