-- Spans taken from the left are the fewest for a row: any others that show the same cells fall behind.
-- Assumes nothing.
use Prim.Native.Nat.{ℕ, suc, ◌≤◌}
use native.Mathlib.Omega.{arith}
use mathlib.Core.Path.{sym, ◌∙◌}
use mathlib.Core.List.{List, [], ◌∷◌, ◌++◌, map}
use lib.ListN.{length}
use Rattle.meaning.specs.declared.Look.{Look}
use Rattle.meaning.specs.Looks.{unpack}
use Rattle.meaning.specs.declared.Glyph.{Glyph}
use Rattle.meaning.specs.Glyphs.{glyphs}
use Rattle.meaning.specs.Cells.{Cell, is_blank_on_black, trim_front, before_trimmed, trim_back, shown}
use Rattle.meaning.specs.Spans.{uniform, spans_from, spans}
use Rattle.meaning.specs.Document.{Span}
use Rattle.meaning.specs.Profile.{span_cells, row_cells, SameCell, SameCells}
use Rattle.meaning.specs.Profile.SameCells.{none, both}
use Rattle.meaning.proofs.Logic.{by_test}
use Rattle.meaning.proofs.ListLaws.{All, all_append}
use Rattle.meaning.proofs.ListLaws.All.{nil, cons}
use Rattle.laws.proofs.Fitting.{Fits, uniform-end, fits-own}
use Rattle.laws.proofs.Trimming.{front_cut, front_kept, last-cut, last-kept, shown-nil, same-blanks}

-- cells that follow in an open span of look l, and then in n spans more
data Cover : Look → List Cell → ℕ → Type 0 where
  done : {l : Look} → Cover l [] 0
  more : {l : Look} {c : Cell} {cs : List Cell} {n : ℕ} → Fits l c → Cover l cs n → Cover l (c ∷ cs) n
  next : {l m : Look} {cs : List Cell} {n : ℕ} → Cover m cs n → Cover l cs (suc n)

-- the spans taken from the left stay ahead of any others
ahead :
    {l : Look} {cs : List Cell} {n : ℕ} → Cover l cs n
    → ((cur : List Cell) → All (Fits l) cur → length (spans_from cur cs) ≤ suc n)
    × ((cur : List Cell) → length (spans_from cur cs) ≤ suc (suc n))
unfolding spans_from
ahead done = (λ cur h. omega arith, λ cur. omega arith)
ahead (more {l} {c} {cs} {n} f k) = (
  λ cur h.
      let g = all_append h (cons f nil) in
      rw (uniform-end l cur c g, spans_from) ((ahead k).0 (cur ++ (c ∷ [])) g),
  λ cur.
      by_test (uniform (cur ++ (c ∷ [])))
      (λ e. rw (e, spans_from) ((ahead k).1 (cur ++ (c ∷ []))))
      (λ e. rw (e, spans_from) (omega (arith, (ahead k).0 (c ∷ []) (cons f nil)))),
)
ahead (next k) = (λ cur h. (ahead k).1 cur, λ cur. omega (arith, (ahead k).1 cur))

-- a cover without its first cell, or without the blanks on black at its ends
uncover : {l : Look} {c : Cell} {cs : List Cell} {n : ℕ} → Cover l (c ∷ cs) n → Cover l cs n
uncover (more f k) = k
uncover (next k) = next (uncover k)

cover_front : {l : Look} {n : ℕ} (cs : List Cell) → Cover l cs n → Cover l (trim_front cs) n
cover_front [] k = unfold trim_front in k
cover_front (c ∷ cs) k =
    by_test (is_blank_on_black c)
    (λ e. rw (front_cut c cs e) (cover_front cs (uncover k)))
    (λ e. rw (front_kept c cs e) k)

cover_last : {l : Look} {n : ℕ} (c : Cell) (cs : List Cell) → Fits l c → Cover l cs n → Cover l (before_trimmed c cs) n
cover_last c [] f k = by_test (is_blank_on_black c) (λ e. rw (last-cut c e) k) (λ e. rw (last-kept c e) (more f k))
cover_last c (d ∷ ds) f k = unfold before_trimmed in more f k

cover_back : {l : Look} {cs : List Cell} {n : ℕ} → Cover l cs n → Cover l (trim_back cs) n
unfolding trim_back
cover_back done = done
cover_back (more f k) = cover_last _ _ f (cover_back k)
cover_back (next k) = next (cover_back k)

cover_shown : {l : Look} {n : ℕ} (cs : List Cell) → Cover l cs n → Cover l (shown cs) n
unfolding shown
cover_shown cs k = cover_back (cover_front cs k)

-- a cover of a document's cells covers the file's
same-fits : {l : Look} {c d : Cell} → SameCell c d → Fits l d → Fits l c
same-fits s f =
    record { shares = s.shares ∙ f.shares; agrees = λ e. s.agrees e ∙ f.agrees (sym (same-blanks s) ∙ e) }

cover_same : {l : Look} {cs ds : List Cell} {n : ℕ} → Cover l ds n → SameCells cs ds → Cover l cs n
cover_same done none = done
cover_same (more f k) (both s r) = more (same-fits s f) (cover_same k r)
cover_same (next k) r = next (cover_same k r)

-- a document's row is covered by its spans
cover_span :
    (l : Look) (gs : List Glyph) (rest : List Cell) (n : ℕ) → Cover l rest n
    → Cover l (map (λ (g : Glyph). record { character = g; look = l }) gs ++ rest) n
cover_span l [] rest n k = k
cover_span l (g ∷ gs) rest n k = more (fits-own _) (cover_span l gs rest n k)

cover_row : (l : Look) (ss : List Span) → Cover l (row_cells ss) (length ss)
unfolding row_cells span_cells
cover_row l [] = done
cover_row l (s ∷ ss) = next (cover_span (unpack s.look) (glyphs s.characters) (row_cells ss) (length ss) (cover_row (unpack s.look) ss))

-- a cover that starts anew has a span for its first cell
first_covered : {l : Look} {c : Cell} {cs : List Cell} {n : ℕ} → Cover l (c ∷ cs) n → length (spans_from (c ∷ []) cs) ≤ suc n
first_covered (more f k) = (ahead k).0 _ (cons f nil)
first_covered (next k) = omega (arith, first_covered k)

spans-le : {l : Look} {n : ℕ} (cs : List Cell) → Cover l cs n → length (spans cs) ≤ suc n
unfolding spans
spans-le [] k = omega arith
spans-le (c ∷ cs) k = first_covered k

no_spans : (cs : List Cell) → SameCells cs [] → length (spans cs) ≤ 0
unfolding spans
no_spans [] r = omega arith
no_spans (_ ∷ _) r = elim r [ ]

pub row-fewest : (cs : List Cell) (ss : List Span) → SameCells cs (shown (row_cells ss)) → length (spans cs) ≤ length ss
unfolding row_cells span_cells
row-fewest cs [] r = no_spans cs (rw shown-nil at r)
row-fewest cs (s ∷ ss) r =
    spans-le cs
    (cover_same
    (cover_shown _
    (cover_span (unpack s.look) (glyphs s.characters) (row_cells ss) (length ss) (cover_row (unpack s.look) ss)))
    r)
