-- The loop over a row's spans, seen from those that were read; and the loop over the rows after the first, seen from the rows that
-- are left.
-- Assumes nothing.
use Prim.Native.Nat.{ℕ, suc, ◌+◌, ◌≤◌, min}
use native.Mathlib.Omega.{arith}
use mathlib.Core.Path.{◌≡◌, sym, ap, ◌∙◌}
use mathlib.Core.Bool.{Bool}
use mathlib.Core.List.{List, [], ◌∷◌, map, flat_map}
use lib.ListN.{length, drop, take}
use lib.Seq.{take_all, take-length}
use Rattle.std.specs.Prelude.{Some, None}
use Rattle.std.proofs.lemmas.List.{take-map}
use Rattle.std.proofs.lemmas.Simd.{map-map}
use Rattle.meaning.specs.declared.Look.{Look}
use Rattle.meaning.specs.declared.Rows.{Rows}
use Rattle.meaning.specs.declared.Token.{Token}
use Rattle.meaning.specs.Codes.{tokens}
use Rattle.meaning.specs.Looks.{unpack}
use Rattle.meaning.specs.Cells.{Cell, points, cells_of_row, look_after_row, cell_rows}
use Rattle.meaning.specs.Spans.{spans}
use Rattle.meaning.specs.Document.{Piece}
use Rattle.meaning.specs.Document.Piece.{span, br}
use Rattle.meaning.specs.Conversion.{span_of, row_spans, later_rows, row_pieces}
use Rattle.meaning.specs.Rows.{first_row, rows_of, row_limit}
use Rattle.meaning.proofs.Logic.{by_le}
use Rattle.rows.specs.Scanning.{count_limit}
use Rattle.rows.specs.Scanned.{next_row_at, row_end_after}
use Rattle.rows.proofs.FirstRow.{rows_after}
use Rattle.rows.proofs.Laws.{rows-first, rows-after, no_rows_after}
use Rattle.rows.proofs.RowEnds.{ended_at, not_ended, next-rows}
use Rattle.cells.specs.declared.PackedCell.{PackedCell}
use Rattle.cells.specs.declared.RowRead.{RowRead}
use Rattle.cells.specs.Packed.{cell_of, cells_in}
use Rattle.cells.specs.Decoded.{row_at, Decoded}
use Rattle.cells.proofs.Laws.{decoded-cells, decoded-look}
use Rattle.spans.specs.declared.Span.{Span}
use Rattle.spans.specs.Spans.{with_look, read_of}
use Rattle.text.specs.declared.BodyWriter.{BodyWriter}
use Rattle.text.specs.Laid.{cut_row, PiecesLaid, RowDone, RowsDone, piece_of}
use Rattle.text.proofs.Laws.{laid-here, pieces_then, LaidLeft, left_less, left-none}

-- the pieces of spans that were read, where they are all spans of some cells
abbrev piece_with : List Cell × ℕ → Piece
piece_with r = span (record { look = r.1; characters = flat_map points r.0 })

pub all-read : (cs : List Cell) (ss : List Span) → map read_of ss ≡ map with_look (spans cs) → map piece_of ss ≡ map span (map span_of (spans cs))
unfolding span_of
all-read cs ss e =
    sym (map-map piece_with read_of ss) ∙ ap (map piece_with) e ∙ map-map piece_with with_look (spans cs) ∙ sym (map-map span span_of (spans cs))

-- a row decoded into an array of a row's limit and laid
cut-row : {A : Type 0} (xs : List A) → take (min (length xs) row_limit) xs ≡ take row_limit xs
cut-row xs =
    by_le (length xs) row_limit
    (λ h. let m : min (length xs) row_limit ≡ length xs = omega arith in rw m (take-length xs ∙ sym (take_all row_limit xs h)))
    (λ h. let m : min (length xs) row_limit ≡ row_limit = omega arith in rw m)

pub row_done :
    {text : List ℕ} {start before n : ℕ} {cells cells' : List PackedCell} {a b : BodyWriter} {d : RowRead} → Decoded text start before cells cells' d
    → length cells ≡ row_limit → n ≡ min d.cells row_limit → PiecesLaid a (map span (row_spans (cells_in (take n cells')))) b → RowDone text start before a b d
unfolding cut_row
row_done {text} {start} {before} {n} {cells' = cells'} {d = d} k h e p =
    let row = row_at text start (unpack before) in
    let c : cells_in (take n cells') ≡ take row_limit row =
    sym (take-map cell_of n cells') ∙ decoded-cells before k n (omega (arith, e)) (omega (arith, e, h)) ∙ rw (e, k.count) (cut-row row) in
    record { laid = rw c at p; after = k.after; look = decoded-look before k }

module _ (text : List ℕ) (before : ℕ) (paired : Bool) where
  -- the pieces of all rows, and of those after the first of a run of tokens, from the look after that row
  abbrev whole : List Piece
  whole = row_pieces (map cut_row (cell_rows (unpack before) (rows_of paired (tokens text))))

  abbrev after : Look → List Token → List Piece
  after look ts = later_rows (map cut_row (cell_rows look (rows_after paired ts)))

  abbrev row_from : ℕ → List Token
  row_from i = tokens (drop i text)

  -- `start` is where the row laid last starts; whoever lays those after it has laid all
  pub record RowsLeft (a b : BodyWriter) (r : RowRead) (n : ℕ) : Type 0 where
    pub start : ℕ
    pub end : r.after ≡ row_end_after text start
    pub left : LaidLeft a whole b (after (unpack r.look) (row_from start))
    pub count : min (n + length (rows_after paired (row_from start))) count_limit ≡ min (length (rows_of paired (tokens text))) count_limit
    pub few : n ≤ count_limit

  -- the first row is laid
  pub rows_all : {a b : BodyWriter} {r : RowRead} → RowDone text 0 before a b r → RowsLeft a b r 1
  unfolding row_pieces cell_rows
  rows_all {a} {b} {r} d =
      let ts = tokens text in
      record {
        start = 0;
        end = d.after;
        left =
            record {
              here = laid-here d.laid;
              onward =
                  λ {c} l.
                  rw (rows-first paired ts)
                  (pieces_then (map span (row_spans (cut_row (cells_of_row (unpack before) (first_row ts))))) (after (look_after_row (unpack before) (first_row ts)) ts) d.laid
                  (rw d.look at l));
            };
        count = rw (rows-first paired ts) (ap (λ (n : ℕ). min n count_limit) (omega arith));
        few = omega arith;
      }

  module _ {a b : BodyWriter} {r : RowRead} {n : ℕ} (l : RowsLeft a b r n) where
    -- one row more, after a break
    pub rows_less :
        {b1 b2 : BodyWriter} {r' : RowRead} {next start m : ℕ} → r.after ≡ Some next → start ≡ next_row_at text paired next → PiecesLaid b (br ∷ []) b1
        → RowDone text start r.look b1 b2 r' → m ≡ min (n + 1) count_limit → RowsLeft a b2 r' m
    unfolding later_rows cell_rows
    rows_less {r' = r'} {next} {start} e s w d k =
        let us = row_from start in
        let ended = ended_at text l.start l.end e in
        let here : us ≡ _ = next-rows text paired next (row_from l.start) s ended.rest in
        let o : rows_after paired (row_from l.start) ≡ first_row us ∷ rows_after paired us =
        rows-after paired (row_from l.start) ended.ended ∙ ap (rows_of paired) (sym here) ∙ rows-first paired us in
        let size : length (rows_after paired (row_from l.start)) ≡ suc (length (rows_after paired us)) = ap length o in
        record {
          start = start;
          end = d.after;
          left =
              rw d.look
              (left_less (br ∷ map span (row_spans (cut_row (cells_of_row (unpack r.look) (first_row us))))) (after (look_after_row (unpack r.look) (first_row us)) us)
              (rw o at l.left) (pieces_then (br ∷ []) (map span (row_spans (cut_row (cells_of_row (unpack r.look) (first_row us))))) w d.laid));
          count = rw k (omega (arith, l.count, size));
          few = omega arith;
        }

    -- no row is left
    pub rows_none : {m : Rows} → r.after ≡ None → m.0 ≡ n → RowsDone text before paired a b m
    unfolding later_rows cell_rows
    rows_none e k =
        let o = no_rows_after paired (row_from l.start) (not_ended text l.start l.end e) in
        let c : length (rows_after paired (row_from l.start)) ≡ 0 = ap length o in
        record {
          laid = left-none (rw o at l.left);
          count = omega (arith, l.count, l.few, c, k);
        }
