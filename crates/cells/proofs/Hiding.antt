-- A row drawn as if a box were open at its start, and then the cells up to and with that of its first box code hidden: the row.
-- Assumes nothing.
use Prim.Native.Nat.{ℕ, ◌+◌, ◌≤◌}
use native.Mathlib.Omega.{arith}
use mathlib.Core.Path.{◌≡◌, sym, ap, ◌∙◌}
use mathlib.Core.List.{List, ◌++◌, map-append}
use Rattle.std.specs.Prelude.{Option}
use lib.ListN.{length, drop, replicate, length-map, length-replicate}
use lib.Seq.{sets}
use Rattle.meaning.specs.Looks.{pack, unpack}
use Rattle.meaning.specs.Cells.{Pen, hidden_cell, row_start, cells_from, pen_end}
use Rattle.meaning.proofs.LookLaws.{packed_again}
use Rattle.laws.proofs.Bounds.{cells-length}
use Rattle.cells.specs.declared.PackedCell.{PackedCell}
use Rattle.cells.specs.declared.drawing.Drawing.{Drawing}
use Rattle.cells.specs.Fronts.{boxed_start, front_from}
use lib.LanesLaws.{map-replicate}
use Rattle.std.proofs.lemmas.List.{drop-map}
use Rattle.cells.specs.Packed.{pen_of, packed_cell, packed_cells}
use Rattle.cells.specs.Drawing.{Draws, HidesFront}
use Rattle.rows.specs.Scanned.{row_end_after}
use Rattle.cells.specs.Decoded.{row_tokens, row_at, Decoded}
use Rattle.cells.proofs.Storing.{sets-over}
use Rattle.cells.proofs.Fronts.{hindsight}

pub decoded :
    {text : List ℕ} {start : ℕ} (before : ℕ) {d e f : Drawing} {cells : List PackedCell} {after : Option ℕ} → cells ≡ f.cells.now → pen_of d.pen ≡ boxed_start (unpack before) → d.count ≡ 0 → d.front ≡ 0
    → Draws d (row_tokens text start) e → HidesFront e before f → after ≡ row_end_after text start
    → Decoded text start before d.cells.now cells (record { cells = f.count; after = after; look = f.pen.look })
decoded {text} {start} before {d} {e} {f} s p n z w v after =
    let row = row_tokens text start in
    let old = d.cells.now in
    let cs = cells_from (boxed_start (unpack before)) row in
    let h = hidden_cell (unpack before).double in
    let b = hindsight (unpack before) row in
    let front : e.front ≡ front_from 0 0 row = w.front ∙ (λ i. front_from (z i) (n i) row) in
    let whole : replicate e.front h ++ drop e.front cs ≡ row_at text start (unpack before) = rw front (sym b.cells) in
    let packed : replicate e.front (packed_cell h) ++ drop (length (replicate e.front (packed_cell h))) (packed_cells cs) ≡ packed_cells (row_at text start (unpack before)) =
    rw length-replicate
    ((λ i. sym (map-replicate packed_cell e.front h) i ++ drop-map packed_cell e.front cs i) ∙ sym (map-append packed_cell (replicate e.front h) (drop e.front cs)) ∙ ap packed_cells whole) in
    let few : length (replicate e.front (packed_cell h)) ≤ length (packed_cells cs) = rw (length-replicate, length-map, front) b.within in
    let same : pen_end (pen_of d.pen) row ≡ pen_end (boxed_start (unpack before)) row = ap (λ (q : Pen). pen_end q row) p in
    record {
      held =
          s ∙ v.held ∙ ap (λ (l : List PackedCell). sets l 0 (replicate e.front (packed_cell h))) (w.held ∙ (λ i. sets old (n i) (packed_cells (cells_from (p i) row))))
          ∙ sets-over old 0 (replicate e.front (packed_cell h)) (packed_cells cs) few ∙ ap (sets old 0) packed;
      count =
          v.count ∙ w.count ∙ (λ i. n i + length (cells_from (p i) row)) ∙ omega (arith, cells-length (boxed_start (unpack before)) row, cells-length (row_start row (unpack before)) row);
      after = after;
      look = sym (packed_again f.pen.look f.pen.packed) ∙ ap pack (ap (λ (q : Pen). q.look) ((ap pen_of v.pen ∙ w.pen) ∙ same) ∙ sym b.after);
    }
