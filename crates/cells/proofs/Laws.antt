-- What a caller goes by: the cells of a row that was decoded.
-- Assumes nothing.
use Prim.Native.Nat.{ℕ, ◌≤◌}
use native.Mathlib.Omega.{arith}
use mathlib.Core.Path.{◌≡◌, refl, ap, ◌∙◌}
use mathlib.Core.List.{List, [], ◌∷◌}
use lib.ListN.{length, take, length-map}
use lib.Seq.{sets, length-sets}
use Rattle.meaning.specs.declared.Token.{Token}
use Rattle.meaning.specs.Looks.{unpack}
use Rattle.meaning.specs.declared.Look.{Look}
use Rattle.meaning.specs.Codes.{takes_cell}
use Rattle.meaning.specs.Cells.{Cell, Pen, hidden_if, look_here, cell_of as cell_under, pen_after, cells_of, cells_from, pen_end, row_start, look_after_row}
use Rattle.meaning.proofs.Logic.{by_test}
use Rattle.meaning.proofs.LookLaws.{ThreeBits, white-bits, start-bits, unpack-pack}
use Rattle.laws.proofs.CellFacts.{here-bits, next-bits}
use Rattle.cells.specs.declared.PackedCell.{PackedCell}
use Rattle.cells.specs.declared.RowRead.{RowRead}
use Rattle.cells.specs.Packed.{cell_of, cells_in, packed_cell, packed_cells}
use Rattle.cells.specs.Decoded.{row_tokens, row_at, Decoded}
use Rattle.cells.proofs.Storing.{take-sets, map-sets}

end-bits : (p : Pen) (ts : List Token) → ThreeBits p.look → ThreeBits (pen_end p ts).look
unfolding pen_end pen_after
end-bits p [] h = h
end-bits p (t ∷ ts) h = end-bits (pen_after t p) ts (next-bits t p.look h)

cell-bits : (t : Token) (p : Pen) → ThreeBits p.look → ThreeBits (cell_under t p).look
unfolding cell_under hidden_if
cell-bits t p h = by_test p.hidden (λ e. rw (e, hidden_if) (white-bits (look_here t p.look).double)) (λ e. rw (e, hidden_if) (here-bits t p.look h))

cell-back : (c : Cell) → ThreeBits c.look → cell_of (packed_cell c) ≡ c
cell-back c h = ap (λ (l : Look). let d : Cell = record { character = c.character; look = l } in d) (unpack-pack c.look h)

-- the cells of tokens are packed and unpacked again
cells-back : (p : Pen) (ts : List Token) → ThreeBits p.look → cells_in (packed_cells (cells_from p ts)) ≡ cells_from p ts
unfolding cells_from cells_of pen_after
cells-back p [] h = refl
cells-back p (t ∷ ts) h =
    let more = cells-back (pen_after t p) ts (next-bits t p.look h) in
    by_test (takes_cell t)
    (λ e. rw (e, cells_of) (λ i. cell-back (cell_under t p) (cell-bits t p h) i ∷ more i))
    (λ e. rw (e, cells_of) more)

module _ {text : List ℕ} {start : ℕ} (before : ℕ) {cells cells' : List PackedCell} {r : RowRead} (d : Decoded text start before cells cells' r) where
  pub decoded_length : length cells' ≡ length cells
  decoded_length = ap length d.held ∙ length-sets cells 0 (packed_cells (row_at text start (unpack before)))

  -- the first cells of a row that was decoded, as many as the array has places for
  pub decoded-cells : (n : ℕ) → n ≤ r.cells → n ≤ length cells → take n (cells_in cells') ≡ take n (row_at text start (unpack before))
  unfolding row_start
  decoded-cells n h k =
      let row = row_tokens text start in
      let all = row_at text start (unpack before) in
      let few : n ≤ length (cells_in cells) = omega (arith, k, length-map cells cell_of) in
      let back : cells_in (packed_cells all) ≡ all = cells-back (row_start row (unpack before)) row (start-bits (unpack before)) in
      ap (λ (l : List PackedCell). take n (cells_in l)) d.held
      ∙ ap (take n) (map-sets cell_of cells 0 (packed_cells all) ∙ ap (sets (cells_in cells) 0) back)
      ∙ take-sets n (cells_in cells) all (omega (arith, h, d.count)) few

  -- the look after the row
  pub decoded-look : unpack r.look ≡ look_after_row (unpack before) (row_tokens text start)
  unfolding row_start
  decoded-look =
      let row = row_tokens text start in
      ap unpack d.look ∙ unpack-pack _ (end-bits (row_start row (unpack before)) row (start-bits (unpack before)))
