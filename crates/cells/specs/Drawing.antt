-- What drawing tokens of a row leaves, and hiding the cells in front of its first box code.
-- Assumes nothing.
use Rattle.std.specs.Prelude.{ℕ, ◌≡◌, ◌+◌, List, length, replicate}
use Rattle.std.proofs.lemmas.List.Edits.{sets}
use Rattle.meaning.specs.declared.Token.{Token}
use Rattle.meaning.specs.Looks.{unpack}
use Rattle.meaning.specs.Cells.{hidden_cell, cells_from, pen_end}
use Rattle.cells.specs.declared.PackedCell.{PackedCell}
use Rattle.cells.specs.declared.drawing.Drawing.{Drawing}
use Rattle.cells.specs.Packed.{pen_of, packed_cell, packed_cells}
use Rattle.cells.specs.Fronts.{front_from}

-- cells stored behind those so far; what has no place in the array is counted all the same
pub record Puts (d : Drawing) (cs : List PackedCell) (d' : Drawing) : Type 0 where
  pub held : d'.cells.now ≡ sets d.cells.now d.count cs
  pub count : d'.count ≡ d.count + length cs
  pub front : d'.front ≡ d.front
  pub pen : d'.pen ≡ d.pen
  pub same : d'.cells.ghost_name ≡ d.cells.ghost_name

-- from a drawing on, tokens drawn: their cells, and the pen after them
pub record Draws (d : Drawing) (ts : List Token) (d' : Drawing) : Type 0 where
  pub held : d'.cells.now ≡ sets d.cells.now d.count (packed_cells (cells_from (pen_of d.pen) ts))
  pub count : d'.count ≡ d.count + length (cells_from (pen_of d.pen) ts)
  pub front : d'.front ≡ front_from d.front d.count ts
  pub pen : pen_of d'.pen ≡ pen_end (pen_of d.pen) ts
  pub same : d'.cells.ghost_name ≡ d.cells.ghost_name

pub record HidesFront (d : Drawing) (look : ℕ) (d' : Drawing) : Type 0 where
  pub held : d'.cells.now ≡ sets d.cells.now 0 (replicate d.front (packed_cell (hidden_cell (unpack look).double)))
  pub count : d'.count ≡ d.count
  pub pen : d'.pen ≡ d.pen
  pub same : d'.cells.ghost_name ≡ d.cells.ghost_name
