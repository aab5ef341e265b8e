-- Packed cells and pens, and the cells and pens that they stand for.
-- Assumes nothing.
use Rattle.std.specs.Prelude.{List, map}
use Rattle.meaning.specs.Looks.{pack, unpack}
use Rattle.meaning.specs.Cells.{Cell, Pen}
use Rattle.cells.specs.declared.PackedCell.{PackedCell}
use Rattle.cells.specs.declared.pen.PackedPen.{PackedPen}

abbrev pub cell_of : PackedCell → Cell
cell_of c = record { character = c.character; look = unpack c.look }

-- the cells that an array holds
abbrev pub cells_in : List PackedCell → List Cell
cells_in cs = map cell_of cs

abbrev pub pen_of : PackedPen → Pen
pen_of p = record { look = unpack p.look; hidden = p.hidden }

-- a cell as it is packed
abbrev pub packed_cell : Cell → PackedCell
packed_cell c = record { character = c.character; look = pack c.look }

abbrev pub packed_cells : List Cell → List PackedCell
packed_cells cs = map packed_cell cs
