-- `put_characters` writes character after character.
-- Assumes nothing.
use lib.ListN.{take}
use mathlib.Core.List.{flat_map}
use Rattle.meaning.specs.Cells.{points}
use Rattle.meaning.specs.Document.{escaped}
use Rattle.cells.specs.Packed.{cells_in}
use Rattle.output.specs.Output.{Put}
use Rattle.text.proofs.put_characters.Given as goal

abbrev pub invariant-loop-cell : goal.invariant-loop-cell
invariant-loop-cell l = Put l.initial.w (flat_map escaped (flat_map points (cells_in (take l.cell-index l.cells)))) l.w
