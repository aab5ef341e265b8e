-- `put_row` puts the spans of what is shown, seen from those that were read.
-- Assumes nothing.
use mathlib.Core.List.{map}
use Rattle.text.specs.Laid.{RowPut, piece_of}
use Rattle.text.proofs.put_row.Given as goal

abbrev pub invariant-loop-s : goal.invariant-loop-s
invariant-loop-s l = RowPut l.initial.w l.initial.marks (map piece_of l.yielded) l.w l.marks l.count
