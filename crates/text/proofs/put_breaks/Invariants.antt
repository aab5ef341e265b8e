-- `put_breaks` writes one tt:br after another.
-- Assumes nothing.
use lib.ListN.{replicate}
use mathlib.Core.List.{flat_map}
use Rattle.meaning.specs.Document.{write_piece}
use Rattle.meaning.specs.Document.Piece.{br}
use Rattle.output.specs.Output.{Put}
use Rattle.text.proofs.put_breaks.Given as goal

abbrev pub invariant-loop : goal.invariant-loop
invariant-loop l = Put l.initial.w (flat_map write_piece (replicate l.counter br)) l.w
