use native.Mathlib.Omega.{arith}
use lib.ListN.{replicate-append-replicate}
use mathlib.Core.List.{flat_map}
use Rattle.meaning.specs.Document.{write_piece}
use Rattle.meaning.specs.Document.Piece.{br}
use Rattle.output.proofs.Laws.{put_nothing, put-more}
use Rattle.text.proofs.put_breaks.Goals as goal

pub loop-init : goal.loop-init
unfolding flat_map
loop-init c = put_nothing _ (omega arith) (omega arith)

pub loop-preserved : goal.loop-preserved
loop-preserved c = rw (← replicate-append-replicate c.loop.counter 1 br) (put-more write_piece _ br c.loop.invariant c.put_break.ensures)
