use native.Mathlib.Omega.{arith}
use mathlib.Core.List.{[], ◌∷◌}
use Rattle.std.proofs.lemmas.List.{map-append}
use Rattle.std.proofs.lemmas.Iterator.Consumers.{YieldsList-end}
use Rattle.meaning.specs.Conversion.{row_spans}
use Rattle.cells.specs.Packed.{cells_in}
use Rattle.spans.specs.Spans.{spans_in}
use Rattle.spans.proofs.Laws.{YieldsList-from_spans}
use Rattle.text.specs.Laid.{piece_of}
use Rattle.text.proofs.Laws.{put-none, put_one}
use Rattle.text.proofs.RowsLaying.{all-read}
use Rattle.text.proofs.put_row.Goals as goal

pub loop-s-init : goal.loop-s-init
loop-s-init c = put-none _ _ (omega arith) (omega arith)

pub loop-s-preserved : goal.loop-s-preserved
loop-s-preserved c = rw (map-append piece_of c.loop-s.yielded (c.in-Some.s ∷ [])) (put_one _ c.in-Some.s c.loop-s.invariant c.put_span.ensures c.mark.ensures c.after-count.ensures)

pub returns : goal.returns
unfolding row_spans
returns c =
    let l = c.loop-s in
    let cs = c.shown.result.now in
    let all = YieldsList-end (YieldsList-from_spans (spans_in cs) cc) l.yielded l.s-iterator l.yielded_by c.next.result c.next.new.self c.in-None.is c.next.ensures.steps in
    rw (all-read (cells_in cs) l.yielded all.0, c.shown.ensures.shown) at l.invariant
