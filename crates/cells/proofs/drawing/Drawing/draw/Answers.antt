use Rattle.std.proofs.Common.{arith}
use mathlib.Core.Path.{sym, ◌∙◌}
use Rattle.rows.proofs.ReadTo.{run-start, run_turn, run-next, run_all}
use Rattle.cells.proofs.RowLeft.{run_fits, left-all, left_more, left_row_end, after_row_end, left_text_end, after_text_end}
use Rattle.cells.proofs.drawing.Drawing.draw.Goals as goal

pub loop-reading-init : goal.loop-reading-init
loop-reading-init c = run-start _ c.into_iter-reading-iterator.ensures.into_iter_gives c.new-reading-items.ensures (left-all _ _ _ c.requires)

pub returns-then-is_row_end : goal.returns-then-is_row_end
returns-then-is_row_end c =
    run_turn c.loop-reading.invariant c.in-Some.ensures.steps
    (λ at k w. let e = sym c.is_row_end.ensures ∙ c.if-is_row_end.true in record { drawn = left_row_end k w.read e; after = after_row_end k w.read e })

pub loop-reading-preserved : goal.loop-reading-preserved
loop-reading-preserved c =
    run-next c.loop-reading.invariant c.in-Some.ensures.steps
    (λ at k w. left_more k w.read (sym c.is_row_end.ensures ∙ c.if-is_row_end.false) c.put_token.ensures w.run c.put_run.ensures)

pub returns : goal.returns
returns c =
    run_all c.loop-reading.invariant c.in-None.ensures.steps.0 (λ at k over. record { drawn = left_text_end k over; after = after_text_end k over })

pub put_token-requires : goal.put_token-requires
put_token-requires c = run_turn c.loop-reading.invariant c.in-Some.ensures.steps (λ at k w. omega (arith, k.few, w.read.on, w.read.within, c.well_formed))

pub put_run-requires : goal.put_run-requires
put_run-requires c =
    run_turn c.loop-reading.invariant c.in-Some.ensures.steps
    (λ at k w. omega (arith, k.few, run_fits c.loop-reading.self c.args.text.now c.put_token.ensures w.run, w.read.on, w.run.within, c.well_formed))

pub slice_bounds-run-count : goal.slice_bounds-run-count
slice_bounds-run-count c = run_turn c.loop-reading.invariant c.in-Some.ensures.steps (λ at k w. w.run.on)

pub slice_bounds-run-start : goal.slice_bounds-run-start
slice_bounds-run-start c = run_turn c.loop-reading.invariant c.in-Some.ensures.steps (λ at k w. w.run.on)

pub slice_bounds-run-end : goal.slice_bounds-run-end
slice_bounds-run-end c = run_turn c.loop-reading.invariant c.in-Some.ensures.steps (λ at k w. w.run.within)
