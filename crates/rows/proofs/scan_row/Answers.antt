use mathlib.Core.Path.{sym, ◌∙◌}
use Rattle.rows.proofs.ReadTo.{run-start, run_turn, run-next, run_all}
use Rattle.rows.proofs.RowLoop.{left-start, left-more, left-run, left_end, left_over}
use Rattle.rows.proofs.scan_row.Goals as goal

pub loop-read-init : goal.loop-read-init
loop-read-init c = run-start _ c.into_iter-read-iterator.ensures.into_iter_gives c.new-read-items.ensures (left-start _ _ _)

pub returns-then-is_row_end : goal.returns-then-is_row_end
returns-then-is_row_end c =
    run_turn c.loop-read.invariant c.in-Some.ensures.steps (λ at k w. left_end k w.read (sym c.is_row_end.ensures ∙ c.if-is_row_end.true))

pub loop-read-preserved : goal.loop-read-preserved
loop-read-preserved c =
    run-next c.loop-read.invariant c.in-Some.ensures.steps
    (λ at k w.
    left-run (left-more k w.read (sym c.is_row_end.ensures ∙ c.if-is_row_end.false) c.with_token.ensures) w.run c.with_characters-facts.ensures)

pub returns : goal.returns
returns c = run_all c.loop-read.invariant c.in-None.ensures.steps.0 (λ at k over. left_over k over)

pub overflow_sub-end : goal.overflow_sub-end
overflow_sub-end c = run_turn c.loop-read.invariant c.in-Some.ensures.steps (λ at k w. w.run.on)
