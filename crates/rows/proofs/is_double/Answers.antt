use mathlib.Core.Path.{refl, sym, ◌∙◌}
use Rattle.rows.proofs.ReadTo.{run-start, run_turn, run-next, run_all}
use Rattle.rows.proofs.RowLoop.{height-row-end, height-here, height-more, height-over}
use Rattle.rows.proofs.is_double.Goals as goal

pub loop-read-init : goal.loop-read-init
loop-read-init c = run-start _ c.into_iter-read-iterator.ensures.into_iter_gives c.new-read-items.ensures (record { height = refl })

pub returns-then-is_row_end : goal.returns-then-is_row_end
returns-then-is_row_end c =
    run_turn c.loop-read.invariant c.in-Some.ensures.steps (λ at k w. height-row-end k w.read (sym c.is_row_end.ensures ∙ c.if-is_row_end.true))

pub returns-then-is_double_height : goal.returns-then-is_double_height
returns-then-is_double_height c =
    run_turn c.loop-read.invariant c.in-Some.ensures.steps
    (λ at k w. height-here k w.read (sym c.is_row_end.ensures ∙ c.if-is_row_end.false) (sym c.is_double_height.ensures ∙ c.if-is_double_height.true))

pub loop-read-preserved : goal.loop-read-preserved
loop-read-preserved c =
    run-next c.loop-read.invariant c.in-Some.ensures.steps
    (λ at k w.
    height-more k w.read (sym c.is_row_end.ensures ∙ c.if-is_row_end.false) (sym c.is_double_height.ensures ∙ c.if-is_double_height.false) w.run)

pub returns : goal.returns
returns c = run_all c.loop-read.invariant c.in-None.ensures.steps.0 (λ at k over. height-over k over)
