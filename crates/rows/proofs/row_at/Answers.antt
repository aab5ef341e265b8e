use mathlib.Core.Path.{sym, ◌∙◌}
use Rattle.rows.proofs.ReadTo.{read-start, read_turn, read-next, read_all}
use Rattle.rows.proofs.RowLoop.{left-start, left-more, left_end, left_over}
use Rattle.rows.proofs.Facts.{row_scanned}
use Rattle.rows.proofs.row_at.Goals as goal

pub loop-read-init : goal.loop-read-init
loop-read-init c = read-start _ c.into_iter-read-iterator.ensures.into_iter_gives c.new-read-items.ensures (left-start _ _ _)

pub returns-then-is_row_end : goal.returns-then-is_row_end
returns-then-is_row_end c =
    read_turn c.loop-read.invariant c.in-Some.ensures.steps
    (λ at p k o. c.row.ensures ∙ row_scanned (left_end k o (sym c.is_row_end.ensures ∙ c.if-is_row_end.true)))

pub loop-read-preserved : goal.loop-read-preserved
loop-read-preserved c =
    read-next c.loop-read.invariant c.in-Some.ensures.steps
    (λ at p k o. left-more k o (sym c.is_row_end.ensures ∙ c.if-is_row_end.false) c.with_token-facts.ensures)

pub returns : goal.returns
returns c =
    read_all c.loop-read.invariant c.in-None.ensures.steps.0 (λ at k over. c.row-2.ensures ∙ row_scanned (left_over k over))
