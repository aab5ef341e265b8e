use mathlib.Core.Path.{ap, ◌∙◌}
use mathlib.Core.Bool.{not}
use Rattle.rows.proofs.ReadTo.{read-start, read_turn, read-next, read_all}
use Rattle.faults.proofs.TokenSearch.{codes-start, codes-found, codes-more, codes-end}
use Rattle.faults.proofs.code_fault.Goals as goal

pub loop-at-init : goal.loop-at-init
loop-at-init c = read-start _ c.into_iter-at-iterator.ensures.into_iter_gives c.new-at-items.ensures (codes-start _ _)

pub returns-then-not-is_listed : goal.returns-then-not-is_listed
returns-then-not-is_listed c =
    read_turn c.loop-at.invariant c.in-Some.ensures.steps (λ at p k o. p ∙ codes-found k o c.is_listed.ensures (ap not c.if-not-is_listed.true))

pub loop-at-preserved : goal.loop-at-preserved
loop-at-preserved c =
    read-next c.loop-at.invariant c.in-Some.ensures.steps (λ at p k o. codes-more k o c.is_listed.ensures (ap not c.if-not-is_listed.false))

pub returns : goal.returns
returns c =
    read_all c.loop-at.invariant c.in-None.ensures.steps.0 (λ at k over. codes-end k over)
