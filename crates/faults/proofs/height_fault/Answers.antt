use mathlib.Core.Path.{◌∙◌}
use Rattle.std.proofs.Common.{rules}
use Rattle.rows.proofs.ReadTo.{read-start, read_turn, read-next, read_all}
use Rattle.faults.proofs.HeightSearch.{heights-start, heights-found, heights-more, heights-end, height_fault_lem}
use Rattle.faults.proofs.height_fault.Goals as goal

pub loop-at-init : goal.loop-at-init
loop-at-init c = read-start _ c.into_iter-at-iterator.ensures.into_iter_gives c.new-at-items.ensures (heights-start _ _ _ (search rules))

pub returns-then-forbids-starts_odd_run : goal.returns-then-forbids-starts_odd_run
returns-then-forbids-starts_odd_run c =
    read_turn c.loop-at.invariant c.in-Some.ensures.steps
    (λ at p k o.
    height_fault_lem _ _ c.is_double-double.ensures c.is_paired-paired.ensures
    (p ∙ heights-found k o c.forbids.ensures (rw p at c.starts_odd_run.ensures) c.if-forbids-starts_odd_run.true))

pub loop-at-preserved : goal.loop-at-preserved
loop-at-preserved c =
    read-next c.loop-at.invariant c.in-Some.ensures.steps
    (λ at p k o. heights-more k o c.forbids.ensures (rw p at c.starts_odd_run.ensures) c.if-forbids-starts_odd_run.false c.with_token-past.ensures)

pub returns : goal.returns
returns c =
    read_all c.loop-at.invariant c.in-None.ensures.steps.0
    (λ at k over. height_fault_lem _ _ c.is_double-double.ensures c.is_paired-paired.ensures (heights-end k over))
