use mathlib.Core.Path.{ap}
use mathlib.Core.Bool.{not}
use Rattle.rows.proofs.ReadTo.{read_turn, read-next, read_all}
use Rattle.faults.proofs.HeightSearch.{odd_found, odd_more, odd_over}
use Rattle.faults.proofs.odd_ends.Goals as goal

pub returns-then-not-is_row_end : goal.returns-then-not-is_row_end
returns-then-not-is_row_end c =
    read_turn c.loop-read.invariant c.in-Some.ensures.steps (λ at p k o. odd_found k o c.is_row_end.ensures (ap not c.if-not-is_row_end.true))

pub loop-read-preserved : goal.loop-read-preserved
loop-read-preserved c =
    read-next c.loop-read.invariant c.in-Some.ensures.steps (λ at p k o. odd_more k o c.is_row_end.ensures (ap not c.if-not-is_row_end.false))

pub returns : goal.returns
returns c =
    read_all c.loop-read.invariant c.in-None.ensures.steps.0 (λ at k over. odd_over k over)
