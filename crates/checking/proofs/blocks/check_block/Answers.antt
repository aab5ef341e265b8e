-- `check_block` is a step of the walk, with the rules 13 to 15 over closed sets.
-- Assumes nothing.
use mathlib.Core.Path.{◌≡◌, ◌∙◌, ap}
use Rattle.std.proofs.Common.{rules, Ok, Err}
use Rattle.closed.proofs.Laying.{lays-nothing}
use Rattle.checking.proofs.Stepping.{taken-full, taken-broken, taken-pending, taken-bad, taken-good}
use Rattle.checking.proofs.blocks.check_block.Goals as goal

pub returns-in_err-advance : goal.returns-in_err-advance
returns-in_err-advance c =
    let z : c.from_residual.result ≡ Err c.in_err-advance.field-0.0 = search rules in
    lays-nothing (rw z (taken-broken _ _ _ _ (c.counts_after-counts.ensures _) c.advance.ensures c.in_err-advance.was))

pub returns-in_err-set_rule-in-Closed : goal.returns-in_err-set_rule-in-Closed
returns-in_err-set_rule-in-Closed c =
    let z : c.from_residual-in_err-set_rule-in-Closed.result ≡ Err c.in_err-set_rule-in-Closed.field-0.0 = search rules in
    lays-nothing
    (rw z
    (taken-bad _ _ _ _ (c.counts_after-counts.ensures _) c.advance.ensures (c.in_ok-advance.was ∙ ap Ok c.in-Closed.is)
    c.set_rule.ensures c.in_err-set_rule-in-Closed.was))

pub returns-in-NoRoom : goal.returns-in-NoRoom
returns-in-NoRoom c =
    lays-nothing
    (taken-full _ _ _ _ (c.counts_after-counts.ensures _) c.advance.ensures (c.in_ok-advance.was ∙ ap Ok c.in-NoRoom.is))

pub returns-in-Pending : goal.returns-in-Pending
returns-in-Pending c =
    lays-nothing
    (taken-pending _ _ _ _ (c.counts_after-counts.ensures _) c.advance.ensures (c.in_ok-advance.was ∙ ap Ok c.in-Pending.is))

pub returns-in_ok-set_rule-in-Closed : goal.returns-in_ok-set_rule-in-Closed
returns-in_ok-set_rule-in-Closed c =
    record {
      laid =
          rw c.lay.ensures.laid
          (taken-good _ _ _ _ (c.counts_after-counts.ensures _) c.advance.ensures (c.in_ok-advance.was ∙ ap Ok c.in-Closed.is)
          c.set_rule.ensures c.in_ok-set_rule-in-Closed.was);
      buffers = c.lay.ensures.buffers;
    }
