-- `Pass::checked` tells a refusal, or what was counted and laid.
-- Assumes nothing.
use mathlib.Core.Path.{◌≡◌}
use Rattle.std.proofs.Common.{rules, Err}
use Rattle.meaning.proofs.RefusalLaws.{good-number, bad-number}
use Rattle.checking.proofs.Stepping.{ended-bad, ended_open, ended_shut}
use Rattle.checking.proofs.blocks.Pass.checked.Goals as goal

pub returns-then-self-ne0 : goal.returns-then-self-ne0
returns-then-self-ne0 c text out = ended-bad _ _ text _ (bad-number _ c.if-self-ne0.true)

pub returns-in_err-unless : goal.returns-in_err-unless
returns-in_err-unless c text out =
    let z : c.from_residual.result ≡ Err c.in_err-unless.field-0.0 = search rules in
    rw z (ended_open _ _ text _ (good-number _ c.if-self-ne0.false) (c.is_open.ensures text) c.unless.ensures c.in_err-unless.was)

pub returns : goal.returns
returns c text out = ended_shut _ _ text _ (good-number _ c.if-self-ne0.false) (c.is_open.ensures text) c.unless.ensures c.in_ok-unless.was
