-- `refusal` tells the rule by what was examined.
-- Assumes nothing.
use Rattle.std.proofs.Common.{sym, ap, ◌∙◌}
use Rattle.convert.proofs.Answering.{ruled}
use Rattle.convert.proofs.Converting.{ruled_examined}
use Rattle.convert.proofs.refusal.Goals as goal

pub returns-in-Ok : goal.returns-in-Ok
returns-in-Ok c = ap ruled (sym c.in-Ok.is ∙ c.examine.ensures) ∙ ruled_examined _ _ _

pub returns-in-Err : goal.returns-in-Err
returns-in-Err c = ap ruled (sym c.in-Err.is ∙ c.examine.ensures) ∙ ruled_examined _ _ _
