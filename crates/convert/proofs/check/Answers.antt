-- `check` answers by what was examined.
-- Assumes nothing.
use Rattle.std.proofs.Common.{ap, ◌∙◌}
use Rattle.convert.specs.Telling.{answered}
use Rattle.convert.proofs.Converting.{answered_examined}
use Rattle.convert.proofs.check.Goals as goal

pub returns : goal.returns
returns c = c.answered.ensures ∙ ap answered c.examine.ensures ∙ answered_examined _ _ _
