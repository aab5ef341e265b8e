-- `answer_of`: the answer by rule 16.
-- Assumes nothing.
use Rattle.std.proofs.Common.{ap, ◌∙◌}
use Rattle.convert.specs.Telling.{answered}
use Rattle.convert.proofs.Answering.{answered_with}
use Rattle.convert.proofs.answer_of.Goals as goal

pub returns : goal.returns
returns c = c.answered.ensures ∙ ap answered c.examined_with.ensures ∙ answered_with _ _ _
