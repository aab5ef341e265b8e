-- `examine`: a rule of 1 to 6 is broken, or what pass one told counts.
-- Assumes nothing.
use Rattle.std.proofs.Common.{sym, ◌∙◌}
use Rattle.convert.proofs.Converting.{rule_examined, pass_examined}
use Rattle.convert.proofs.examine.Goals as goal

pub returns-in_err-file_rule : goal.returns-in_err-file_rule
returns-in_err-file_rule c = rule_examined _ _ _ (sym c.file_rule.ensures ∙ c.in_err-file_rule.was) c.from_residual.ensures.1

pub returns : goal.returns
returns c =
    c.examined_with.ensures
    ∙ pass_examined _ _ _ (sym c.file_rule.ensures ∙ c.in_ok-file_rule.was) c.format-f.ensures c.block_count.ensures c.check_blocks-c.ensures
