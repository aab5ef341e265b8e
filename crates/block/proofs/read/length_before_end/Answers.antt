-- `length_before_end` finds the first 8Fh.
-- Assumes nothing.
use mathlib.Core.Path.{◌∙◌}
use Rattle.block.proofs.Ends.{text_end}
use Rattle.block.proofs.read.length_before_end.Goals as goal

pub returns : goal.returns
returns c = c.unwrap_or.ensures ∙ text_end c.args.text.now c.memchr.result c.memchr.ensures
