-- `put_head` writes all that stands before the paragraphs.
-- Assumes nothing.
use Rattle.document.specs.Parts.{head_of}
use Rattle.meaning.specs.Document.{before_rate, before_styles, before_paragraphs}
use Rattle.meaning.specs.Lists.{joined, bytes}
use Rattle.output.proofs.Laws.{◌▸◌}
use Rattle.document.proofs.put_head.Goals as goal

pub returns : goal.returns
unfolding head_of joined before_rate before_styles before_paragraphs bytes
returns c = c.put.ensures ▸ c.put_digits2.ensures ▸ c.put-2.ensures ▸ c.put_styles.ensures ▸ c.put-3.ensures
