-- `put_style_name` writes "s" and three digits.
-- Assumes nothing.
use Rattle.meaning.specs.Lists.{bytes}
use Rattle.meaning.specs.Document.{style_name}
use Rattle.output.proofs.Laws.{◌▸◌}
use Rattle.styles.proofs.put_style_name.Goals as goal

pub returns : goal.returns
unfolding style_name bytes
returns c = rw c.from.ensures at (c.put_byte.ensures ▸ c.put_digits3.ensures)
