-- `put_span` writes one span: five writes.
-- Assumes nothing.
use Rattle.meaning.specs.Document.{write_piece, write_span}
use Rattle.meaning.specs.Lists.{joined, bytes}
use Rattle.output.proofs.Laws.{◌▸◌}
use Rattle.text.proofs.put_span.Goals as goal

pub returns : goal.returns
unfolding write_piece write_span joined bytes
returns c = c.put.ensures ▸ c.put_style_name.ensures ▸ c.put-2.ensures ▸ c.put_characters.ensures ▸ c.put-3.ensures
