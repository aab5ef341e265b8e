-- `put_time` writes four numbers of two digits, with a colon between them: seven writes.
-- Assumes nothing.
use Rattle.meaning.specs.Document.{write_time}
use Rattle.meaning.specs.Lists.{joined, bytes}
use Rattle.output.proofs.Laws.{◌▸◌}
use Rattle.document.proofs.put_time.Goals as goal

pub returns : goal.returns
unfolding write_time joined bytes
returns c =
    c.put_digits2.ensures ▸ c.put_byte.ensures ▸ c.put_digits2-2.ensures ▸ c.put_byte-2.ensures ▸ c.put_digits2-3.ensures ▸ c.put_byte-3.ensures ▸ c.put_digits2-4.ensures
