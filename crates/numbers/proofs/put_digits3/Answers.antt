-- `put_digits3` writes the last three digits.
-- Assumes nothing.
use Rattle.meaning.specs.Document.{digits}
use Rattle.output.proofs.Laws.{◌▸◌, put_as}
use Rattle.numbers.proofs.put_digits3.Goals as goal

pub returns : goal.returns
unfolding digits
returns c = put_as (cc) (c.put_byte.ensures ▸ c.put_byte-2.ensures ▸ c.put_byte-3.ensures)
