-- `put_colour_name` writes red, green and blue.
-- Assumes nothing.
use Rattle.meaning.specs.Lists.{joined, bytes}
use Rattle.meaning.specs.Document.{colour_name}
use Rattle.output.proofs.Laws.{◌▸◌}
use Rattle.styles.proofs.put_colour_name.Goals as goal

pub returns : goal.returns
unfolding colour_name joined bytes
returns c = c.put_byte.ensures ▸ c.put_channel.ensures ▸ c.put_channel-2.ensures ▸ c.put_channel-3.ensures
