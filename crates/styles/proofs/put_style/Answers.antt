-- `put_style` writes the parts of a style's line in turn.
-- Assumes nothing.
use mathlib.Core.Path.{sym}
use Rattle.meaning.specs.Lists.{joined, bytes}
use Rattle.meaning.specs.Document.{style_end, write_style}
use Rattle.output.proofs.Laws.{◌▸◌}
use Rattle.styles.proofs.put_style.Goals as goal

pub returns : goal.returns
unfolding write_style style_end joined bytes
returns c =
    rw (sym c.unpack-shown.ensures)
    (c.put.ensures
    ▸ c.put_style_name.ensures
    ▸ c.put-2.ensures
    ▸ c.put_colour_name.ensures
    ▸ c.put-3.ensures
    ▸ c.put_colour_name-2.ensures
    ▸ c.put_style_end.ensures)
