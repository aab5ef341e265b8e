-- `put_style_end` writes size, italics and underline in turn.
-- Assumes nothing.
use Rattle.meaning.specs.Lists.{joined, bytes}
use Rattle.meaning.specs.Document.{size_name, font_style_name, decoration_name, style_end}
use Rattle.output.specs.Output.{Put}
use Rattle.output.proofs.Laws.{◌▸◌}
use Rattle.styles.proofs.put_style_end.Goals as goal

pub returns : goal.returns
unfolding style_end size_name font_style_name decoration_name joined bytes
returns c =
    let shown = c.args.shown in
    let size : Put _ (size_name shown.double) _ = c.put_either.ensures in
    let italics : Put _ (font_style_name shown.italics) _ = c.put_either-2.ensures in
    let underline : Put _ (decoration_name shown.underline) _ = c.put_either-3.ensures in
    c.put.ensures ▸ size ▸ c.put-2.ensures ▸ italics ▸ c.put-3.ensures ▸ underline ▸ c.put-4.ensures
