-- `put_content` lays a text as the content of its paragraph.
-- Assumes nothing.
use native.Mathlib.Omega.{arith}
use mathlib.Core.Path.{refl}
use Rattle.text.proofs.Laws.{breaks_laid, laid-spans}
use Rattle.text.proofs.Content.{start-look, content_laid}
use Rattle.text.proofs.put_content.Goals as goal

pub returns : goal.returns
returns c =
    content_laid _ _ (omega (arith, c.well_formed)) c.is_double-double.ensures (start-look _ c.white_on_black-look.ensures c.pack.ensures)
    (rw c.is_paired-paired.ensures at c.lay_rows-rows.ensures) c.lines-lines.ensures c.filler_lines-fillers.ensures
    (breaks_laid _ (laid-spans c.lay_rows-rows.ensures.laid) c.put_breaks.ensures (record { spans = refl; marks = refl; writer = refl; same = refl }))
