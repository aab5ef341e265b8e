-- `lay` lays the paragraph of a subtitle.
-- Assumes nothing.
use mathlib.Core.Path.{refl, sym}
use Rattle.sets.specs.Assembling.{set_of, set_with}
use Rattle.closed.specs.Body.{lay_set}
use Rattle.closed.proofs.Laying.{lays-nothing, lays-paragraph}
use Rattle.closed.proofs.lay.Goals as goal

pub returns-then-is_comment : goal.returns-then-is_comment
unfolding lay_set set_of set_with
returns-then-is_comment c = rw (sym c.is_comment.ensures, c.if-is_comment.true) (lays-nothing refl)

pub returns : goal.returns
unfolding lay_set set_of set_with
returns c = rw (sym c.is_comment.ensures, c.if-is_comment.false) (lays-paragraph _ c.put_paragraph.ensures (rw c.text.ensures))
