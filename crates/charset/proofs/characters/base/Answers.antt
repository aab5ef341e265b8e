-- `base` gives what a mark stands on: its tests are those of the definition.
-- Assumes nothing.
use mathlib.Core.Path.{sym, ◌∙◌}
use Rattle.charset.proofs.Points.{index_is, base_letter}
use Rattle.charset.proofs.characters.base.Goals as goal

pub returns : goal.returns
returns c = rw c.from.ensures (base_letter _ c.if-c-eq32.false (index_is _ (sym c.letter.ensures.number ∙ c.in_ok-letter.was)))
