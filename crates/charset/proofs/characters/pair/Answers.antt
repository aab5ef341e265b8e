-- `pair` gives the character of an accent and the code after it: composed, or a base and a mark.
-- Assumes nothing.
use mathlib.Core.Path.{sym, ◌∙◌}
use Rattle.meaning.specs.Glyphs.{marks}
use native.Mathlib.Omega.{arith}
use Rattle.charset.proofs.Codes.{mark_at}
use Rattle.charset.proofs.Points.{pair_marked, none_else}
use Rattle.charset.proofs.characters.pair.Goals as goal

pub returns : goal.returns
unfolding marks
returns c = pair_marked _ _ (sym c.composed.ensures ∙ none_else _ c.in_default.not-Some) (sym c.base.ensures ∙ c.in_ok-point.was) (mark_at _ (omega arith))
