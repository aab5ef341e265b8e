use native.Mathlib.Omega.{arith}
use mathlib.Core.List.{flat_map}
use Rattle.output.proofs.Laws.{put_nothing}
use Rattle.text.proofs.Laws.{character-more}
use Rattle.text.proofs.put_characters.Goals as goal

pub loop-cell-init : goal.loop-cell-init
unfolding flat_map
loop-cell-init c = put_nothing _ (omega arith) (omega arith)

pub loop-cell-preserved : goal.loop-cell-preserved
loop-cell-preserved c = character-more _ _ _ c.loop-cell-test.true c.loop-cell.invariant c.put_character.ensures
