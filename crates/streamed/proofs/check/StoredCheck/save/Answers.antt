-- `save` writes the numbers of a check, which its store then holds.
-- Assumes nothing.
use mathlib.Core.Path.{refl, ap, ◌∙◌}
use Rattle.store.specs.Stores.{check_of}
use Rattle.store.proofs.Known.{known_state}
use Rattle.store.proofs.Stores.{check_saved}
use Rattle.streamed.proofs.Sound.{sound}
use Rattle.streamed.proofs.check.StoredCheck.save.Goals as goal

pub returns-clause-held : goal.returns-clause-held
returns-clause-held c =
    let k = c.args.self.now in
    ap check_of c.put_state.ensures ∙ check_saved _ _ k.size (known_state _ _ c.state-state.type_inv) (rw c.state-state.ensures k.phase) (rw c.state-state.ensures (sound _ _ k.size k.sound)) ∙ rw c.state-state.ensures refl
