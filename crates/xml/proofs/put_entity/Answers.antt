-- `put_entity` writes the name of the character.
-- Assumes nothing.
use mathlib.Core.Path.{◌≡◌}
use mathlib.Core.Logic.{⊎_elim}
use native.Mathlib.Omega.{arith}
use Rattle.meaning.specs.Lists.{bytes}
use Rattle.meaning.specs.Document.{escaped}
use Rattle.xml.proofs.put_entity.Goals as goal

pub returns-in-38 : goal.returns-in-38
unfolding escaped bytes
returns-in-38 c = rw c.in-38.is c.put.ensures

pub returns-in-60 : goal.returns-in-60
unfolding escaped bytes
returns-in-60 c = rw c.in-60.is c.put-in-60.ensures

pub returns-in_default : goal.returns-in_default
unfolding escaped bytes
returns-in_default c =
    let e : c.args.c ≡ 62 = ⊎_elim (λ h. omega arith) (⊎_elim (λ h. omega arith) (λ h. h)) c.requires in
    rw e c.put-in_default.ensures
