-- `put_other` writes a name or UTF-8.
-- Assumes nothing.
use mathlib.Core.Path.{◌≡◌}
use mathlib.Core.Logic.{◌⊎◌, inl, inr}
use Rattle.std.proofs.Common.{rules}
use borrow.Author.Tests.{ne_eqb}
use Rattle.meaning.specs.Document.{escaped}
use Rattle.xml.proofs.put_other.Goals as goal

pub returns-in_default : goal.returns-in_default
unfolding escaped
returns-in_default c =
    let p = c.args.c in
    let other : (p ≡ 38) ⊎ ((p ≡ 60) ⊎ (p ≡ 62)) → ⊥ = search rules in
    rw (ne_eqb p 38 (λ e. other (inl e)), ne_eqb p 60 (λ e. other (inr (inl e))), ne_eqb p 62 (λ e. other (inr (inr e)))) c.put_utf8.ensures
