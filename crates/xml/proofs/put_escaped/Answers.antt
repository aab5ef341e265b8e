-- `put_escaped`: a blank or a letter is one byte.
-- Assumes nothing.
use Prim.Native.Nat.{ℕ, ◌<◌}
use native.Mathlib.Omega.{arith}
use mathlib.Core.Path.{◌≡◌}
use mathlib.Core.Bool.{Bool, true, false, ◌&&◌, ◌||◌}
use mathlib.Core.List.{[], ◌∷◌}
use mathlib.Core.Logic.{⊎_elim}
use lib.Dec.{leb, ltb, eqb}
use borrow.Author.Tests.{lt-ltb, ltb-true, leb-true, eqb-true, ne_eqb}
use Rattle.meaning.specs.Document.{utf8, escaped}
use Rattle.std.proofs.lemmas.Bool.{and_parts, or_cases}
use Rattle.output.proofs.Laws.{put_as}
use Rattle.xml.proofs.put_escaped.Goals as goal

abbrev is_common : ℕ → Bool
is_common p = eqb p 32 || (leb 63 p && ltb p 127)

-- a blank or a letter is below 127, and no code between the blank and the letters
common : (p : ℕ) → is_common p ≡ true → (p < 127) × ((n : ℕ) → 32 < n → n < 63 → eqb p n ≡ false)
common p e =
    ⊎_elim
    (λ b. let h = eqb-true p 32 b in (omega arith, λ n i j. ne_eqb p n (λ d. omega arith)))
    (λ b.
    let w = and_parts (leb 63 p) (ltb p 127) b in
    let h = leb-true 63 p w.0 in
    (ltb-true p 127 w.1, λ n i j. ne_eqb p n (λ d. omega arith)))
    (or_cases (eqb p 32) (leb 63 p && ltb p 127) e)

common-escaped : (p : ℕ) → is_common p ≡ true → escaped p ≡ p ∷ []
unfolding escaped utf8
common-escaped p e =
    let k = common p e in
    rw (k.1 38 (omega arith) (omega arith), k.1 60 (omega arith) (omega arith), k.1 62 (omega arith) (omega arith), lt-ltb p 128 (omega (arith, k.0)))

pub returns-then-c : goal.returns-then-c
returns-then-c c = put_as (common-escaped _ c.if-c.true) c.put_byte.ensures
