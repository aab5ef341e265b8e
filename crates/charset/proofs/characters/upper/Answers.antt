-- `upper` gives the character of a code from A0h on, from the upper part of the Latin table.
-- Assumes nothing.
use native.Mathlib.Omega.{arith}
use mathlib.Core.Path.{◌≡◌}
use borrow.Author.Tests.{le-ltb, ne_eqb}
use Rattle.meaning.specs.Tables.{latin_table}
use Rattle.meaning.specs.Characters.{latin}
use Rattle.charset.specs.Points.{point_of}
use Rattle.charset.proofs.Codes.{by_range_lem}
use Rattle.charset.proofs.Points.{single_of}
use Rattle.charset.proofs.characters.upper.Goals as goal

pub returns : goal.returns
unfolding latin_table
returns c =
    let n = c.args.c in
    let point : c.point_of.result ≡ point_of (latin n) =
    rw (c.point_of.ensures, by_range_lem n (omega arith), le-ltb n 32 (omega arith), ne_eqb n 36 (λ e. omega arith), le-ltb n 127 (omega arith), le-ltb n 160 (omega arith)) in
    single_of _ _ point c.map.ensures.cases
