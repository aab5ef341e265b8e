-- `leading_digit` takes off eight, four, two units and one, each if they go.
-- Assumes nothing.
use mathlib.Core.Path.{◌≡◌, refl}
use Prim.Native.Nat.{◌*◌, ◌<◌}
use native.Mathlib.Omega.{arith}
use Rattle.numbers.proofs.Digits.{none-counted, all-counted, counted}
use Rattle.numbers.proofs.leading_digit.Goals as goal

pub returns : goal.returns
returns c =
    let n = c.args.n in
    let unit = c.args.unit in
    let some : 0 < unit = omega arith in
    let one : unit ≡ 1 * unit = omega arith in
    let eight = counted n unit 8 (8 * unit) some refl c.take_off.ensures.taken (none-counted n unit c.requires.0) in
    let four = counted n unit 4 (4 * unit) some refl c.take_off-2.ensures.taken eight in
    let two = counted n unit 2 (2 * unit) some refl c.take_off-3.ensures.taken four in
    let all = all-counted n unit _ (counted n unit 1 unit some one c.take_off-4.ensures.taken two) in
    record { digit = all.0; rest = all.1 }
