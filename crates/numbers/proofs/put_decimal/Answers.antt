-- `put_decimal` writes the digits from the first that is no leading zero.
-- Assumes nothing.
use mathlib.Core.Path.{◌≡◌, ap, ◌∙◌}
use mathlib.Core.Logic.{◌≢◌}
use Rattle.std.proofs.Common.{rules}
use borrow.Author.Tests.{tests}
use lib.ListN.{length}
use Rattle.std.proofs.lemmas.Iterator.{IsFirst-from_position, YieldsList-from_slice}
use Rattle.meaning.proofs.DigitLaws.{digits-length}
use Rattle.output.proofs.Laws.{put_as}
use Rattle.numbers.proofs.Zeros.{first_digit, decimal-part}
use Rattle.numbers.proofs.put_decimal.Goals as goal

pub returns : goal.returns
returns c =
    let e = c.five_digits-all.ensures in
    let size : length c.five_digits-all.result ≡ 5 = ap length e ∙ digits-length 5 c.args.n in
    let found =
    IsFirst-from_position _ _ _ (λ d. d ≢ 48) (λ d. d ≡ 48) c.position.ensures.ran (YieldsList-from_slice _ c.iter.ensures.rest)
    (λ x q k. search (rules, tests)) (λ x q k. search (rules, tests)) in
    put_as (decimal-part c.unwrap_or-from.result _ (first_digit _ 4 _ size found c.unwrap_or-from.ensures) e) c.put.ensures
