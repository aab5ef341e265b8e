-- Decimal digits as a number, if all bytes are digits.
-- Assumes nothing.
use Rattle.std.specs.Prelude.{ℕ, cond, List, Option, Some, None}
use Rattle.meaning.specs.Lists.{all}
use Rattle.meaning.specs.Gsi.{is_digit, value_from}

unfoldable pub decimal : List ℕ → Option ℕ
decimal cs = cond (all is_digit cs) (Some (value_from 0 cs)) None
