use native.Mathlib.Omega.{arith}
use mathlib.Core.Path.{sym, ◌∙◌}
use Rattle.meaning.specs.Gsi.{is_digit}
use Rattle.gsi.proofs.Digits.{reading_more}
use Rattle.gsi.proofs.read_decimal.Goals as goal

pub loop-c-preserved : goal.loop-c-preserved
unfolding is_digit
loop-c-preserved c =
    reading_more c.loop-c.invariant c.from.result (omega arith) (sym c.is_ascii_digit.ensures.value ∙ c.if-not-is_ascii_digit.false) c.from.ensures
