-- `put_digits2` writes the last two of five digits.
-- Assumes nothing.
use native.Mathlib.Omega.{arith}
use Rattle.meaning.specs.Document.{digits}
use Rattle.output.proofs.Laws.{put-out}
use Rattle.numbers.proofs.put_digits2.Goals as goal

pub returns-then-w : goal.returns-then-w
unfolding digits
returns-then-w c = put-out c.args.w.now _ c.if-w.true (omega arith) c.after-w.ensures

pub returns : goal.returns
unfolding digits
returns c = rw (c.five_digits.ensures, c.from.ensures) at c.put.ensures
