use native.Mathlib.Omega.{arith}
use mathlib.Core.Path.{sym, ◌∙◌}
use Rattle.explain.proofs.Offsets.{found, passed, past_all, text-within}
use Rattle.explain.proofs.text_offset.Goals as goal

-- the result is a place in the file
pub block_start-requires : goal.block_start-requires
block_start-requires c =
    omega (arith, text-within c.args.file.now c.loop-k.k c.loop-k.left c.block_count-k-end.ensures c.loop-k-test.true (rw c.text_size-size.ensures at c.if-left-size.true))

pub overflow_add-result-then-left-size : goal.overflow_add-result-then-left-size
overflow_add-result-then-left-size c =
    omega (arith, c.block_start.ensures, text-within c.args.file.now c.loop-k.k c.loop-k.left c.block_count-k-end.ensures c.loop-k-test.true (rw c.text_size-size.ensures at c.if-left-size.true))

pub returns-then-left-size : goal.returns-then-left-size
returns-then-left-size c =
    let f = found _ _ _ _ c.loop-k-test.true (rw c.text_size-size.ensures at c.if-left-size.true) in
    rw (sym c.block_count-k-end.ensures, c.block_start.ensures) (sym f ∙ c.loop-k.invariant)

pub loop-k-preserved : goal.loop-k-preserved
loop-k-preserved c =
    rw c.text_size-size.ensures (sym (passed _ _ _ _ c.loop-k-test.true (rw c.text_size-size.ensures at c.if-left-size.false)) ∙ c.loop-k.invariant)

pub returns : goal.returns
returns c =
    rw (sym c.block_count-k-end.ensures) (sym (past_all _ _ _ _ c.loop-k-test.false) ∙ c.loop-k.invariant)
