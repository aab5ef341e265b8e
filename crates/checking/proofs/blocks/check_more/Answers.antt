use native.Mathlib.Omega.{arith}
use Rattle.meaning.proofs.RefusalLaws.{good-number, bad-number}
use Rattle.closed.proofs.Laying.{keeps-none, keeps-then}
use Rattle.checking.proofs.Leaving.{left-all, left-none, left-refused, left-more}
use Rattle.checking.proofs.blocks.check_more.Goals as goal

pub loop-k-init : goal.loop-k-init
loop-k-init c = record { left = left-all _ _ _ _ _ (omega (arith, c.ranges.place)); buffers = keeps-none }

pub returns-then-w-ne0 : goal.returns-then-w-ne0
returns-then-w-ne0 c =
    record {
      laid = left-refused _ _ _ _ _ c.loop-k.invariant.left c.loop-k-test.true (bad-number _ c.if-w-ne0.true);
      buffers = c.loop-k.invariant.buffers;
    }

pub loop-k-preserved : goal.loop-k-preserved
loop-k-preserved c =
    record {
      left =
          left-more _ _ _ _ _ c.loop-k.invariant.left c.loop-k-test.true (good-number _ c.if-w-ne0.false) c.well_formed.0.0 c.saturating_add-place.ensures
          c.saturating_mul.ensures c.field-bytes.ensures (rw c.after-w.ensures c.check_block.ensures.laid) c.check_block.auto.text;
      buffers = keeps-then c.loop-k.invariant.buffers c.check_block.ensures.buffers;
    }

pub returns : goal.returns
returns c = record { laid = left-none _ _ _ _ _ c.loop-k.invariant.left (omega arith); buffers = c.loop-k.invariant.buffers }
