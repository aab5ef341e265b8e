use native.Mathlib.Omega.{arith}
use mathlib.Core.Path.{◌≡◌, refl}
use Rattle.std.proofs.Common.{rules}
use Rattle.sets.specs.Assembling.{no_sets}
use Rattle.closed.proofs.Laying.{keeps-none, keeps-then}
use Rattle.writing.proofs.Laws.{written_none, written-ready, written-more, written_all}
use Rattle.writing.proofs.write_all.Goals as goal

pub loop-k-init : goal.loop-k-init
loop-k-init c =
    let d : c.default-sets.result ≡ no_sets = search rules in
    record { written = rw d (written_none _ _ _ _ _ _ refl); buffers = keeps-none }

pub write_block-sets-requires : goal.write_block-sets-requires
write_block-sets-requires c = written-ready _ _ _ _ _ c.loop-k.invariant.written _ c.requires c.loop-k-test.true

pub loop-k-preserved : goal.loop-k-preserved
loop-k-preserved c =
    record {
      written = written-more _ _ _ _ _ c.loop-k.invariant.written c.bytes_at.ensures c.write_block-sets.auto.text c.write_block-sets.ensures.laid;
      buffers = keeps-then c.loop-k.invariant.buffers c.write_block-sets.ensures.buffers;
    }

pub returns : goal.returns
returns c = record { laid = written_all _ _ _ _ _ c.loop-k.invariant.written (omega arith); buffers = c.loop-k.invariant.buffers }
