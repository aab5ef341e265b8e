-- `write_all` lays the sets of all blocks.
-- Assumes nothing.
use lib.ListN.{length}
use Rattle.closed.specs.Body.{body_of, KeepsBuffers}
use Rattle.writing.proofs.Laws.{Written}
use Rattle.writing.proofs.write_all.Given as goal

abbrev pub invariant-loop-k : goal.invariant-loop-k
invariant-loop-k l =
    record {
      written : Written l.f l.file (body_of l.initial.body) l.n (length l.initial.text) l.text (body_of l.body) l.sets l.k;
      buffers : KeepsBuffers l.initial.body l.body;
    }
