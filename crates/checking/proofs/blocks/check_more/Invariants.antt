-- `check_more` passes block after block, until one is refused.
-- Assumes nothing.
use Rattle.closed.specs.Body.{body_of, KeepsBuffers}
use Rattle.checking.specs.Passing.{passing}
use Rattle.checking.proofs.Leaving.{Left}
use Rattle.checking.proofs.blocks.check_more.Given as goal

abbrev pub invariant-loop-k : goal.invariant-loop-k
invariant-loop-k l =
    record {
      left :
          Left l.f l.bytes l.n l.place (passing l.initial.w l.initial.text (body_of l.initial.body)) (passing l.w l.text (body_of l.body)) l.k;
      buffers : KeepsBuffers l.initial.body l.body;
    }
