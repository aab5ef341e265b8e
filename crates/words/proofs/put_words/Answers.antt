use native.Mathlib.Numerals.{add-one}
use native.Mathlib.Omega.{arith}
use mathlib.Core.List.{flat_map}
use mathlib.Core.Path.{◌∙◌}
use lib.ListN.{get_or, take}
use lib.Seq.{take-suc}
use Rattle.output.proofs.Laws.{put_nothing, put-more}
use Rattle.words.specs.Words.{word_bytes}
use Rattle.words.proofs.Laws.{le_bytes}
use Rattle.words.proofs.put_words.Goals as goal

pub loop-n-init : goal.loop-n-init
unfolding flat_map
loop-n-init c = put_nothing _ (omega arith) (omega arith)

pub loop-n-preserved : goal.loop-n-preserved
loop-n-preserved c =
    let ns = c.args.ns.now in
    let k = c.loop-n.n-index in
    let n = get_or ns k 0 in
    rw (add-one, take-suc ns k 0 (omega arith))
    (put-more word_bytes (take k ns) n c.loop-n.invariant (rw (c.to_le_bytes.ensures ∙ le_bytes n) at c.put.ensures))
