use native.Mathlib.Omega.{arith}
use lib.ListN.{length-take}
use Rattle.std.proofs.Common.{get_or-take}
use Rattle.output.proofs.Storing.{storing_more, storing_end}
use Rattle.output.proofs.put_bytes.Goals as goal

pub loop-j-preserved : goal.loop-j-preserved
loop-j-preserved c =
    let bytes = c.args.bytes.now in
    let n = c.fitting-n.result in
    let few = length-take n bytes in
    storing_more c.loop-j.invariant 0 (omega (arith, few)) (get_or-take n bytes c.loop-j.j 0 (omega (arith, few)))

pub returns : goal.returns
returns c = storing_end c.loop-j.invariant (omega (arith, length-take c.fitting-n.result c.args.bytes.now))
