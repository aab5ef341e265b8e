use native.Mathlib.Nat.{zero-add}
use native.Mathlib.Omega.{arith}
use mathlib.Core.Path.{sym, ap, ◌∙◌}
use lib.ListN.{get_or-map, length-take}
use Rattle.std.proofs.Common.{get_or-take}
use Rattle.output.specs.Output.{stored}
use Rattle.output.proofs.Storing.{storing_more, storing_end}
use Rattle.words.specs.Flags.{is_set, flags_over}
use Rattle.words.proofs.Laws.{flags_in_length}
use Rattle.words.proofs.flags_in.Goals as goal

pub loop-j-preserved : goal.loop-j-preserved
unfolding is_set
loop-j-preserved c =
    let s = c.args.s.now in
    let n = c.min-n.result in
    let j = c.loop-j.j in
    let few = length-take n s in
    rw zero-add at
    (storing_more c.loop-j.invariant (is_set 0) (omega (arith, flags_in_length s, few)) (ap is_set (get_or-take n s j 0 (omega (arith, few))) ∙ sym (get_or-map is_set s j 0)))

pub returns : goal.returns
unfolding flags_over stored
returns c = storing_end c.loop-j.invariant (omega (arith, flags_in_length c.args.s.now, length-take c.min-n.result c.args.s.now))
