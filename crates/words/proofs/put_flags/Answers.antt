use native.Mathlib.Omega.{arith}
use mathlib.Core.Path.{◌≡◌, sym, ◌∙◌}
use mathlib.Core.Bool.{false}
use lib.ListN.{get_or, take, get_or-map, length-take}
use Rattle.std.proofs.Common.{get_or-take}
use Rattle.meaning.proofs.Logic.{by_test}
use Rattle.output.proofs.Storing.{storing_more, storing_end}
use Rattle.words.specs.Flags.{flag_byte}
use Rattle.words.proofs.Laws.{flags_length}
use Rattle.words.proofs.put_flags.Goals as goal

pub loop-j-preserved : goal.loop-j-preserved
unfolding flag_byte
loop-j-preserved c =
    let on = c.args.on.now in
    let n = c.fitting-n.result in
    let j = c.loop-j.j in
    let few = length-take n on in
    let same : get_or (take n on) j false ≡ get_or on j false = get_or-take n on j false (omega (arith, few)) in
    let read : c.from.result ≡ flag_byte (get_or on j false) =
    by_test (get_or (take n on) j false) (λ e. c.from.ensures ∙ rw (e, sym same ∙ e)) (λ e. c.from.ensures ∙ rw (e, sym same ∙ e)) in
    storing_more c.loop-j.invariant (flag_byte false) (omega (arith, flags_length on, few)) (read ∙ sym (get_or-map flag_byte on j false))

pub returns : goal.returns
returns c = storing_end c.loop-j.invariant (omega (arith, flags_length c.args.on.now, length-take c.fitting-n.result c.args.on.now))
