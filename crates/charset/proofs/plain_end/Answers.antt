use native.Mathlib.Omega.{arith}
use mathlib.Core.Path.{sym, ◌∙◌}
use Rattle.meaning.proofs.ListLaws.{while_more, while_stops, while_ends}
use Rattle.std.proofs.Common.{rules}
use Rattle.charset.specs.Plain.{is_plain, plain_end}
use Rattle.charset.proofs.plain_end.Goals as goal

pub returns-then-not-is_plain : goal.returns-then-not-is_plain
returns-then-not-is_plain c =
    let s = c.args.text.now in
    let other = sym c.is_plain.ensures ∙ c.if-not-is_plain.true in
    omega (arith, c.loop-i.invariant.run, while_stops is_plain s c.loop-i.i 0 c.loop-i-test.true other)

pub loop-i-init : goal.loop-i-init
unfolding plain_end
loop-i-init c = record { from = omega arith; most = omega arith; run = search rules }

pub loop-i-preserved : goal.loop-i-preserved
loop-i-preserved c =
    let s = c.args.text.now in
    let plain = sym c.is_plain.ensures ∙ c.if-not-is_plain.false in
    record {
      from = omega (arith, c.loop-i.invariant.from);
      most = omega (arith, c.loop-i-test.true);
      run = omega (arith, c.loop-i.invariant.run, while_more is_plain s c.loop-i.i 0 c.loop-i-test.true plain);
    }

pub returns : goal.returns
returns c =
    let a = c.loop-i.invariant in
    omega (arith, a.from, a.most, a.run, c.max.ensures, while_ends is_plain c.args.text.now c.loop-i.i (omega arith))
