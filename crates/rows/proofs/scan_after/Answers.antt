use native.Mathlib.Omega.{arith}
use Prim.Native.Nat.{ℕ}
use mathlib.Core.Path.{ap, ◌∙◌}
use Rattle.std.specs.Prelude.{Option}
use Rattle.std.specs.Option.{is_some, unwrap_or}
use Rattle.rows.proofs.TextLoop.{left-first, left-next, left-last, rest_falls}
use Rattle.rows.proofs.RowEnds.{break_start, break_whole, start-on}
use Rattle.charset.proofs.Points.{none_else}
use Rattle.rows.proofs.scan_after.Goals as goal

pub loop-row-init : goal.loop-row-init
loop-row-init c = left-first _ c.requires c.with_row-facts.ensures

pub loop-row-smaller : goal.loop-row-smaller
loop-row-smaller c =
    let s = c.args.text.now in
    let start = c.unwrap_or.ensures ∙ ap (λ (a : Option ℕ). unwrap_or a c.in-Some.next) c.break_end-end.ensures ∙ break_start s c.args.paired c.in-Some.next in
    let on = start-on s c.args.paired c.in-Some.next in
    rw c.in-Some.is (rest_falls s c.unwrap_or.result c.in-Some.next c.scan_row-row.result.after c.scan_row-row.ensures.after (omega arith))

pub loop-row-preserved : goal.loop-row-preserved
loop-row-preserved c =
    let s = c.args.text.now in
    let start = c.unwrap_or.ensures ∙ ap (λ (a : Option ℕ). unwrap_or a c.in-Some.next) c.break_end-end.ensures ∙ break_start s c.args.paired c.in-Some.next in
    let whole = c.is_some-even.ensures ∙ ap (λ (a : Option ℕ). is_some a) c.break_end-end.ensures ∙ break_whole s c.args.paired c.in-Some.next in
    left-next c.loop-row.invariant c.in-Some.is start whole c.scan_row-row.ensures c.with_row-facts-in-Some.ensures

pub returns : goal.returns
returns c = left-last c.loop-row.invariant (none_else _ c.in_default.not-Some)
