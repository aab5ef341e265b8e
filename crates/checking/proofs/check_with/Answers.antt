-- `check_with` passes all blocks of a file, measures over a buffer of no bytes, and keeps the marks.
-- Assumes nothing.
use Prim.Native.Nat.{ℕ}
use native.Mathlib.Omega.{arith}
use mathlib.Core.Path.{◌≡◌, ◌∙◌}
use mathlib.Core.Bool.{Bool}
use mathlib.Core.List.{List}
use Rattle.std.specs.Prelude.{Result}
use Rattle.std.proofs.Common.{rules}
use Rattle.meaning.specs.declared.Refusal.{Refusal}
use Rattle.meaning.specs.Refusals.{no_refusal}
use Rattle.meaning.specs.Walk.{no_counts, finish, Outcome}
use Rattle.text.specs.declared.Tally.{Tally}
use Rattle.closed.specs.Body.{Body, empty_body}
use Rattle.checking.specs.declared.Checked.{Checked}
use Rattle.checking.specs.declared.blocks.Pass.{Pass}
use Rattle.checking.specs.Passing.{begun_pass, outcome_of, checked_of}
use Rattle.checking.proofs.Stepping.{walk-passed}
use Rattle.checking.proofs.check_with.Goals as goal

-- what was measured, by what the buffers hold after it
measured :
    (n : ℕ) (w : Pass) (text out : List ℕ) {on marks : List Bool} {t tally : Tally} {o : Outcome Body} {r : Result Checked Refusal}
    → r ≡ checked_of (finish n (outcome_of w text (record { out = out; marks = on; tally = t }))) → on ≡ marks → t ≡ tally
    → outcome_of w text (record { out = out; marks = marks; tally = tally }) ≡ o → r ≡ checked_of (finish n o)
measured n w text out r e f g = r ∙ rw (e, f, g)

pub returns : goal.returns
unfolding no_refusal no_counts
returns c =
    let d : c.default.result ≡ begun_pass = search rules in
    let l = rw (d, c.new-writer.ensures.held, c.new-writer.ensures.at) at c.check_more-w.ensures.laid in
    measured _ _ _ _ (c.checked.ensures c.check_more-w.new.text c.check_more-w.new.body.writer.now.out.now) (search rules) c.tally-tally.ensures
    (walk-passed _ _ _ _ empty_body (omega (arith, c.ranges.n)) c.requires c.field-blocks.ensures l)
