-- `answer` tests the rules 1 to 6, and tells what the walk told.
-- Assumes nothing.
use mathlib.Core.Path.{◌∙◌}
use mathlib.Core.List.{[]}
use Rattle.store.specs.Layout.{text_in}
use Rattle.streamed.proofs.Answers.{answered-broken, answered-walked}
use Rattle.streamed.proofs.check.StoredCheck.answer.Goals as goal

pub returns-in-Err : goal.returns-in-Err
returns-in-Err c =
    let k = c.args.self.now in
    answered-broken _ _ k.size k.sound c.field-gsi.ensures c.is_whole-whole.ensures c.gsi_rule.ensures c.in-Err.is c.answer_refused.ensures

pub returns : goal.returns
returns c =
    let k = c.args.self.now in
    answered-walked _ _ k.size k.sound c.field-gsi.ensures c.is_whole-whole.ensures c.gsi_rule.ensures c.in_default.is c.format.ensures
    (c.checked-checked.ensures (text_in c.args.self.now.store.now) [] ∙ rw c.marks.ensures) c.answer_of.ensures
