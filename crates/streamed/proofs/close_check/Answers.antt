-- `close_check` tells the answer, and closes an open check.
-- Assumes nothing.
use mathlib.Core.Path.{sym, ◌∙◌}
use Rattle.streamed.proofs.Calls.{closed_none, held-opened, held-other, closed-again, closed_now_lem}
use Rattle.streamed.proofs.close_check.Goals as goal

pub returns-in_default : goal.returns-in_default
returns-in_default c =
    let r = closed_none c.args.store.now (sym c.state_in.ensures ∙ c.in_default.is) c.answer_refused.ensures in
    record { answer = r.0; check = r.1.0; store = r.1.1 }

pub returns-then-eq : goal.returns-then-eq
returns-then-eq c =
    let v = sym c.state_in.ensures ∙ c.in-Some.is in
    let z = held-opened c.args.store.now v c.eq.ensures c.if-eq.true in
    let r = closed_now_lem c.args.store.now v z c.answer-answer.ensures c.from.ensures c.put_words.ensures in
    record { answer = r.0; check = r.1.0; store = r.1.1 }

pub returns-else-eq : goal.returns-else-eq
returns-else-eq c =
    let v = sym c.state_in.ensures ∙ c.in-Some.is in
    let z = held-other c.args.store.now v c.eq.ensures c.if-eq.false in
    let r = closed-again c.args.store.now v z c.answer-answer.ensures in
    record { answer = r.0; check = r.1.0; store = r.1.1 }
