-- `feed_check` feeds an open check.
-- Assumes nothing.
use mathlib.Core.Path.{sym, ◌∙◌}
use Rattle.std.proofs.Common.{rules}
use Rattle.streamed.proofs.Calls.{fed-none, held-open, held-closed, fed-closed, fed_open}
use Rattle.streamed.proofs.feed_check.Goals as goal

pub returns-in_default : goal.returns-in_default
returns-in_default c =
    let r = fed-none c.args.store.now c.args.lump.now (sym c.state_in.ensures ∙ c.in_default.is) in
    record { check = r.0; kept = r.1 }

pub returns-then-eq : goal.returns-then-eq
returns-then-eq c =
    let v = sym c.state_in.ensures ∙ c.in-Some.is in
    let r = fed-closed c.args.store.now v (held-closed c.args.store.now v c.eq.ensures c.if-eq.true) c.args.lump.now in
    record { check = r.0; kept = r.1 }

pub returns : goal.returns
returns c =
    let v = sym c.state_in.ensures ∙ c.in-Some.is in
    let z = held-open c.args.store.now v c.eq.ensures c.if-eq.false in
    record {
      check = (fed_open c.args.store.now v z c.args.lump.now c.feed.ensures.fed (search rules)).0;
      kept = (fed_open c.args.store.now v z c.args.lump.now c.feed.ensures.fed (search rules)).1;
    }
