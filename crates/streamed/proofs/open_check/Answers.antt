-- `open_check` clears the looks in use, and writes the numbers of a check that has begun.
-- Assumes nothing.
use borrow.Author.Tests.{ne_eqb}
use Rattle.store.specs.Layout.{store_size}
use Rattle.store.proofs.Known.{known_state}
use Rattle.streamed.proofs.Calls.{opened-none, opened_now}
use Rattle.streamed.proofs.open_check.Goals as goal

pub returns-then-store-ne-SIZE : goal.returns-then-store-ne-SIZE
returns-then-store-ne-SIZE c =
    let r = opened-none c.args.store.now c.args.mode c.args.room (ne_eqb _ store_size c.if-store-ne-SIZE.true) in
    record { check = r.0; store = r.1 }

pub returns : goal.returns
returns c =
    let r = opened_now c.args.store.now c.args.mode c.args.room c.if-store-ne-SIZE.false c.begun.ensures (known_state _ _ c.begun.type_inv) c.put_flags.ensures c.put_state.ensures in
    record { check = r.0; store = r.1 }
