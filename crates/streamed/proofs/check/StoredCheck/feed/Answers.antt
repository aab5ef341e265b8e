-- `feed` fills up the GSI block, and goes on with the blocks.
-- Assumes nothing.
use native.Mathlib.Omega.{arith}
use Rattle.std.proofs.Common.{rules}
use Rattle.streamed.specs.Stored.{check_of_it}
use Rattle.streamed.proofs.Sound.{gsi_low}
use Rattle.streamed.proofs.Feeding.{fed_then, gsi_fed}
use Rattle.streamed.proofs.check.StoredCheck.feed.Goals as goal

pub returns-clause-fed : goal.returns-clause-fed
returns-clause-fed c =
    let k = c.args.self.now in
    let e = c.put_behind-self-2.ensures in
    fed_then (check_of_it k) c.args.lump.now _ c.split_at.ensures.front c.split_at.ensures.back
    (gsi_fed _ _ k.size k.sound c.split_at.result.0.now (omega (arith, gsi_low k.state k.sound, c.split_at.ensures.front_len)) e.size e.store)
    (search rules)
