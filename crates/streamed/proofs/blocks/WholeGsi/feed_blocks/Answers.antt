-- `feed_blocks` walks over whole blocks, and keeps the bytes of the next one.
-- Assumes nothing.
use native.Mathlib.Omega.{arith}
use Rattle.streamed.proofs.Feeding.{fed_then, part_fed, blocks_fed}
use Rattle.streamed.proofs.blocks.WholeGsi.feed_blocks.Goals as goal

pub returns-clause-fed : goal.returns-clause-fed
returns-clause-fed c =
    let p = c.args.self.now in
    let n = c.walk.new.self in
    let w = c.walk.ensures in
    let e = c.put_behind-self.ensures in
    fed_then _ c.args.bytes.now _ c.split_at.ensures.front c.split_at.ensures.back
    (blocks_fed _ _ p.size p.sound p.gsi c.requires c.split_at.result.0.now (omega (arith, c.split_at.ensures.front_len)) w.walked)
    (part_fed _ _ n.size n.sound n.gsi c.split_at.result.1.now (omega (arith, w.none_begun, c.split_at.ensures.back_len)) (omega (arith, w.none_begun, e.size)) (rw w.none_begun e.store))
