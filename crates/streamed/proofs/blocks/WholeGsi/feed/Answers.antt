-- `feed` fills up the block that is begun, and goes on with whole ones.
-- Assumes nothing.
use Rattle.streamed.proofs.Feeding.{fed_then}
use Rattle.streamed.proofs.blocks.WholeGsi.feed.Goals as goal

pub returns-clause-fed : goal.returns-clause-fed
returns-clause-fed c = fed_then _ c.args.bytes.now _ c.split_at.ensures.front c.split_at.ensures.back c.feed_block.ensures.fed c.feed_blocks.ensures.fed
