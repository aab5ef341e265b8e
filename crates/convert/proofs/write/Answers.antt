-- `write` lays head, paragraphs and tail one after the other.
-- Assumes nothing.
use Rattle.std.proofs.Common.{rules}
use Rattle.convert.proofs.Converting.{document_written}
use Rattle.convert.proofs.write.Goals as goal

pub returns : goal.returns
returns c =
    document_written _ _ _ _ _ _ _ _ c.format-f.ensures c.block_count.ensures c.put_head.ensures (search rules) (search rules)
    c.write_blocks.ensures.laid (search rules) (search rules) c.put_tail.ensures (search rules) (search rules) (search rules)
