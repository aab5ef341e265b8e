-- `put_paragraph` lays a set as a paragraph: eleven writes.
-- Assumes nothing.
use Rattle.document.specs.Parts.{paragraph_for}
use Rattle.meaning.specs.Document.{write_paragraph}
use Rattle.meaning.specs.Lists.{joined, bytes}
use Rattle.output.proofs.Laws.{◌▸◌}
use Rattle.document.proofs.put_paragraph.Goals as goal

pub returns : goal.returns
unfolding paragraph_for write_paragraph joined bytes
returns c =
    record {
      wrote =
          c.put.ensures ▸ c.put_decimal.ensures ▸ c.put-2.ensures ▸ c.put_alignment.ensures ▸ c.put-3.ensures ▸ c.put_time.ensures
          ▸ c.put-4.ensures ▸ c.put_time-2.ensures ▸ c.put-5.ensures ▸ c.put_content.ensures.wrote ▸ c.put-6.ensures;
      spans = c.put_content.ensures.spans;
      marks = c.put_content.ensures.marks;
      writer = c.put_content.ensures.writer;
      same = c.put_content.ensures.same;
    }
