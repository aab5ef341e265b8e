-- `lay_row` decodes a row into an array as long as the row limit, and lays the spans of what it holds.
-- Assumes nothing.
use mathlib.Core.Path.{refl}
use lib.ListN.{length-replicate}
use Rattle.std.specs.Prelude.{None}
use Rattle.meaning.specs.Rows.{row_limit}
use Rattle.cells.specs.declared.PackedCell.{PackedCell}
use Rattle.text.proofs.Laws.{row_laid}
use Rattle.text.proofs.RowsLaying.{row_done}
use Rattle.text.proofs.lay_row.Goals as goal

pub returns : goal.returns
returns c =
    row_done c.decode_row-row.ensures (length-replicate {A = PackedCell} row_limit (record { character = record { point = 0; mark = None }; look = 0 })) c.min.ensures
    (row_laid c.put_row-count.ensures c.after-body.ensures refl refl)
