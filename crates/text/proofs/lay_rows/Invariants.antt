-- `lay_rows` lays all rows, seen from those that are left.
-- Assumes nothing.
use lib.ListN.{length}
use Rattle.rows.proofs.TextLoop.{rest_of}
use Rattle.text.proofs.RowsLaying.{RowsLeft}
use Rattle.text.proofs.lay_rows.Given as goal

abbrev pub invariant-loop-row : goal.invariant-loop-row
invariant-loop-row l = RowsLeft l.text l.before l.paired l.fn.body l.body l.row l.rows

abbrev pub decreases-loop-row : goal.decreases-loop-row
decreases-loop-row l = rest_of (length l.text) l.row.after
