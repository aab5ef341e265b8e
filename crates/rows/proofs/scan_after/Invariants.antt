-- `scan_after` gathers the facts of all rows; the loop is seen from the rows that are left.
-- Assumes nothing.
use lib.ListN.{length}
use Rattle.rows.proofs.TextLoop.{TextLeft, rest_of}
use Rattle.rows.proofs.scan_after.Given as goal

abbrev pub invariant-loop-row : goal.invariant-loop-row
invariant-loop-row l = TextLeft l.teletext l.text l.paired l.facts l.even l.row.after

abbrev pub decreases-loop-row : goal.decreases-loop-row
decreases-loop-row l = rest_of (length l.text) l.row.after
