-- `row_fault` looks for the first row that breaks rule 15.
-- Assumes nothing.
use Prim.Native.Nat.{◌+◌}
use Rattle.rows.specs.PlacesLeft.{places_left}
use Rattle.faults.proofs.RowSearch.{RowsTo}
use Rattle.faults.proofs.row_fault.Given as goal

abbrev pub invariant-loop-k : goal.invariant-loop-k
invariant-loop-k l =
    (goal.iterator-loop-k).can_next l.k-iterator × (goal.iterator-loop-k).is_finite l.k-iterator
    × RowsTo l.text.f l.text.vp l.double l.paired l.text.bytes.now (places_left l.k-iterator.iter) (l.k-iterator.count + 1)
