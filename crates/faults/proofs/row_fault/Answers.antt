use native.Mathlib.Omega.{arith}
use mathlib.Core.Path.{ap}
use mathlib.Core.Logic.{inl}
use lib.ListN.{length}
use Rattle.std.specs.Prelude.{Some}
use Rattle.std.proofs.Common.{rules}
use Rattle.rows.proofs.Placed.{places_few}
use Rattle.faults.proofs.RowSearch.{numbered, rows_begin, turn_row, turn_left, rows-found, rows_on, rows_all, row_fault_lem, heights-even}
use Rattle.faults.proofs.row_fault.Goals as goal

pub loop-k-init-derived : goal.loop-k-init-derived
loop-k-init-derived c =
    let n = numbered c.into_iter-k-iterator.ensures.into_iter_gives c.enumerate-k-items.ensures.source c.enumerate-k-items.ensures.count c.new.ensures in
    let few = places_few c.args.text.bytes.now c.is_paired-paired.result (Some 0) in
    ((tt, tt, inl (omega (arith, few, ap length n.left, n.first, c.well_formed))), tt)

pub loop-k-init : goal.loop-k-init
loop-k-init c =
    let n = numbered c.into_iter-k-iterator.ensures.into_iter_gives c.enumerate-k-items.ensures.source c.enumerate-k-items.ensures.count c.new.ensures in
    let d = loop-k-init-derived c in
    (d.0, d.1, rows_begin n.left (omega (arith, n.first)) (heights-even _ _ c.is_double-double.ensures c.is_paired-paired.ensures c.requires))

pub returns-then-breaks_rows : goal.returns-then-breaks_rows
returns-then-breaks_rows c =
    let l = c.loop-k.invariant.2 in
    let e = c.in-Some.ensures.steps.0 in
    row_fault_lem _ _ _ c.is_double-double.ensures c.is_paired-paired.ensures
    (rows-found (turn_left l e) (turn_row l e) (search rules) c.if-breaks_rows.true c.row_name.ensures)

pub loop-k-preserved : goal.loop-k-preserved
loop-k-preserved c =
    let l = c.loop-k.invariant.2 in
    let e = c.in-Some.ensures.steps in
    let g = c.in-Some.ensures.goes.on c.loop-k.invariant.1 in
    (g.0, g.1, rw e.2 (rows_on l e.0 (search rules) c.if-breaks_rows.false (omega (arith, c.well_formed))))

pub returns : goal.returns
returns c =
    row_fault_lem _ _ _ c.is_double-double.ensures c.is_paired-paired.ensures (rows_all c.loop-k.invariant.2 c.in-None.ensures.steps.0.0)
