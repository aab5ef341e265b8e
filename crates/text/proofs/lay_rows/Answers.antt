use native.Mathlib.Omega.{arith}
use mathlib.Core.Path.{refl}
use Rattle.rows.proofs.TextLoop.{rest_falls}
use Rattle.rows.proofs.RowEnds.{start-on}
use Rattle.text.proofs.Laws.{break_laid, laid-spans}
use Rattle.text.proofs.RowsLaying.{rows_all, rows_less, rows_none}
use Rattle.text.proofs.lay_rows.Goals as goal

pub loop-row-init : goal.loop-row-init
loop-row-init c = rows_all _ _ _ c.lay_row-row.ensures

pub loop-row-smaller : goal.loop-row-smaller
loop-row-smaller c =
    rw c.in-Some.is
    (rest_falls c.args.text.now c.row_after-start.result c.in-Some.after _ c.lay_row-row-in-Some.ensures.after
    (omega (arith, c.row_after-start.ensures, start-on c.args.text.now c.args.paired c.in-Some.after)))

pub loop-row-preserved : goal.loop-row-preserved
loop-row-preserved c =
    let l = c.loop-row.invariant in
    rows_less _ _ _ l c.in-Some.is c.row_after-start.ensures
    (break_laid (laid-spans l.left.here) c.put_break.ensures (record { spans = refl; marks = refl; writer = refl; same = refl })) c.lay_row-row-in-Some.ensures c.capped_sum-rows.ensures

pub returns : goal.returns
returns c = rows_none _ _ _ c.loop-row.invariant c.in_default.is refl
