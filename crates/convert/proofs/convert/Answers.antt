-- `convert` keeps all three demands: the answer, the buffer, and the fewest spans.
-- Assumes nothing.
use native.Mathlib.Omega.{arith}
use Rattle.std.proofs.Common.{sym, ◌∙◌}
use Rattle.convert.proofs.Converting.{right_refused, right_written}
use Rattle.convert.proofs.convert.Goals as goal

pub returns-in-Ok : goal.returns-in-Ok
returns-in-Ok c =
    let r = right_written _ _ _ (λ i. omega (arith, c.type_inv.file i)) (sym c.in-Ok.is ∙ c.examine.ensures) c.write.ensures in
    record { answer = r.0; buffer = r.1.0; fewest = r.1.1 }

pub returns-in-Err : goal.returns-in-Err
returns-in-Err c =
    let r = right_refused _ _ _ (λ i. omega (arith, c.type_inv.file i)) (sym c.in-Err.is ∙ c.examine.ensures) c.from.ensures in
    record { answer = r.0; buffer = r.1.0; fewest = r.1.1 }
