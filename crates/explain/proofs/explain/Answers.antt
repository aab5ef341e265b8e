-- `explain` tells the refusal of the converter, where it stands in the file, and the byte there.
-- Assumes nothing.
use native.Mathlib.Omega.{arith}
use Rattle.explain.proofs.Reporting.{block-placed, reported, refusal_told}
use Rattle.explain.proofs.explain.Goals as goal

pub offset_in-offset-requires : goal.offset_in-offset-requires
offset_in-offset-requires c l h =
    let a = c.args in
    let e = refusal_told a.mode a.file.now a.room c.refusal.ensures c.err.ensures.value c.unwrap_or-r.ensures in
    omega (arith, block-placed a.mode a.file.now a.room e l h)

pub returns : goal.returns
returns c =
    let a = c.args in
    let e = refusal_told a.mode a.file.now a.room c.refusal.ensures c.err.ensures.value c.unwrap_or-r.ensures in
    let r = reported a.mode a.file.now a.room e c.offset_in-offset.ensures c.byte_at.ensures in
    record { reason = r.0; told = r.1 }
