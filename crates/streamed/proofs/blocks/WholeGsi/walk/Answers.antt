-- `walk` hands whole blocks to the converter's own pass, with the parts of the store.
-- Assumes nothing.
use native.Mathlib.Omega.{arith}
use Prim.Native.Nat.{◌/◌}
use lib.ListN.{length}
use mathlib.Core.Path.{refl, ap, ◌∙◌}
use Rattle.std.proofs.Common.{rules}
use Rattle.meaning.specs.Blocks.{block_size}
use Rattle.meaning.specs.Gsi.{format_of}
use Rattle.streamed.proofs.Walking.{walk_done}
use Rattle.streamed.proofs.blocks.WholeGsi.walk.Goals as goal

pub invariant_of-self : goal.invariant_of-self
invariant_of-self c =
    let p = c.args.self.now in
    let w =
    walk_done _ _ p.size p.sound c.args.bytes.now (length c.args.bytes.now / block_size) _ refl p.gsi (c.format-f.ensures ∙ ap (format_of _) c.field.ensures) c.marks.ensures
    (omega (arith, c.min.ensures, c.saturating_sub.ensures)) c.check_more-pass.ensures.laid (search rules) (search rules) c.check_more-pass.auto.text c.put_flags.ensures (omega (arith, c.min-2.ensures, c.saturating_add.ensures)) c.tally-tally.ensures
    in
    record { size = w.size; phase = p.phase; sound = w.sound; gsi = p.gsi }

pub returns-clause-walked : goal.returns-clause-walked
returns-clause-walked c =
    let p = c.args.self.now in
    (walk_done _ _ p.size p.sound c.args.bytes.now _ _ refl p.gsi (c.format-f.ensures ∙ ap (format_of _) c.field.ensures) c.marks.ensures
    (omega (arith, c.min.ensures, c.saturating_sub.ensures)) c.check_more-pass.ensures.laid (search rules) (search rules) c.check_more-pass.auto.text c.put_flags.ensures (omega (arith, c.min-2.ensures, c.saturating_add.ensures)) c.tally-tally.ensures).check
