-- `write_block` lays the set that closes.
-- Assumes nothing.
use mathlib.Core.Path.{◌∙◌, ap}
use Rattle.std.proofs.Common.{Ok}
use Rattle.closed.proofs.Laying.{lays-nothing}
use Rattle.writing.proofs.Laws.{on-full, on-broken, on-pending, on-closed}
use Rattle.writing.proofs.write_block.Goals as goal

pub returns-in-Ok-Pending : goal.returns-in-Ok-Pending
returns-in-Ok-Pending c =
    lays-nothing (on-pending _ _ _ _ _ _ c.requires c.advance.ensures (c.in-Ok-Pending.is ∙ ap Ok c.in-Ok-Pending.field-0-is))

pub returns-in-Ok-Closed : goal.returns-in-Ok-Closed
returns-in-Ok-Closed c =
    record {
      laid = rw c.lay.ensures.laid (on-closed _ _ _ _ _ _ c.requires c.advance.ensures (c.in-Ok-Closed.is ∙ ap Ok c.in-Ok-Closed.field-0-is));
      buffers = c.lay.ensures.buffers;
    }

pub returns-in-Ok-NoRoom : goal.returns-in-Ok-NoRoom
returns-in-Ok-NoRoom c =
    lays-nothing (on-full _ _ _ _ _ _ c.requires c.advance.ensures (c.in-Ok-NoRoom.is ∙ ap Ok c.in-Ok-NoRoom.field-0-is))

pub returns-in-Err : goal.returns-in-Err
returns-in-Err c = lays-nothing (on-broken _ _ _ _ _ _ c.requires c.advance.ensures c.in-Err.is)
