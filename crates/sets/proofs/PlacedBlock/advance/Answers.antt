-- `advance` reads the header, and the text where it is needed.
-- Assumes nothing.
use Rattle.sets.proofs.Laws.{on-user, on-full, on-first, on-next}
use Rattle.sets.proofs.PlacedBlock.advance.Goals as goal

pub returns-then-is_user : goal.returns-then-is_user
returns-then-is_user c = on-user _ _ _ _ _ c.header-h.ensures c.is_user.ensures c.if-is_user.true

pub returns-then-not-has_room : goal.returns-then-not-has_room
returns-then-not-has_room c =
    on-full _ _ _ _ _ c.header-h.ensures c.is_user.ensures c.if-is_user.false c.text_of-part.ensures c.text_end-at.ensures c.has_room.ensures c.if-not-has_room.true

pub returns-in-None : goal.returns-in-None
returns-in-None c =
    on-first _ _ _ _ _ c.header-h.ensures c.is_user.ensures c.if-is_user.false c.text_of-part.ensures c.text_end-at.ensures c.has_room.ensures c.if-not-has_room.false c.put_bytes.ensures c.in-None.is _ c.opening.ensures

pub returns-in-Some : goal.returns-in-Some
returns-in-Some c =
    on-next _ _ _ _ _ c.header-h.ensures c.is_user.ensures c.if-is_user.false c.text_of-part.ensures c.text_end-at.ensures c.has_room.ensures c.if-not-has_room.false c.put_bytes.ensures c.in-Some.is _ c.continuing.ensures
