-- `put_character` writes a character's code points: one, or two.
-- Assumes nothing.
use Rattle.charset.proofs.Points.{none_else}
use Rattle.text.proofs.Laws.{character_bare, character-marked}
use Rattle.text.proofs.put_character.Goals as goal

pub returns-in-Some : goal.returns-in-Some
returns-in-Some c = character-marked c.args.character c.put_escaped.ensures c.in-Some.is c.put_escaped-in-Some.ensures

pub returns-in_default : goal.returns-in_default
returns-in_default c = character_bare c.args.character c.put_escaped.ensures (none_else _ c.in_default.not-Some)
