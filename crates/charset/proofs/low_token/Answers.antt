-- `low_token` gives the token of a code below A0h by itself. What is plain is neither the row end nor a control nor a switch,
-- so that the order of the tests is free.
-- Assumes nothing.
use Rattle.meaning.specs.Glyphs.{single}
use Rattle.meaning.specs.Codes.{code_token, is_control, is_switch, character_of}
use Rattle.meaning.specs.Characters.{latin}
use Rattle.meaning.specs.Tables.{latin_table}
use Rattle.charset.proofs.low_token.Goals as goal

pub returns-in-36 : goal.returns-in-36
unfolding code_token is_control is_switch character_of single latin latin_table
returns-in-36 c = rw (c.single-in-36.ensures, c.in-36.is)

pub returns-in-138 : goal.returns-in-138
unfolding code_token
returns-in-138 c = rw c.in-138.is
