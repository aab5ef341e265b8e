-- `code_token` gives the token of a code by itself: from A0h on by the Latin table.
-- Assumes nothing.
use mathlib.Core.Path.{sym, ◌∙◌}
use Rattle.charset.proofs.Codes.{upper_token}
use Rattle.charset.proofs.Points.{token_of}
use Rattle.charset.proofs.code_token.Goals as goal

pub returns : goal.returns
returns c = token_of _ c.upper.ensures c.map_or.ensures ∙ sym (upper_token _ c.if-c-lt160.false)
