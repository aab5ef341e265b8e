use Rattle.charset.proofs.Points.{token_of}
use Rattle.charset.proofs.pair_token.Goals as goal

pub returns : goal.returns
returns c = token_of _ c.pair.ensures c.map_or.ensures
