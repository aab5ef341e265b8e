-- `next` reads the row where the next one starts.
-- Assumes nothing.
use mathlib.Core.Path.{◌≡◌, ap}
use lib.ListN.{length}
use Rattle.std.proofs.Common.{rules}
use Rattle.rows.specs.Scanned.{row_at}
use Rattle.rows.specs.Places.{start_after}
use Rattle.rows.proofs.Placed.{places-none, places-more}
use Rattle.rows.proofs.RowPlacesIterator.next.Goals as goal

pub returns-in_err-at-clause-steps : goal.returns-in_err-at-clause-steps
returns-in_err-at-clause-steps c = let z = places-none c.args.self.now.text.now c.args.self.now.paired in search rules

pub returns-clause-steps : goal.returns-clause-steps
unfolding start_after row_at
returns-clause-steps c =
    let z = places-more c.args.self.now.text.now c.args.self.now.paired c.in_ok-at.at in
    let n : c.map-self.result ≡ start_after c.args.self.now.text.now c.args.self.now.paired c.in_ok-at.at = search rules in
    search rules

pub returns-clause-goes : goal.returns-clause-goes
returns-clause-goes c = let shorter = ap length (returns-clause-steps c) in search rules
