-- Pass two: each set that closes is laid, and no rule over texts is asked. A block that breaks a rule is passed over, so that every file has
-- an answer; a file that pass one found good has no such block.
-- Assumes nothing.
use Rattle.std.specs.Prelude.{ℕ, zero, suc, List}
use Rattle.meaning.specs.declared.Format.{Format}
use Rattle.meaning.specs.Blocks.{block_at}
use Rattle.meaning.specs.Sets.{Assembly, no_blocks, Event, advance}
use Rattle.meaning.specs.Sets.Event.{broken, pending, closed}
use Rattle.sets.specs.declared.Sets.{Sets}
use Rattle.sets.specs.Assembling.{assembly_of}
use Rattle.closed.specs.Body.{Body, lay_set}

-- the sets so far, and what is laid
pub record Laying : Type 0 where
  pub assembly : Assembly
  pub body : Body

-- what a block brought is laid
unfoldable pub lay_event : Format → Laying → Event → Laying
lay_event f l (broken r) = l
lay_event f l (pending a) = record { assembly = a; body = l.body }
lay_event f l (closed s a) = record { assembly = a; body = lay_set f s l.body }

-- the first n blocks of a file, on a body
unfoldable pub lay_blocks : Format → List ℕ → Body → ℕ → Laying
lay_blocks f file p zero = record { assembly = no_blocks; body = p }
lay_blocks f file p (suc k) = (let l = lay_blocks f file p k in lay_event f l (advance f k (block_at file k) l.assembly))

-- the sets so far, with the text buffer, and what is laid
unfoldable pub laying_of : Sets → List ℕ → Body → Laying
laying_of s text p = record { assembly = assembly_of s text; body = p }
