-- What the state of the assembly stands for, with the text buffer, and the step that a block makes.
-- Assumes nothing.
use Rattle.std.specs.Prelude.{◌≡◌, ℕ, ◌+◌, ◌*◌, min, Bool, cond, not, ◌&&◌, ◌||◌, List, leb, length, take, Option, Some, None, Result, Ok, Err}
use Rattle.std.proofs.Math.Option as math
use Rattle.std.proofs.Math.Option.{none, some}
use Rattle.meaning.specs.declared.Refusal.{Refusal}
use Rattle.meaning.specs.declared.Format.{Format}
use Rattle.meaning.specs.Blocks.{text_size, header_of, block_text}
use Rattle.meaning.specs.Sets.{BlockSet, Assembly, Event, numbered_blocks, is_user, advance}
use Rattle.meaning.specs.Sets.Event.{broken, pending, closed}
use Rattle.output.specs.Output.{stored}
use Rattle.sets.specs.declared.Set.{Set}
use Rattle.sets.specs.declared.Sets.{Sets}
use Rattle.sets.specs.declared.Step.{Step}
use Rattle.sets.specs.declared.Step.TheVariants.{NoRoom, Pending, Closed}

-- a set with its text
unfoldable pub set_with : Set → List ℕ → BlockSet
set_with s text = record { place = s.place; first = s.first; last = s.last; text = text }

-- its text stands at the front of the text buffer
unfoldable pub set_of : Set → List ℕ → BlockSet
set_of s text = set_with s (take s.size text)

unfoldable pub current_of : Option Set → List ℕ → math.Option BlockSet
current_of None text = none
current_of (Some s) text = some (set_of s text)

unfoldable pub assembly_of : Sets → List ℕ → Assembly
assembly_of s text = record { least = s.least; current = current_of s.current text }

-- the sets before the first block
abbrev pub no_sets : Sets
no_sets = record { least = 0; current = None }

-- what a step brought, with the text buffer after it, if there was room
unfoldable pub event_of : Result Step Refusal → List ℕ → math.Option Event
event_of (Err r) text = some (broken r)
event_of (Ok NoRoom) text = none
event_of (Ok (Pending s)) text = some (pending (assembly_of s text))
event_of (Ok (Closed c s)) text = some (closed (set_of c text) (assembly_of s text))

-- where a block's text goes: behind that of the open set, or to the front
unfoldable pub text_end : Option Set → ℕ
text_end None = 0
text_end (Some s) = s.size

-- a text buffer has room for a block's text; user data needs none
unfoldable pub has_room : List ℕ → Sets → List ℕ → Bool
has_room b s text = is_user (header_of b) || leb (text_end s.current + length (block_text b)) (length text)

-- the room that is enough for n blocks: no set has more than the numbered blocks and the last
abbrev pub room_for : ℕ → ℕ
room_for n = min n (numbered_blocks + 1) * text_size

-- the size of the text with a block's text; user data adds nothing
unfoldable pub size_after : List ℕ → Sets → ℕ
size_after b s = cond (is_user (header_of b)) (text_end s.current) (text_end s.current + length (block_text b))

-- the other way: a size stands for the text
unfoldable pub sized_set : ℕ → BlockSet → Set
sized_set n s = record { place = s.place; first = s.first; last = s.last; size = n }

unfoldable pub sized_current : ℕ → math.Option BlockSet → Option Set
sized_current n none = None
sized_current n (some s) = Some (sized_set n s)

unfoldable pub sized_sets : ℕ → Assembly → Sets
sized_sets n a = record { least = a.least; current = sized_current n a.current }

unfoldable pub step_of : ℕ → Event → Result Step Refusal
step_of n (broken r) = Err r
step_of n (pending a) = Ok (Pending (sized_sets n a))
step_of n (closed s a) = Ok (Closed (sized_set n s) (sized_sets n a))

-- the step that a block makes: what it brings, if there is room
unfoldable pub step_in : Format → ℕ → List ℕ → Sets → List ℕ → Result Step Refusal
step_in f place b s text = cond (has_room b s text) (step_of (size_after b s) (advance f place b (assembly_of s text))) (Ok NoRoom)

-- the text buffer after a block
unfoldable pub text_after : List ℕ → Sets → List ℕ → List ℕ
text_after b s text = cond (has_room b s text && not (is_user (header_of b))) (stored text (text_end s.current) (block_text b)) text

-- what a block does: the step that it makes, and the text buffer after it
pub record Advances (f : Format) (place : ℕ) (b : List ℕ) (s : Sets) (buf : List ℕ) (r : Result Step Refusal) (buf' : List ℕ) : Type 0 where
  pub step : r ≡ step_in f place b s buf
  pub text : buf' ≡ text_after b s buf
