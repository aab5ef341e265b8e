-- What a store stands for after it is opened, fed and closed, and the answer: document 02, request 5.
-- Assumes nothing.
use Rattle.std.specs.Prelude.{ℕ, Bool, false, cond, not, List, Option, Some, None, eqb, length, replicate}
use Rattle.meaning.specs.declared.Answer.{Answer}
use Rattle.meaning.specs.Looks.{look_count}
use Rattle.output.specs.Output.{stored}
use Rattle.words.specs.Words.{words_bytes}
use Rattle.words.specs.Flags.{flags_bytes}
use Rattle.store.specs.declared.Phase.TheVariants.{Open}
use Rattle.checking.specs.Passing.{begun_pass}
use Rattle.feeding.specs.Feeding.{Check, opened, close}
use Rattle.lumps.specs.Lumps.{answer_now, feed}
use Rattle.store.specs.declared.State.{State}
use Rattle.store.specs.Layout.{marks_at, store_size}
use Rattle.store.specs.Numbers.{numbers_of}
use Rattle.store.specs.Stores.{check_of, closed_store}

-- the numbers of a check before the first lump
abbrev pub begun_state : ℕ → ℕ → State
begun_state mode room =
    record {
      phase = Open;
      mode = mode;
      room = room;
      gsi = 0;
      part = 0;
      count = 0;
      pass = begun_pass;
      tally = record { at = 0; spans = 0 };
    }

-- a store of some length is opened; of another length than that of a store it is none
unfoldable pub opened_in : ℕ → ℕ → ℕ → Option Check
opened_in size mode room = cond (eqb size store_size) (Some (opened mode room)) None

unfoldable pub fed_in : Option Check → List ℕ → Option Check
fed_in None lump = None
fed_in (Some c) lump = Some (feed c lump)

unfoldable pub closed_in : Option Check → Option Check
closed_in None = None
closed_in (Some c) = Some (close c)

-- the answer at the close; where there is no check, that of one opened with break mode 0
unfoldable pub answer_in : Option Check → Answer
answer_in None = answer_now (opened 0 0)
answer_in (Some c) = answer_now c

-- there is a check, and it is not closed
unfoldable pub is_running : Option Check → Bool
is_running None = false
is_running (Some c) = not c.ended

-- the store after it is opened: no look is in use, and the numbers are those of a check that has begun
unfoldable pub opened_store : ℕ → ℕ → List ℕ → List ℕ
opened_store mode room store =
    cond (eqb (length store) store_size)
    (stored (stored store marks_at (flags_bytes (replicate look_count false))) 0 (words_bytes (numbers_of (begun_state mode room))))
    store

-- and after it is closed: only its first number changes, and that only once
unfoldable pub store_closed : List ℕ → List ℕ
store_closed store = cond (is_running (check_of store)) (closed_store store) store
