-- What a store stands for: a check, or none.
-- Assumes nothing.
use Rattle.std.specs.Prelude.{ℕ, Bool, true, false, ◌&&◌, List, [], ◌∷◌, Option, Some, None, eqb, length}
use Rattle.std.specs.Bool.{then_some}
use Rattle.meaning.specs.Lists.{field}
use Rattle.output.specs.Output.{stored}
use Rattle.words.specs.Words.{words_bytes}
use Rattle.checking.specs.Passing.{outcome_of}
use Rattle.feeding.specs.Feeding.{Check}
use Rattle.feeding.specs.Sound.{is_sound}
use Rattle.store.specs.declared.State.{State}
use Rattle.store.specs.Layout.{gsi_at, part_at, store_size, closed_phase, is_phase, numbers_in, marks_in, text_in}
use Rattle.store.specs.Phases.{phase_from, is_closed}
use Rattle.store.specs.Numbers.{number_at, state_from}

-- the numbers of a store
abbrev pub state_of : List ℕ → State
state_of store = state_from (phase_from (number_at (numbers_in store) 0)) (numbers_in store)

-- the check of some numbers, with the other parts of a store
unfoldable pub check_in : State → List ℕ → Check
check_in s store =
    record {
      mode = s.mode;
      room = s.room;
      gsi = field gsi_at s.gsi store;
      part = field part_at s.part store;
      count = s.count;
      outcome = outcome_of s.pass (text_in store) (record { out = []; marks = marks_in store; tally = s.tally });
      ended = is_closed s.phase;
    }

-- a store is that of a check by its length, its first number, and what holds of every check
unfoldable pub is_check : List ℕ → Bool
is_check store =
    eqb (length store) store_size
    && is_phase (number_at (numbers_in store) 0)
    && is_sound (check_in (state_of store) store)

unfoldable pub check_of : List ℕ → Option Check
check_of store = elim (is_check store) [ true ↦ Some (check_in (state_of store) store) | false ↦ None ]

-- the numbers of a store, if it is that of a check
abbrev pub state_in : List ℕ → Option State
state_in store = then_some (is_check store) (state_of store)

-- the store of a check that is closed: its first number is written anew
abbrev pub closed_store : List ℕ → List ℕ
closed_store store = stored store 0 (words_bytes (closed_phase ∷ []))
