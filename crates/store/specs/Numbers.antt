-- The numbers of a check, in their order, and the other way round.
-- Assumes nothing.
use Rattle.std.specs.Prelude.{ℕ, ◌+◌, ◌%◌, cond, List, [], ◌∷◌, Option, Some, None, eqb, get_or}
use Rattle.meaning.specs.declared.Time.{Time}
use Rattle.meaning.specs.declared.Header.{Header}
use Rattle.sets.specs.declared.Set.{Set}
use Rattle.text.specs.declared.Tally.{Tally}
use Rattle.checking.specs.declared.blocks.Pass.{Pass}
use Rattle.store.specs.declared.Phase.{Phase}
use Rattle.store.specs.declared.State.{State}
use Rattle.store.specs.Phases.{phase_number}

abbrev no_time : Time
no_time = record { hours = 0; minutes = 0; seconds = 0; frames = 0 }

-- the open set; where there is none, numbers that are not read
unfoldable pub set_in : Option Set → Set
set_in None =
    record {
      place = 0;
      first = record { sgn = 0; sn = 0; ebn = 0; cs = 0; tci = no_time; tco = no_time; vp = 0; jc = 0; cf = 0 };
      last = 0;
      size = 0;
    }
set_in (Some s) = s

-- 1 where a set is open
unfoldable pub open_number : Option Set → ℕ
open_number None = 0
open_number (Some s) = 1

unfoldable pub numbers_of : State → List ℕ
numbers_of s =
    let w = s.pass in
    let set = set_in w.sets.current in
    let h = set.first in
    phase_number s.phase
    ∷ s.mode
    ∷ s.room
    ∷ s.gsi
    ∷ s.part
    ∷ s.count
    ∷ w.refusal.number
    ∷ w.refusal.place
    ∷ w.refusal.offset
    ∷ w.sets.least
    ∷ open_number w.sets.current
    ∷ set.place
    ∷ h.sgn
    ∷ h.sn
    ∷ h.ebn
    ∷ h.cs
    ∷ h.tci.hours
    ∷ h.tci.minutes
    ∷ h.tci.seconds
    ∷ h.tci.frames
    ∷ h.tco.hours
    ∷ h.tco.minutes
    ∷ h.tco.seconds
    ∷ h.tco.frames
    ∷ h.vp
    ∷ h.jc
    ∷ h.cf
    ∷ set.last
    ∷ set.size
    ∷ w.counts.subtitles
    ∷ w.counts.comments
    ∷ w.counts.continuations
    ∷ w.counts.users
    ∷ s.tally.at
    ∷ s.tally.spans
    ∷ []

-- number i, and its lowest byte
abbrev pub number_at : List ℕ → ℕ → ℕ
number_at ns i = get_or ns i 0

abbrev pub byte_at : List ℕ → ℕ → ℕ
byte_at ns i = number_at ns i % 256

-- a time, from number i on
unfoldable pub time_from : List ℕ → ℕ → Time
time_from ns i = record { hours = byte_at ns i; minutes = byte_at ns (1 + i); seconds = byte_at ns (2 + i); frames = byte_at ns (3 + i) }

unfoldable pub header_from : List ℕ → Header
header_from ns =
    record {
      sgn = byte_at ns 12;
      sn = number_at ns 13 % 65536;
      ebn = byte_at ns 14;
      cs = byte_at ns 15;
      tci = time_from ns 16;
      tco = time_from ns 20;
      vp = byte_at ns 24;
      jc = byte_at ns 25;
      cf = byte_at ns 26;
    }

unfoldable pub set_from : List ℕ → Set
set_from ns = record { place = number_at ns 11; first = header_from ns; last = byte_at ns 27; size = number_at ns 28 }

unfoldable pub current_from : List ℕ → Option Set
current_from ns = cond (eqb (number_at ns 10) 1) (Some (set_from ns)) None

unfoldable pub pass_from : List ℕ → Pass
pass_from ns =
    record {
      refusal = record { number = number_at ns 6; place = number_at ns 7; offset = number_at ns 8 };
      sets = record { least = number_at ns 9 % 4294967296; current = current_from ns };
      counts = record { subtitles = number_at ns 29; comments = number_at ns 30; continuations = number_at ns 31; users = number_at ns 32 };
    }

unfoldable pub state_from : Phase → List ℕ → State
state_from phase ns =
    record {
      phase = phase;
      mode = number_at ns 1;
      room = number_at ns 2;
      gsi = number_at ns 3;
      part = number_at ns 4;
      count = number_at ns 5;
      pass = pass_from ns;
      tally = record { at = number_at ns 33; spans = number_at ns 34 };
    }

-- a check in another phase, with another count of bytes of the GSI block and of the block that is not whole yet, and after whole blocks
abbrev pub with_phase : State → Phase → State
with_phase s p = record s { phase = p }

abbrev pub with_gsi_size : State → ℕ → State
with_gsi_size s n = record s { gsi = n }

abbrev pub with_part_size : State → ℕ → State
with_part_size s n = record s { part = n }

abbrev pub with_pass : State → ℕ → Pass → Tally → State
with_pass s n w t = record s { part = 0; count = n; pass = w; tally = t }
