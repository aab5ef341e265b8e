-- What is known of every value of a check's type: the range of each number.
-- Assumes nothing.
use native.Mathlib.Omega.{arith}
use mathlib.Core.List.{List}
use mir.Val.{Val}
use denote.Laws.{Is}
use denote.Struct.Declared as struct
use Rattle.meaning.specs.declared.Time.{Time}
use Rattle.meaning.specs.declared.Header.{Header}
use Rattle.meaning.specs.contracts.Time as time
use Rattle.meaning.specs.contracts.Header as header
use Rattle.sets.specs.declared.Set.{Set}
use Rattle.std.specs.contracts.option.Option as option
use Rattle.std.specs.Prelude.{Option, Some, None}
use Rattle.sets.specs.contracts.Set as set
use Rattle.checking.specs.declared.blocks.Pass.{Pass}
use Rattle.checking.specs.contracts.blocks.Pass as pass
use Rattle.words.proofs.Laws.{IsWord}
use Rattle.store.specs.declared.Phase.{Phase}
use Rattle.store.specs.declared.Phase.TheVariants.{Open, Closed, Other}
use Rattle.store.specs.declared.State.{State}
use Rattle.store.specs.Phases.{phase_number}
use Rattle.store.specs.Numbers.{set_in}
use Rattle.store.specs.contracts.Phase as phase
use Rattle.store.specs.contracts.State as state
use Rattle.store.proofs.Phases.{open_phase_is, closed_phase_is}
use Rattle.store.proofs.Ranges.{TimeRange, HeaderRange, SetRange, PassRange, InRange}

known_time : (t : Time) (vs : List Val) → Is (struct.row time.the_type) t vs → TimeRange t
known_time t vs k = record { hours = omega arith; minutes = omega arith; seconds = omega arith; frames = omega arith }

known-header : (h : Header) (vs : List Val) → Is (struct.row header.the_type) h vs → HeaderRange h
known-header h vs k =
    record {
      sgn = omega arith;
      sn = omega arith;
      ebn = omega arith;
      cs = omega arith;
      tci = known_time h.tci _ k.1.1.1.1.1.1.0;
      tco = known_time h.tco _ k.1.1.1.1.1.1.1.0;
      vp = omega arith;
      jc = omega arith;
      cf = omega arith;
    }

known-set : (s : Set) (vs : List Val) → Is (struct.row set.the_type) s vs → SetRange s
known-set s vs k = record { place = omega arith; first = known-header s.first _ k.1.1.1.0; last = omega arith; size = omega arith }

-- where no set is open, the numbers are 0
known-current : (c : Option Set) (vs : List Val) → Is (option.the_row set.the_row) c vs → SetRange (set_in c)
unfolding set_in
known-current None vs k = omega arith
known-current (Some s) vs k = known-set s _ k.1.1.1.1.0

pub known-pass : (w : Pass) (vs : List Val) → Is (struct.row pass.the_type) w vs → PassRange w
known-pass w vs k =
    record {
      number = omega arith;
      place = omega arith;
      offset = omega arith;
      least = omega arith;
      set = known-current w.sets.current _ k.1.1.1.0.1.1.1.0;
      subtitles = omega arith;
      comments = omega arith;
      continuations = omega arith;
      users = omega arith;
    }

-- a phase is a number of eight bytes
known-phase : (p : Phase) (vs : List Val) → Is phase.the_row p vs → IsWord (phase_number p)
unfolding phase_number
known-phase Open vs k = omega (arith, open_phase_is)
known-phase Closed vs k = omega (arith, closed_phase_is)
known-phase (Other n) vs k = omega arith

pub known_state : (s : State) (vs : List Val) → Is (struct.row state.the_type) s vs → InRange s
known_state s vs k =
    record {
      phase = known-phase s.phase _ k.1.1.0;
      mode = omega arith;
      room = omega arith;
      gsi = omega arith;
      part = omega arith;
      count = omega arith;
      pass = known-pass s.pass _ k.1.1.1.1.1.1.1.1.0;
      at = omega arith;
      spans = omega arith;
    }
