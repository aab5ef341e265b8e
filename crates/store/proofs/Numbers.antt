-- The numbers of a check are those of its list, and they are read as they were written.
-- Assumes nothing.
use Prim.Native.Nat.{ℕ, ◌%◌, ◌<◌}
use native.Mathlib.Omega.{arith}
use mathlib.Core.Path.{◌≡◌, refl}
use mathlib.Core.Bool.{cond}
use mathlib.Core.Logic.{⊎_elim}
use mathlib.Core.List.{List, ◌∷◌}
use lib.Dec.{eqb}
use lib.ListN.{length}
use Rattle.std.proofs.Math.Nat.{mod-eq_of_lt}
use Rattle.meaning.specs.declared.Time.{Time}
use Rattle.meaning.specs.declared.Header.{Header}
use Rattle.meaning.proofs.ListLaws.{All, nil, cons}
use Rattle.words.proofs.Laws.{IsWord}
use Rattle.sets.specs.declared.Set.{Set}
use Rattle.std.specs.Prelude.{Option, Some, None}
use Rattle.store.specs.declared.Phase.{Phase}
use Rattle.store.specs.declared.State.{State}
use Rattle.store.specs.Layout.{number_count}
use Rattle.store.specs.Numbers.{set_in, open_number, numbers_of, time_from, header_from, set_from, current_from, pass_from, state_from}
use Rattle.store.specs.Phases.{phase_number}
use Rattle.store.proofs.Phases.{IsCheckPhase, open_phase_is, closed_phase_is}
use Rattle.store.proofs.Ranges.{TimeRange, HeaderRange, SetRange, InRange}

pub numbers_length : (s : State) → length (numbers_of s) ≡ number_count
unfolding numbers_of
numbers_length s = refl

-- the parts of a check with their numbers cut as a reading cuts them
abbrev cut_time : Time → Time
cut_time t = record { hours = t.hours % 256; minutes = t.minutes % 256; seconds = t.seconds % 256; frames = t.frames % 256 }

abbrev cut_header : Header → Header
cut_header h =
    record {
      sgn = h.sgn % 256;
      sn = h.sn % 65536;
      ebn = h.ebn % 256;
      cs = h.cs % 256;
      tci = cut_time h.tci;
      tco = cut_time h.tco;
      vp = h.vp % 256;
      jc = h.jc % 256;
      cf = h.cf % 256;
    }

abbrev cut_set : Set → Set
cut_set s = record { place = s.place; first = cut_header s.first; last = s.last % 256; size = s.size }

time_back : (t : Time) → TimeRange t → cut_time t ≡ t
time_back t r = rw (mod-eq_of_lt r.hours, mod-eq_of_lt r.minutes, mod-eq_of_lt r.seconds, mod-eq_of_lt r.frames)

header_back : (h : Header) → HeaderRange h → cut_header h ≡ h
header_back h r =
    rw (
      mod-eq_of_lt r.sgn,
      mod-eq_of_lt r.sn,
      mod-eq_of_lt r.ebn,
      mod-eq_of_lt r.cs,
      time_back h.tci r.tci,
      time_back h.tco r.tco,
      mod-eq_of_lt r.vp,
      mod-eq_of_lt r.jc,
      mod-eq_of_lt r.cf,
    )

current_back : (c : Option Set) → SetRange (set_in c) → cond (eqb (open_number c) 1) (Some (cut_set (set_in c))) None ≡ c
unfolding set_in open_number
current_back None r = refl
current_back (Some s) r = rw (header_back s.first r.first, mod-eq_of_lt r.last)

-- a check is told by its numbers
pub numbers_back : (s : State) → InRange s → state_from s.phase (numbers_of s) ≡ s
unfolding numbers_of state_from pass_from current_from set_from header_from time_from
numbers_back s r = rw (current_back s.pass.sets.current r.pass.set, mod-eq_of_lt r.pass.least)

-- the two phases, and 0 and 1, are numbers of eight bytes
pub phase_word : (p : Phase) → IsCheckPhase p → IsWord (phase_number p)
unfolding phase_number
phase_word p h = ⊎_elim (λ o. rw o (omega (arith, open_phase_is))) (λ c. rw c (omega (arith, closed_phase_is))) h

open_word : (c : Option Set) → IsWord (open_number c)
unfolding open_number
open_word None = omega arith
open_word (Some s) = omega arith

byte_word : (n : ℕ) → n < 256 → IsWord n
byte_word n h = omega arith

time_words : {t : Time} {ns : List ℕ} → TimeRange t → All IsWord ns → All IsWord (t.hours ∷ t.minutes ∷ t.seconds ∷ t.frames ∷ ns)
time_words r h = cons (byte_word _ r.hours) (cons (byte_word _ r.minutes) (cons (byte_word _ r.seconds) (cons (byte_word _ r.frames) h)))

-- each fits in eight bytes
pub numbers_words : (s : State) → InRange s → All IsWord (numbers_of s)
unfolding numbers_of
numbers_words s r =
    let w = r.pass in
    let h = w.set.first in
    let least : IsWord s.pass.sets.least = omega (arith, w.least) in
    let sn : IsWord (set_in s.pass.sets.current).first.sn = omega (arith, h.sn) in
    cons r.phase (cons r.mode (cons r.room (cons r.gsi (cons r.part (cons r.count
    (cons w.number (cons w.place (cons w.offset (cons least (cons (open_word _)
    (cons w.set.place (cons (byte_word _ h.sgn) (cons sn (cons (byte_word _ h.ebn) (cons (byte_word _ h.cs)
    (time_words h.tci (time_words h.tco
    (cons (byte_word _ h.vp) (cons (byte_word _ h.jc) (cons (byte_word _ h.cf) (cons (byte_word _ w.set.last) (cons w.set.size
    (cons w.subtitles (cons w.comments (cons w.continuations (cons w.users (cons r.at (cons r.spans nil))))))))))))))))))))))))))))
