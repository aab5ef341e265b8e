-- The range of each number of a check, as its type has it.
-- Assumes nothing.
use Prim.Native.Nat.{◌<◌}
use Rattle.meaning.specs.declared.Time.{Time}
use Rattle.meaning.specs.declared.Header.{Header}
use Rattle.sets.specs.declared.Set.{Set}
use Rattle.checking.specs.declared.blocks.Pass.{Pass}
use Rattle.words.proofs.Laws.{IsWord}
use Rattle.store.specs.declared.State.{State}
use Rattle.store.specs.Phases.{phase_number}
use Rattle.store.specs.Numbers.{set_in}

pub record TimeRange (t : Time) : Type 0 where
  pub hours : t.hours < 256
  pub minutes : t.minutes < 256
  pub seconds : t.seconds < 256
  pub frames : t.frames < 256

pub record HeaderRange (h : Header) : Type 0 where
  pub sgn : h.sgn < 256
  pub sn : h.sn < 65536
  pub ebn : h.ebn < 256
  pub cs : h.cs < 256
  pub tci : TimeRange h.tci
  pub tco : TimeRange h.tco
  pub vp : h.vp < 256
  pub jc : h.jc < 256
  pub cf : h.cf < 256

pub record SetRange (s : Set) : Type 0 where
  pub place : IsWord s.place
  pub first : HeaderRange s.first
  pub last : s.last < 256
  pub size : IsWord s.size

pub record PassRange (w : Pass) : Type 0 where
  pub number : IsWord w.refusal.number
  pub place : IsWord w.refusal.place
  pub offset : IsWord w.refusal.offset
  pub least : w.sets.least < 4294967296
  pub set : SetRange (set_in w.sets.current)
  pub subtitles : IsWord w.counts.subtitles
  pub comments : IsWord w.counts.comments
  pub continuations : IsWord w.counts.continuations
  pub users : IsWord w.counts.users

pub record InRange (s : State) : Type 0 where
  pub phase : IsWord (phase_number s.phase)
  pub mode : IsWord s.mode
  pub room : IsWord s.room
  pub gsi : IsWord s.gsi
  pub part : IsWord s.part
  pub count : IsWord s.count
  pub pass : PassRange s.pass
  pub at : IsWord s.tally.at
  pub spans : IsWord s.tally.spans
