-- What a store stands for: the check whose numbers were written, or none.
-- Assumes nothing.
use Prim.Native.Nat.{ℕ, ◌≤◌}
use native.Mathlib.Omega.{arith}
use mathlib.Core.Path.{◌≡◌, refl, ap, ◌∙◌}
use mathlib.Core.Bool.{true, false, ◌&&◌}
use mathlib.Core.List.{List}
use Rattle.std.specs.Prelude.{Some, None}
use lib.Dec.{eqb}
use lib.ListN.{length}
use borrow.Author.Tests.{eq-eqb, eqb-true}
use Rattle.std.proofs.lemmas.Bool.{and_parts}
use Rattle.output.specs.Output.{stored}
use Rattle.output.proofs.Laws.{length-stored}
use Rattle.words.specs.Words.{words_bytes}
use Rattle.words.proofs.Laws.{words-kept}
use Rattle.feeding.specs.Feeding.{Check}
use Rattle.feeding.specs.Sound.{is_sound}
use Rattle.store.specs.declared.State.{State}
use Rattle.store.specs.Layout.{store_size, is_phase, numbers_in}
use Rattle.store.specs.Phases.{phase_number, phase_from}
use Rattle.store.specs.Numbers.{number_at, numbers_of, state_from, with_phase}
use Rattle.store.specs.Stores.{state_of, check_in, is_check, check_of}
use Rattle.store.proofs.Ranges.{InRange}
use Rattle.store.proofs.Numbers.{numbers_back, numbers_words}
use Rattle.store.proofs.Phases.{IsCheckPhase, phase_from-number, is_closed-from}
use Rattle.store.proofs.Checks.{check_put}

-- the numbers that were written are read, and the phase is the one that its number tells
module _ (store : List ℕ) (s : State) (h : store_size ≤ length store) (r : InRange s) where
  state_written : state_of (stored store 0 (words_bytes (numbers_of s))) ≡ with_phase s (phase_from (phase_number s.phase))
  unfolding numbers_of state_from
  state_written =
      let p = phase_from (phase_number s.phase) in
      ap (λ (ns : List ℕ). state_from (phase_from (number_at ns 0)) ns) (words-kept store (numbers_of s) (omega arith) (numbers_words s r))
      ∙ ap (λ (t : State). with_phase t p) (numbers_back s r)

  pub state_told : phase_from (phase_number s.phase) ≡ s.phase → state_of (stored store 0 (words_bytes (numbers_of s))) ≡ s
  state_told e = state_written ∙ ap (with_phase s) e

-- of a check the numbers that were written are read
pub state_put :
    (store : List ℕ) (s : State) → store_size ≤ length store → InRange s → IsCheckPhase s.phase
    → state_of (stored store 0 (words_bytes (numbers_of s))) ≡ s
state_put store s h r p = state_told store s h r (phase_from-number s.phase p)

-- what is known of the store of a check
module _ (store : List ℕ) (e : is_check store ≡ true) where
  abbrev held : Check
  held = check_in (state_of store) store

  pub check_sound : is_sound held ≡ true
  unfolding is_check
  check_sound = (and_parts (eqb (length store) store_size && is_phase (number_at (numbers_in store) 0)) (is_sound held) e).1

  front-tested : (eqb (length store) store_size && is_phase (number_at (numbers_in store) 0)) ≡ true
  unfolding is_check
  front-tested = (and_parts (eqb (length store) store_size && is_phase (number_at (numbers_in store) 0)) (is_sound held) e).0

  pub check_size : length store ≡ store_size
  check_size = eqb-true (length store) store_size (and_parts (eqb (length store) store_size) (is_phase (number_at (numbers_in store) 0)) front-tested).0

  pub check_phase : is_phase (number_at (numbers_in store) 0) ≡ true
  check_phase = (and_parts (eqb (length store) store_size) (is_phase (number_at (numbers_in store) 0)) front-tested).1

pub check_of_lem : (store : List ℕ) → is_check store ≡ true → check_of store ≡ Some (check_in (state_of store) store)
unfolding check_of
check_of_lem store e = rw (e, check_of)

pub check_none : (store : List ℕ) → is_check store ≡ false → check_of store ≡ None
unfolding check_of
check_none store e = rw (e, check_of)

-- a check that was saved is the check of its store
module _ (store : List ℕ) (s : State) (size : length store ≡ store_size) (r : InRange s) where
  abbrev saved : List ℕ
  saved = stored store 0 (words_bytes (numbers_of s))

  -- whether a check is closed is told by the number of its phase
  same_phase : check_in (with_phase s (phase_from (phase_number s.phase))) store ≡ check_in s store
  unfolding check_in
  same_phase = rw (is_closed-from s.phase) refl

  check_in_saved : check_in (state_of saved) saved ≡ check_in s store
  check_in_saved =
      ap (λ (t : State). check_in t saved) (state_written store s (omega arith) r)
      ∙ check_put store s (with_phase s (phase_from (phase_number s.phase)))
      ∙ same_phase

  module _ (p : is_phase (phase_number s.phase) ≡ true) (k : is_sound (check_in s store) ≡ true) where
    phase_saved : is_phase (number_at (numbers_in saved) 0) ≡ true
    unfolding numbers_of
    phase_saved = rw (words-kept store (numbers_of s) (omega arith) (numbers_words s r)) p

    pub is_check_saved : is_check saved ≡ true
    unfolding is_check
    is_check_saved =
        rw (eq-eqb (length saved) store_size (length-stored store 0 (words_bytes (numbers_of s)) ∙ size), phase_saved, check_in_saved, k)

    pub check_saved : check_of saved ≡ Some (check_in s store)
    check_saved = check_of_lem saved is_check_saved ∙ ap Some check_in_saved
