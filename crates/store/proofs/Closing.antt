-- A check is closed by its first number alone.
-- Assumes nothing.
use Prim.Native.Nat.{ℕ}
use native.Mathlib.Omega.{arith}
use mathlib.Core.Path.{◌≡◌, refl, ap, ap₂, ◌∙◌}
use mathlib.Core.Bool.{true}
use mathlib.Core.List.{List, [], ◌∷◌}
use Rattle.std.specs.Prelude.{Some}
use lib.ListN.{length, get_or, drop}
use borrow.Author.Tests.{eq-eqb}
use Rattle.std.proofs.lemmas.Bool.{and_from}
use Rattle.meaning.proofs.ListLaws.{All, nil, cons}
use Rattle.output.proofs.Laws.{length-stored}
use Rattle.words.specs.Words.{word_size, words_bytes, words}
use Rattle.words.proofs.Laws.{IsWord, words-kept, words-length}
use Rattle.feeding.specs.Feeding.{Check, close}
use Rattle.feeding.specs.Sound.{is_sound}
use Rattle.store.specs.declared.Phase.{Phase}
use Rattle.store.specs.declared.Phase.TheVariants.{Closed}
use Rattle.store.specs.declared.State.{State}
use Rattle.store.specs.Layout.{store_size, closed_phase, is_phase, numbers_in}
use Rattle.store.specs.Phases.{phase_number, phase_from, is_closed}
use Rattle.store.specs.Numbers.{number_at, time_from, header_from, set_from, current_from, pass_from, state_from, with_phase}
use Rattle.store.specs.Stores.{state_of, check_in, is_check, check_of, closed_store}
use Rattle.store.proofs.Phases.{closed_phase_is, closed-phase, phase_from-closed}
use Rattle.store.proofs.Places.{drop-after}
use Rattle.store.proofs.Checks.{check_front}
use Rattle.store.proofs.Stores.{check_size, check_sound, check_of_lem}

-- the first number is read before all others
other_numbers : (p q : Phase) (m n : ℕ) (ns : List ℕ) → state_from q (n ∷ ns) ≡ with_phase (state_from p (m ∷ ns)) q
unfolding state_from pass_from current_from set_from header_from time_from
other_numbers p q m n ns = refl

module _ (store : List ℕ) (size : length store ≡ store_size) where
  abbrev closed_now : List ℕ
  closed_now = closed_store store

  mark_words : All IsWord (closed_phase ∷ [])
  mark_words = let h : IsWord closed_phase = omega (arith, closed_phase_is) in cons h nil

  closed_numbers : numbers_in closed_now ≡ closed_phase ∷ words 34 (drop word_size store)
  unfolding words
  closed_numbers =
      ap₂ ◌∷◌
      (ap (λ (l : List ℕ). get_or l 0 0) (words-kept store (closed_phase ∷ []) (omega arith) mark_words))
      (ap (words 34) (drop-after store 0 (words_bytes (closed_phase ∷ [])) word_size (omega (arith, words-length (closed_phase ∷ [])))))

  closed_phase_now : phase_from (number_at (numbers_in closed_now) 0) ≡ Closed
  unfolding phase_number
  closed_phase_now = rw closed_numbers phase_from-closed

  pub close_state : state_of closed_now ≡ with_phase (state_of store) Closed
  unfolding words
  close_state =
      ap₂ state_from closed_phase_now closed_numbers
      ∙ other_numbers _ Closed _ closed_phase (words 34 (drop word_size store))

  pub close_check : check_in (state_of closed_now) closed_now ≡ close (check_in (state_of store) store)
  unfolding check_in is_closed
  close_check =
      ap (λ (t : State). check_in t closed_now) close_state
      ∙ check_front store (closed_phase ∷ []) (with_phase (state_of store) Closed) (omega arith)

  pub phase_closed : is_phase (number_at (numbers_in closed_now) 0) ≡ true
  phase_closed = rw closed_numbers closed-phase

-- nothing else is asked of a closed check
closed-sound : (c : Check) → is_sound (close c) ≡ is_sound c
unfolding is_sound
closed-sound c = refl

-- it stays the store of a check
module _ (store : List ℕ) (e : is_check store ≡ true) where
  pub close_is_check : is_check (closed_store store) ≡ true
  unfolding is_check
  close_is_check =
      let size = check_size store e in
      let closed_now = closed_store store in
      let c = check_in (state_of store) store in
      and_from _ _
      (and_from _ _
      (eq-eqb (length closed_now) store_size (length-stored store 0 (words_bytes (closed_phase ∷ [])) ∙ size))
      (phase_closed store size))
      (ap is_sound (close_check store size) ∙ closed-sound c ∙ check_sound store e)

  pub close_put : check_of (closed_store store) ≡ Some (close (check_in (state_of store) store))
  close_put = check_of_lem (closed_store store) close_is_check ∙ ap Some (close_check store (check_size store e))
