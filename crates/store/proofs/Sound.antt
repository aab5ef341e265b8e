-- The test of a check, asked of its numbers alone: in a store of the right size it tells the same.
-- Assumes nothing.
use Prim.Native.Nat.{ℕ, suc, ◌+◌, ◌-◌, ◌≤◌, min}
use native.Mathlib.Omega.{arith}
use mathlib.Core.Path.{◌≡◌, refl, sym, ap, ap₂, ◌∙◌}
use mathlib.Core.Bool.{Bool, true, ◌&&◌}
use mathlib.Core.List.{List, []}
use lib.Dec.{eqb}
use lib.ListN.{length, drop, length-take, length-drop}
use borrow.Author.Tests.{eq-eqb, ne_eqb, eqb-true, eqb-false}
use Rattle.meaning.specs.Lists.{field}
use Rattle.meaning.specs.Refusals.{is_good}
use Rattle.meaning.specs.Blocks.{gsi_size, block_size}
use Rattle.meaning.specs.Walk.{total}
use Rattle.meaning.proofs.Logic.{by_test, same_leb}
use Rattle.output.specs.Output.{past}
use Rattle.std.specs.Prelude.{Option, Some, None, cond}
use Rattle.std.specs.Bool.{then_some}
use Rattle.std.proofs.lemmas.Option.{none-some, cond_some}
use Rattle.sets.specs.declared.Set.{Set}
use Rattle.closed.specs.Body.{Body}
use Rattle.sets.specs.Assembling.{set_with, set_of, current_of, assembly_of}
use Rattle.checking.specs.declared.blocks.Pass.{Pass}
use Rattle.checking.specs.Passing.{outcome_of}
use Rattle.meaning.specs.Gsi.{most_blocks}
use Rattle.feeding.specs.Sound.{is_short_so_far, is_within, is_sound}
use Rattle.store.specs.declared.Phase.{Phase}
use Rattle.store.specs.declared.State.{State}
use Rattle.store.specs.Layout.{gsi_at, part_at, text_at, text_room, store_size, is_phase, numbers_in, marks_in}
use Rattle.store.specs.Phases.{phase_number, phase_from, phase_in}
use Rattle.store.specs.Numbers.{number_at, state_from}
use Rattle.store.specs.Stores.{state_in, state_of, check_in, is_check}
use Rattle.store.specs.Tests.{is_short_set, is_short_current, is_pass_over, is_sound_state, is_check_by}
use Rattle.store.proofs.Phases.{phase_number-from}

pub same_eqb : (a b c d : ℕ) → (c ≡ d → a ≡ b) → (a ≡ b → c ≡ d) → eqb a b ≡ eqb c d
same_eqb a b c d f g =
    by_test (eqb c d)
    (λ e. eq-eqb a b (f (eqb-true c d e)) ∙ sym e)
    (λ e. ne_eqb a b (λ z. eqb-false c d e (g z)) ∙ sym e)

-- a sum that stays at the largest number is a small one only where the sum itself is
same_sum : (t n : ℕ) → n ≤ most_blocks → eqb t n ≡ eqb (past 0 t) n
unfolding past
same_sum t n h = same_eqb t n (min (0 + t) 18446744073709551615) n (λ e. omega arith) (λ e. omega arith)

short-current : (n : ℕ) (c : Option Set) (text : List ℕ) → length text ≡ text_room → is_short_so_far n (current_of c text) ≡ is_short_current n c
unfolding is_short_so_far is_short_current is_short_set current_of set_of set_with
short-current n None text l = refl
short-current n (Some s) text l = rw (length-take s.size text, l)

pass-over : (n : ℕ) (w : Pass) (text : List ℕ) (body : Body) → n ≤ most_blocks → length text ≡ text_room
    → is_within n (outcome_of w text body) ≡ is_pass_over n w
unfolding is_within is_pass_over outcome_of assembly_of
pass-over n w text body h l =
    by_test (is_good w.refusal)
    (λ e. rw (e, outcome_of, same_sum (total w.counts) n h, short-current n w.sets.current text l))
    (λ e. rw (e, outcome_of))

module _ (store : List ℕ) (size : length store ≡ store_size) (s : State) where
  field-length : (from n : ℕ) → length (field from n store) ≡ min n (store_size - from)
  unfolding field
  field-length from n = simp (length-take, length-drop) (rw size)

  pub sound_state : is_sound (check_in s store) ≡ is_sound_state s
  unfolding is_sound is_sound_state check_in
  sound_state =
      let g = length (field gsi_at s.gsi store) in
      let p = length (field part_at s.part store) in
      let a : g ≡ min s.gsi (store_size - gsi_at) = field-length gsi_at s.gsi in
      let b : p ≡ min s.part (store_size - part_at) = field-length part_at s.part in
      rw (
        same_leb g gsi_size s.gsi gsi_size (λ h. omega arith) (λ h. omega arith),
        same_leb (suc p) block_size (suc s.part) block_size (λ h. omega arith) (λ h. omega arith),
        same_leb gsi_size g gsi_size s.gsi (λ h. omega arith) (λ h. omega arith),
        same_eqb p 0 s.part 0 (λ h. omega arith) (λ h. omega arith),
        pass-over (min s.count most_blocks) s.pass (drop text_at store) (record { out = []; marks = marks_in store; tally = s.tally }) (omega arith) (length-drop text_at store ∙ rw size),
      )

-- the phase of a store's numbers has its first number
pub first_number : (store : List ℕ) {s : State} → s ≡ state_of store → phase_number s.phase ≡ number_at (numbers_in store) 0
unfolding state_from
first_number store e = ap (λ (t : State). phase_number t.phase) e ∙ phase_number-from (number_at (numbers_in store) 0)

-- a store is that of a check by its size and its numbers
pub check_tested : (store : List ℕ) {s : State} {b : Bool} → s ≡ state_of store → b ≡ is_check_by (length store) s → b ≡ is_check store
unfolding is_check is_check_by
check_tested store {s} e d =
    let n = number_at (numbers_in store) 0 in
    d ∙
    by_test (eqb (length store) store_size)
    (λ t.
    let z : is_sound (check_in s store) ≡ is_sound_state s = sound_state store (eqb-true (length store) store_size t) s in
    rw (t, first_number store e) (ap (λ (b : Bool). is_phase n && b) (sym z ∙ ap (λ (t : State). is_sound (check_in t store)) e)))
    (λ t. rw t refl)

pub state_tested : (store : List ℕ) {s : State} {b : Bool} → s ≡ state_of store → b ≡ is_check_by (length store) s → then_some b s ≡ state_in store
state_tested store e d = ap₂ then_some (check_tested store e d) e

-- a store of another size is that of none
pub other_size : (store : List ℕ) → ¬ length store ≡ store_size → None ≡ state_in store
unfolding is_check
other_size store h = rw (ne_eqb (length store) store_size h) refl

-- a store is that of a check by its first number, its size and the other numbers
module _ (store : List ℕ) {n : ℕ} (e : n ≡ number_at (numbers_in store) 0) where
  phase_is : is_phase n ≡ is_phase (number_at (numbers_in store) 0)
  phase_is = ap is_phase e

  pub state_none : phase_in n ≡ None → None ≡ state_in store
  unfolding phase_in is_check
  state_none f =
      by_test (is_phase n)
      (λ t. absurd (none-some (phase_from n) (sym f ∙ ap (λ (b : Bool). cond b (Some (phase_from n)) None) t)))
      (λ t. by_test (eqb (length store) store_size) (λ u. rw (u, sym phase_is ∙ t) refl) (λ u. rw u refl))

  tested : {b : Bool} → is_phase n ≡ true → b ≡ (eqb (length store) store_size && is_sound_state (state_of store)) → b ≡ is_check store
  unfolding is_check
  tested p d =
      d ∙
      by_test (eqb (length store) store_size)
      (λ t. rw (t, sym phase_is ∙ p) (sym (sound_state store (eqb-true (length store) store_size t) (state_of store))))
      (λ t. rw t refl)

  pub state_held : {p : Phase} {s : State} {b : Bool} → phase_in n ≡ Some p → s ≡ state_from p (numbers_in store)
      → b ≡ (eqb (length store) store_size && is_sound_state s) → then_some b s ≡ state_in store
  unfolding phase_in
  state_held {p} {s} {b} f g h =
      let k = cond_some (is_phase n) (phase_from n) p f in
      let z : s ≡ state_of store =
      g ∙ ap (λ (q : Phase). state_from q (numbers_in store)) (sym k.1 ∙ ap phase_from e)
      in
      ap₂ then_some (tested k.0 (h ∙ ap (λ (t : State). eqb (length store) store_size && is_sound_state t) z)) z
