-- What a store stands for after the three calls.
-- Assumes nothing.
use Prim.Native.Nat.{ℕ}
use native.Mathlib.Omega.{arith}
use mathlib.Core.Path.{◌≡◌, refl, sym, ap, ◌∙◌}
use mathlib.Core.Bool.{Bool, true, false, cond, not}
use mathlib.Core.Logic.{⊎_elim}
use mathlib.Core.List.{List, [], ◌∷◌}
use Rattle.std.specs.Prelude.{Option, Some, None}
use lib.Dec.{eqb}
use lib.ListN.{length, length-replicate}
use borrow.Author.Tests.{eq-eqb}
use Rattle.meaning.specs.declared.Answer.{Answer}
use Rattle.meaning.specs.Lists.{field}
use Rattle.meaning.specs.Looks.{look_count}
use Rattle.meaning.specs.Refusals.{no_refusal, is_good, first_broken}
use Rattle.meaning.specs.Conversion.{refused_answer}
use Rattle.meaning.specs.Sets.{no_blocks}
use Rattle.meaning.specs.Walk.{begun}
use Rattle.std.proofs.lemmas.Bool.{false≢true}
use Rattle.meaning.proofs.Logic.{by_test}
use Rattle.meaning.proofs.RefusalLaws.{good-number}
use Rattle.output.specs.Output.{stored}
use Rattle.output.proofs.Laws.{length-stored}
use Rattle.words.specs.Words.{words_bytes}
use Rattle.words.specs.Flags.{flags_bytes}
use Rattle.sets.specs.Assembling.{current_of, assembly_of}
use Rattle.closed.specs.Body.{empty_body}
use Rattle.checking.proofs.Stepping.{outcome-good}
use Rattle.feeding.specs.Feeding.{Check, opened, fed, close}
use Rattle.feeding.specs.Sound.{is_sound}
use Rattle.feeding.proofs.Sound.{opened-sound}
use Rattle.lumps.specs.Lumps.{rule_now, answer_now, feed}
use Rattle.lumps.proofs.Cutting.{feed-fed}
use Rattle.store.specs.contracts.PhasePartialEq.TheImpl as phase_eq
use Rattle.store.specs.declared.Phase.{Phase}
use Rattle.store.specs.declared.Phase.TheVariants.{Open, Closed, Other}
use Rattle.store.specs.declared.State.{State}
use Rattle.store.specs.Layout.{marks_at, store_size, is_phase, marks_in, text_in}
use Rattle.store.specs.Numbers.{numbers_of, state_from}
use Rattle.store.specs.Phases.{phase_number, is_closed}
use Rattle.store.specs.Stores.{state_of, state_in, check_in, is_check, check_of}
use Rattle.store.specs.Tests.{is_sound_state}
use Rattle.store.proofs.Phases.{IsCheckPhase, open_phase_lem, two_phases}
use Rattle.store.proofs.Sound.{sound_state, first_number}
use Rattle.store.proofs.Ranges.{InRange}
use Rattle.store.proofs.Checks.{marks-here}
use Rattle.store.proofs.Stores.{check_of_lem, check_none, check_saved, check_size, check_phase, check_sound}
use Rattle.store.proofs.Closing.{close_put}
use Rattle.streamed.specs.Checks.{begun_state, opened_in, fed_in, closed_in, answer_in, is_running, opened_store, store_closed}

-- what `feed_check` and `close_check` promise
abbrev Fed : List ℕ → List ℕ → List ℕ → Type 0
Fed store lump after = (check_of after ≡ fed_in (check_of store) lump) × (is_running (check_of store) ≡ false → after ≡ store)

abbrev Closing : List ℕ → Answer → List ℕ → Type 0
Closing store a after = (a ≡ answer_in (check_of store)) × ((check_of after ≡ closed_in (check_of store)) × (after ≡ store_closed store))

-- a store that is none of a check
none_in : (store : List ℕ) → state_in store ≡ None → is_check store ≡ false
none_in store v = by_test (is_check store) (λ k. let x = rw k at v in cc) (λ k. k)

pub fed-none : (store lump : List ℕ) → state_in store ≡ None → Fed store lump store
unfolding fed_in
fed-none store lump v = let e = none_in store v in (rw (check_none store e) refl, λ r. refl)

pub closed_none : (store : List ℕ) → state_in store ≡ None → {a : Answer} → a ≡ refused_answer (record { number = 1; place = 0; offset = 0 }) 0 → Closing store a store
unfolding closed_in answer_in answer_now rule_now opened first_broken refused_answer is_good is_running store_closed
closed_none store v d =
    let e = none_in store v in
    (d ∙ rw (check_none store e) refl, (rw (check_none store e) refl, rw (check_none store e) refl))

-- a check that is closed, and one that is not
module _ (c : Check) where
  feed-ended : (lump : List ℕ) → c.ended ≡ true → feed c lump ≡ c
  unfolding feed
  feed-ended lump e = ap (λ (b : Bool). cond b c (fed c lump)) e

  close-ended : c.ended ≡ true → close c ≡ c
  close-ended e =
      ap (λ (b : Bool). record { mode = c.mode; room = c.room; gsi = c.gsi; part = c.part; count = c.count; outcome = c.outcome; ended = b }) (sym e)

-- the derived comparison
abbrev same : Phase → Phase → Bool
same = phase_eq.ghosts.eq

-- what it tells of any phase, and of that of a check
pub is-closed : (p : Phase) → true ≡ same p Closed → p ≡ Closed
is-closed Open e = absurd (false≢true (sym e))
is-closed Closed e = refl
is-closed (Other n) e = absurd (false≢true (sym e))

pub opened-phase : (p : Phase) → true ≡ same p Open → p ≡ Open
opened-phase Open e = refl
opened-phase Closed e = absurd (false≢true (sym e))
opened-phase (Other n) e = absurd (false≢true (sym e))

pub is-open : (p : Phase) → IsCheckPhase p → false ≡ same p Closed → p ≡ Open
is-open p h e = ⊎_elim (λ o. o) (λ c. absurd (false≢true (e ∙ ap (λ (q : Phase). same q Closed) c))) h

pub other-phase : (p : Phase) → IsCheckPhase p → false ≡ same p Open → p ≡ Closed
other-phase p h e = ⊎_elim (λ o. absurd (false≢true (e ∙ ap (λ (q : Phase). same q Open) o))) (λ c. c) h

-- a store that holds a check, with its numbers
module _ (store : List ℕ) {s : State} (v : state_in store ≡ Some s) where
  abbrev Known : Type 0
  Known = (is_check store ≡ true) × (s ≡ state_of store)

  known : Known
  known = by_test (is_check store) (λ k. let x = rw k at v in (k, cc)) (λ k. let x = rw k at v in cc)

  -- it can be taken as a check
  pub held_size : length store ≡ store_size
  held_size = check_size store known.0

  pub held_sound : is_sound_state s ≡ true
  held_sound = sym (sound_state store held_size s) ∙ rw known.1 (check_sound store known.0)

  pub held_phase : is_phase (phase_number s.phase) ≡ true
  held_phase = rw (first_number store known.1) (check_phase store known.0)

  -- and its phase is one of the two
  pub phase_here : IsCheckPhase s.phase
  unfolding state_from
  phase_here = rw known.1 (two_phases _ (check_phase store known.0))

  -- what the two comparisons tell of its phase
  pub held-open : {b : Bool} → b ≡ same s.phase Closed → b ≡ false → s.phase ≡ Open
  held-open e f = is-open s.phase phase_here (sym f ∙ e)

  pub held-closed : {b : Bool} → b ≡ same s.phase Closed → b ≡ true → s.phase ≡ Closed
  held-closed e f = is-closed s.phase (sym f ∙ e)

  pub held-opened : {b : Bool} → b ≡ same s.phase Open → b ≡ true → s.phase ≡ Open
  held-opened e f = opened-phase s.phase (sym f ∙ e)

  pub held-other : {b : Bool} → b ≡ same s.phase Open → b ≡ false → s.phase ≡ Closed
  held-other e f = other-phase s.phase phase_here (sym f ∙ e)

  check_here : check_of store ≡ Some (check_in s store)
  check_here = rw known.1 (check_of_lem store known.0)

  -- after the close nothing changes
  module _ (z : s.phase ≡ Closed) where
    ended : (check_in s store).ended ≡ true
    unfolding check_in is_closed
    ended = rw z refl

    pub fed-closed : (lump : List ℕ) → Fed store lump store
    unfolding fed_in
    fed-closed lump = (rw check_here (ap Some (sym (feed-ended (check_in s store) lump ended))), λ r. refl)

    pub closed-again : {a : Answer} → a ≡ answer_now (check_in s store) → Closing store a store
    unfolding closed_in answer_in is_running store_closed
    closed-again d =
        let r : is_running (check_of store) ≡ false = ap is_running check_here ∙ ap not ended in
        (rw check_here d, (rw check_here (ap Some (sym (close-ended (check_in s store) ended))), rw r refl))

  module _ (z : s.phase ≡ Open) where
    running : (check_in s store).ended ≡ false
    unfolding check_in is_closed
    running = rw z refl

    is-running : is_running (check_of store) ≡ true
    unfolding is_running
    is-running = ap is_running check_here ∙ ap not running

    pub fed_open : (lump : List ℕ) {d : Check} {after : List ℕ} → d ≡ fed (check_in s store) lump → check_of after ≡ Some d → Fed store lump after
    unfolding fed_in
    fed_open lump f e = (
      e ∙ ap Some (f ∙ sym (feed-fed (check_in s store) lump running)) ∙ sym (ap (λ (o : Option Check). fed_in o lump) check_here),
      λ r. absurd (false≢true (sym r ∙ is-running)),
    )

    pub closed_now_lem :
        {a : Answer} {n : ℕ} {after : List ℕ} → a ≡ answer_now (check_in s store) → n ≡ phase_number Closed → after ≡ stored store 0 (words_bytes (n ∷ []))
        → Closing store a after
    unfolding closed_in answer_in store_closed phase_number
    closed_now_lem d p e =
        let f = rw p at e in
        (rw check_here d, (ap check_of f ∙ close_put store known.0 ∙ sym (ap closed_in (check_of_lem store known.0)), rw is-running f))

-- a store of another length is none
pub size_none : (store : List ℕ) → eqb (length store) store_size ≡ false → is_check store ≡ false
unfolding is_check
size_none store e = rw e

-- what `open_check` promises
abbrev Opened : ℕ → ℕ → List ℕ → List ℕ → Type 0
Opened mode room store after = (check_of after ≡ opened_in (length store) mode room) × (after ≡ opened_store mode room store)

pub opened-none : (store : List ℕ) (mode room : ℕ) → eqb (length store) store_size ≡ false → Opened mode room store store
unfolding opened_in opened_store
opened-none store mode room e = (check_none store (size_none store e) ∙ rw e refl, rw e refl)

begun_check : (mode room : ℕ) (store : List ℕ) → marks_in store ≡ empty_body.marks → check_in (begun_state mode room) store ≡ opened mode room
unfolding check_in is_closed opened field begun no_blocks assembly_of current_of no_refusal
begun_check mode room store m =
    let o = outcome-good (begun_state mode room).pass (text_in store) empty_body (good-number no_refusal refl) in
    rw (m, o) refl

pub opened_now :
    (store : List ℕ) (mode room : ℕ) {s : State} {store1 after : List ℕ} → length store ≡ store_size → s ≡ begun_state mode room → InRange s
    → store1 ≡ stored store marks_at (flags_bytes empty_body.marks) → after ≡ stored store1 0 (words_bytes (numbers_of s))
    → Opened mode room store after
unfolding opened_in opened_store phase_number
opened_now store mode room {s} {store1} l e i d f =
    let n : length store1 ≡ store_size = ap length d ∙ length-stored store marks_at (flags_bytes empty_body.marks) ∙ l in
    let m : marks_in store1 ≡ empty_body.marks = rw d (marks-here store empty_body.marks (length-replicate look_count false) (omega arith)) in
    let c : check_in s store1 ≡ opened mode room = rw e (begun_check mode room store1 m) in
    let h : is_sound (check_in s store1) ≡ true = rw c (opened-sound mode room) in
    let t = eq-eqb (length store) store_size l in (
      ap check_of f ∙ check_saved store1 s n i (rw e open_phase_lem) h ∙ ap Some c ∙ sym (ap (λ (b : Bool). cond b (Some (opened mode room)) None) t),
      rw t (f ∙ rw (d, e) refl),
    )
