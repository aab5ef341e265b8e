-- The step that a block makes, case by case, and what it brings.
-- Assumes nothing.
use Prim.Native.Nat.{ℕ, ◌+◌, ◌-◌, ◌≤◌}
use native.Mathlib.Numerals.{add-one}
use native.Mathlib.Omega.{arith}
use mathlib.Core.Path.{◌≡◌, refl, sym, ◌∙◌}
use mathlib.Core.Bool.{Bool, true, false, ◌||◌}
use mathlib.Core.List.{List, ◌++◌, append_assoc}
use mathlib.Core.Option.{some}
use lib.Dec.{leb, eqb}
use lib.ListN.{length, take, drop, length-append}
use lib.Seq.{take_at, take_all, length-take-le}
use borrow.Author.Tests.{leb-true}
use Rattle.meaning.specs.declared.Refusal.{Refusal}
use Rattle.meaning.specs.declared.Header.{Header}
use Rattle.meaning.specs.declared.Format.{Format}
use Rattle.std.specs.Prelude.{Option, Some, None, Result, Ok}
use Rattle.std.specs.Result.{result_and}
use Rattle.meaning.specs.Refusals.{is_good, first_broken, kept, verdict}
use Rattle.meaning.specs.Blocks.{ebn_at, header_of, block_text, first_block_rules}
use Rattle.meaning.specs.Sets.{BlockSet, Event, unless, close_at_last, begins, opening, goes_on, agreement_rules, continuing, is_user, advance}
use Rattle.meaning.proofs.Logic.{by_test}
use Rattle.meaning.proofs.RefusalLaws.{result_and_assoc, verdict_cons}
use Rattle.output.specs.Output.{stored}
use Rattle.output.proofs.Laws.{stored-fits, stored-copied}
use Rattle.sets.specs.declared.Set.{Set}
use Rattle.sets.specs.declared.Sets.{Sets}
use Rattle.sets.specs.declared.Step.{Step}
use Rattle.sets.specs.declared.Step.TheVariants.{NoRoom, Pending}
use Rattle.sets.specs.Assembling.{set_with, set_of, current_of, assembly_of, event_of, text_end, has_room, size_after, sized_set, sized_current, sized_sets, step_of, step_in, text_after, Advances}

-- what follows if no rule is broken, as a step
unless_step : (n : ℕ) (r : Refusal) (e : Event) → step_of n (unless r e) ≡ result_and (verdict r) (step_of n e)
unfolding unless verdict step_of
unless_step n r e = by_test (is_good r) (λ g. rw (g, unless, verdict)) (λ g. rw (g, unless, verdict))

-- a block where no set is open, by its rules as results in turn
pub opening_step :
    (f : Format) (place : ℕ) (h : Header) (text : List ℕ) (least n : ℕ)
    → step_of n (opening f place h text least)
    ≡ result_and (kept (eqb h.ebn 0 || eqb h.ebn 255) 7 place ebn_at)
    (result_and (verdict (first_broken place (first_block_rules f least h)))
    (step_of n (close_at_last (record { place = place; first = h; last = h.ebn; text = text }) (h.sn + 1))))
unfolding opening begins
opening_step f place h text least n =
    rw (unless_step n _ _, verdict_cons place 7 ebn_at _ _ (omega arith), add-one) (result_and_assoc (kept (begins h.ebn) 7 place ebn_at) _ _)

-- a block of the open set, by its rules as results in turn
pub continuing_step :
    (place : ℕ) (h : Header) (text : List ℕ) (s : BlockSet) (least n : ℕ)
    → step_of n (continuing place h text s least)
    ≡ result_and (kept (goes_on s.last h.ebn) 7 place ebn_at)
    (result_and (verdict (first_broken place (agreement_rules s.first h)))
    (step_of n (close_at_last (record { place = s.place; first = s.first; last = h.ebn; text = s.text ++ text }) least)))
unfolding continuing
continuing_step place h text s least n =
    rw (unless_step n _ _, verdict_cons place 7 ebn_at _ _ (omega arith)) (result_and_assoc (kept (goes_on s.last h.ebn) 7 place ebn_at) _ _)

-- a text stored behind another that stands at the front
front-joined : (buf xs : List ℕ) (at : ℕ) → at + length xs ≤ length buf → take (at + length xs) (stored buf at xs) ≡ take at buf ++ xs
front-joined buf xs at h =
    let l : length (take at buf ++ xs) ≡ at + length xs = simp length-append (omega (arith, length-take-le at buf (omega arith))) in
    rw (stored-fits buf at xs h) (take_at (take at buf ++ xs) _ _ l)

front_kept : (buf xs : List ℕ) (at : ℕ) → at + length xs ≤ length buf → take at (stored buf at xs) ≡ take at buf
front_kept buf xs at h = rw (stored-fits buf at xs h, append_assoc) (take_at (take at buf) _ _ (length-take-le at buf (omega arith)))

-- an event of which the text buffer holds the texts is the one that its step brings
module _ (n : ℕ) (text : List ℕ) where
  abbrev Brought : Event → Type 0
  Brought e = event_of (step_of n e) text ≡ some e

  brought_closing : (s : BlockSet) (least : ℕ) → s.text ≡ take n text → Brought (close_at_last s least)
  unfolding close_at_last step_of sized_sets sized_current sized_set event_of assembly_of current_of set_of set_with
  brought_closing s least h = by_test (eqb s.last 255) (λ e. rw (e, close_at_last, sym h)) (λ e. rw (e, close_at_last, sym h))

  brought-unless : (r : Refusal) (e : Event) → Brought e → Brought (unless r e)
  unfolding unless step_of event_of
  brought-unless r e h = by_test (is_good r) (λ g. rw (g, unless) h) (λ g. rw (g, unless))

  brought-opening : (f : Format) (place : ℕ) (h : Header) (part : List ℕ) (least : ℕ) → part ≡ take n text → Brought (opening f place h part least)
  unfolding opening
  brought-opening f place h part least e = brought-unless _ _ (brought_closing _ _ e)

  brought-continuing : (place : ℕ) (h : Header) (part : List ℕ) (s : BlockSet) (least : ℕ) → s.text ++ part ≡ take n text → Brought (continuing place h part s least)
  unfolding continuing
  brought-continuing place h part s least e = brought-unless _ _ (brought_closing _ _ e)

-- the state is told by what it stands for and by the size of its text
sized_current_lem : (c : Option Set) (text : List ℕ) → sized_current (text_end c) (current_of c text) ≡ c
unfolding sized_current sized_set current_of set_of set_with text_end
sized_current_lem None text = refl
sized_current_lem (Some s) text = refl

sized_same : (s : Sets) (text : List ℕ) → sized_sets (text_end s.current) (assembly_of s text) ≡ s
unfolding sized_sets assembly_of
sized_same s text = rw (sized_current_lem s.current text)

-- and stands for the same with a text behind it
current-kept : (c : Option Set) (text part : List ℕ) → text_end c + length part ≤ length text → current_of c (stored text (text_end c) part) ≡ current_of c text
unfolding current_of set_of text_end
current-kept None text part h = refl
current-kept (Some s) text part h = rw (front_kept text part s.size h)

-- a block, by what is read of it and by the room for its text
module _ (f : Format) (place : ℕ) (b : List ℕ) (s : Sets) (text : List ℕ) {h : Header} (hd : h ≡ header_of b) {user : Bool} (us : user ≡ is_user h) where
  -- what is promised of a step and of the text buffer
  abbrev Told : Result Step Refusal → List ℕ → Type 0
  Told = Advances f place b s text

  user-is : is_user (header_of b) ≡ user
  user-is = rw (sym hd) (sym us)

  pub on-user : user ≡ true → Told (Ok (Pending s)) text
  unfolding step_in size_after text_after has_room advance step_of
  on-user u = record { step = rw (user-is, u, advance, sized_same s text); text = rw (user-is, u) }

  module _ (n : user ≡ false) {part : List ℕ} (pt : part ≡ block_text b) {at : ℕ} (te : at ≡ text_end s.current) {room : Bool} (hr : room ≡ leb (at + length part) (length text)) where
    other : is_user (header_of b) ≡ false
    other = user-is ∙ n

    room-is : leb (text_end s.current + length (block_text b)) (length text) ≡ room
    room-is = rw (sym te, sym pt) (sym hr)

    pub on-full : room ≡ false → Told (Ok NoRoom) text
    unfolding step_in text_after has_room
    on-full e = record { step = rw (other, room-is, e); text = rw (other, room-is, e) }

    -- the block's text copied into the part of the buffer that it fills
    module _ (fits : room ≡ true) {text' : List ℕ} (q : text' ≡ stored text at part) where
      stored-text : text' ≡ text_after b s text
      unfolding text_after has_room
      stored-text = q ∙ rw (other, room-is, fits, sym te, sym pt)

      size_is : at + length part ≡ size_after b s
      unfolding size_after
      size_is = rw (other, sym te, sym pt)

      told : (r : Result Step Refusal) → r ≡ step_of (at + length part) (advance f place b (assembly_of s text)) → Told r text'
      unfolding step_in has_room
      told r g = record { step = g ∙ rw (size_is, other, room-is, fits); text = stored-text }

      pub on-first : s.current ≡ None → (r : Result Step Refusal) → ((t : List ℕ) → r ≡ step_of (at + length part) (opening f place h t s.least)) → Told r text'
      unfolding advance assembly_of current_of
      on-first e r g = told r (g part ∙ rw (other, advance, e, hd, pt))

      pub on-next :
          {c : Set} → s.current ≡ Some c → (r : Result Step Refusal) → ((t new : List ℕ) → r ≡ step_of (at + length part) (continuing place h new (set_with c t) s.least))
          → Told r text'
      unfolding advance assembly_of current_of set_of
      on-next {c} e r g = told r (g (take c.size text) part ∙ rw (other, advance, e, hd, pt))

-- where there is room, the step brings what the block brings
module _ (f : Format) (place : ℕ) (b : List ℕ) (s : Sets) (text : List ℕ) (h : has_room b s text ≡ true) where
  room : is_user (header_of b) ≡ false → text_end s.current + length (block_text b) ≤ length text
  unfolding has_room
  room u = leb-true _ _ (rw u at h)

  brought :
      (c : Option Set) → s.current ≡ c → text_end c + length (block_text b) ≤ length text → is_user (header_of b) ≡ false
      → Brought (text_end c + length (block_text b)) (stored text (text_end c) (block_text b)) (advance f place b (assembly_of s text))
  unfolding advance assembly_of current_of set_of set_with text_end
  brought None e l u = rw (u, advance, e) (brought-opening _ _ _ _ _ _ _ (sym (front-joined text (block_text b) 0 l)))
  brought (Some c) e l u = rw (u, advance, e) (brought-continuing _ _ _ _ _ _ _ (sym (front-joined text (block_text b) c.size l)))

  module _ {r : Result Step Refusal} {text' : List ℕ} (t : Advances f place b s text r text') where
    pub step-event : some (advance f place b (assembly_of s text)) ≡ event_of r text'
    unfolding step_in size_after text_after advance step_of event_of
    step-event =
        by_test (is_user (header_of b))
        (λ u. rw (t.step, t.text, h, u, advance, sized_same s text))
        (λ u. rw (t.step, t.text, h, u) (sym (brought s.current refl (room u) u)))

    -- the state stands for the same with the block's text behind it
    pub text-kept : assembly_of s text' ≡ assembly_of s text
    unfolding assembly_of text_after
    text-kept =
        by_test (is_user (header_of b))
        (λ u. rw (t.text, h, u))
        (λ u. rw (t.text, h, u, current-kept s.current text (block_text b) (room u)))
