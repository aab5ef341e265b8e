-- Pass one by the walk of the definitions: a block is a step, blocks are steps, and what is told at the end.
-- Assumes nothing.
use Prim.Native.Nat.{ℕ, suc, ◌+◌, ◌≤◌, ◌<◌, ◌^◌}
use native.Mathlib.Omega.{arith}
use mathlib.Core.Path.{◌≡◌, refl, sym, ap, ◌∙◌}
use mathlib.Core.Bool.{Bool, true, false, not, ◌&&◌}
use mathlib.Core.List.{List, [], ◌∷◌}
use mathlib.Core.Option.{some, some-injective}
use Rattle.std.specs.Prelude.{Result, Ok, Err}
use lib.ListN.{length, drop, length-drop}
use lib.Seq.{take_all}
use Rattle.meaning.specs.declared.Refusal.{Refusal}
use Rattle.meaning.specs.declared.Counts.{Counts}
use Rattle.meaning.specs.declared.Header.{Header}
use Rattle.meaning.specs.declared.Format.{Format}
use Rattle.meaning.specs.Refusals.{no_refusal, is_good, kept, verdict}
use Rattle.meaning.specs.Lists.{field}
use Rattle.meaning.specs.Blocks.{gsi_size, blocks, header_of, block_text}
use Rattle.meaning.specs.Sets.{Event, no_blocks, is_user, advance}
use Rattle.meaning.specs.Sets.Event.{closed}
use Rattle.meaning.specs.Walk.{total, counted_by, counted, is_open, begun, set_rule, Outcome, finish, judge, step, steps, walk}
use Rattle.meaning.specs.Walk.Outcome.{refused, accepted}
use mathlib.Core.Option.{none-ne-some}
use Rattle.meaning.proofs.Logic.{by_test, by_cond}
use Rattle.meaning.proofs.RefusalLaws.{good-number}
use Rattle.laws.proofs.Steps.{blocks-length}
use Rattle.laws.proofs.Walk.{broken-bad, WithinIf, step-within, start-within}
use Rattle.output.specs.Output.{past, stored}
use Rattle.output.proofs.Laws.{length-stored}
use Rattle.sets.specs.declared.Set.{Set}
use Rattle.sets.specs.declared.Sets.{Sets}
use Rattle.sets.specs.declared.Step.{Step}
use Rattle.sets.specs.declared.Step.TheVariants.{NoRoom, Pending, Closed}
use Rattle.sets.specs.Assembling.{set_of, current_of, assembly_of, event_of, text_end, has_room, room_for, step_in, text_after, Advances}
use Rattle.sets.proofs.Laws.{step-event}
use Rattle.sets.proofs.Rooms.{room-left}
use Rattle.closed.specs.Body.{Body, lay_set}
use Rattle.checking.specs.declared.blocks.Pass.{Pass}
use Rattle.checking.specs.Passing.{Passing, passing, begun_pass, outcome_of, passing_outcome, more, counts_after, going_pass, pass_after, stepped, block_taken, pass_all, checked_of}

module _ (w : Pass) (text : List ℕ) (body : Body) where
  pub outcome-good : is_good w.refusal ≡ true → outcome_of w text body ≡ accepted (record { assembly = assembly_of w.sets text; counts = w.counts; gathered = body })
  unfolding outcome_of
  outcome-good e = rw (e, outcome_of)

  pub outcome-bad : is_good w.refusal ≡ false → outcome_of w text body ≡ refused w.refusal
  unfolding outcome_of
  outcome-bad e = rw (e, outcome_of)

-- where the counts are small, one more is the number after
counts-right : (in_set : Bool) (h : Header) (c : Counts) → total c + 1 < 2 ^ 64 → counted_by more in_set h c ≡ counted in_set h c
unfolding counted total past
counts-right in_set h c l =
    let u : past c.users 1 ≡ suc c.users = omega arith in
    let k : past c.continuations 1 ≡ suc c.continuations = omega arith in
    let m : past c.comments 1 ≡ suc c.comments = omega arith in
    let s : past c.subtitles 1 ≡ suc c.subtitles = omega arith in
    rw (u, k, m, s)

-- a pass can take a block: nothing is refused, there is room for its text, and it can be counted
abbrev CanTake : List ℕ → Pass → List ℕ → Type 0
CanTake b w text = (is_good w.refusal ≡ true) × (has_room b w.sets text ≡ true) × (total w.counts + 1 < 2 ^ 64)

module _ (f : Format) (place : ℕ) (b : List ℕ) (p : Passing) (ready : CanTake b p.pass p.text) where
  abbrev after : List ℕ
  after = text_after b p.pass.sets p.text

  -- what is promised of the pass after it
  abbrev Right : Passing → Type 0
  Right q = passing_outcome q ≡ step f (set_rule f) (lay_set f) place (passing_outcome p) b

  event : some (advance f place b (assembly_of p.pass.sets p.text)) ≡ event_of (step_in f place b p.pass.sets p.text) after
  event = step-event f place b p.pass.sets p.text ready.1 (record { step = refl; text = refl })

  judged :
      {e : Event} → advance f place b (assembly_of p.pass.sets p.text) ≡ e
      → judge f (set_rule f) (lay_set f) (counts_after b p.pass p.text) p.body e
      ≡ step f (set_rule f) (lay_set f) place (passing_outcome p) b
  unfolding step
  judged e =
      rw (sym e, outcome-good p.pass p.text p.body ready.0, counts-right (is_open (assembly_of p.pass.sets p.text)) (header_of b) p.pass.counts ready.2)

  on-closed :
      (set : Set) (s : Sets) → advance f place b (assembly_of p.pass.sets p.text) ≡ closed (set_of set after) (assembly_of s after)
      → Right (stepped f (counts_after b p.pass p.text) after p (Ok (Closed set s)))
  unfolding stepped judge
  on-closed set s e =
      by_test (is_good (set_rule f (set_of set after)))
      (λ g. rw (g, stepped) (outcome-good _ after _ ready.0 ∙ (rw (g, judge) at (judged e))))
      (λ g. rw (g, stepped) (outcome-bad _ after _ g ∙ (rw (g, judge) at (judged e))))

  by_step :
      (s : Result Step Refusal) → some (advance f place b (assembly_of p.pass.sets p.text)) ≡ event_of s after
      → Right (stepped f (counts_after b p.pass p.text) after p s)
  unfolding event_of stepped judge
  by_step (Err q) e =
      let z = some-injective _ _ e in
      outcome-bad _ after _ (broken-bad f place b _ z) ∙ judged z
  by_step (Ok NoRoom) e = absurd (none-ne-some _ (sym e))
  by_step (Ok (Pending s)) e = outcome-good _ after _ ready.0 ∙ judged (some-injective _ _ e)
  by_step (Ok (Closed set s)) e = on-closed set s (some-injective _ _ e)

  block-step : Right (block_taken f place b p)
  unfolding block_taken
  block-step = by_step _ event

-- what comes back after a block, by the step that it made
module _ (f : Format) (place : ℕ) (b : List ℕ) (p : Passing) {counts : Counts} {text : List ℕ} {s : Result Step Refusal} (k : counts ≡ counts_after b p.pass p.text) (t : Advances f place b p.pass.sets p.text s text) where
  -- what is promised of the result, with the text buffer and what is laid after it
  abbrev Taken : Result Pass Refusal → Body → Type 0
  Taken r body = record { pass = pass_after p.pass r; text = text; body = body } ≡ block_taken f place b p

  by_taken : {e : Result Step Refusal} → s ≡ e → stepped f counts text p e ≡ block_taken f place b p
  unfolding block_taken
  by_taken e = rw (sym e, k, t.step, t.text)

  pub taken-broken : {q : Refusal} → s ≡ Err q → Taken (Err q) p.body
  unfolding stepped pass_after
  taken-broken e = by_taken e

  pub taken-full : s ≡ Ok NoRoom → Taken (Ok p.pass) p.body
  unfolding stepped pass_after
  taken-full e = by_taken e

  pub taken-pending : {a : Sets} → s ≡ Ok (Pending a) → Taken (Ok (going_pass p.pass a counts)) p.body
  unfolding stepped pass_after
  taken-pending e = by_taken e

  module _ {set : Set} {a : Sets} (e : s ≡ Ok (Closed set a)) {v : Result Unit Refusal} (d : v ≡ verdict (set_rule f (set_of set text))) where
    pub taken-bad : {q : Refusal} → v ≡ Err q → Taken (Err q) p.body
    unfolding stepped pass_after verdict
    taken-bad z =
        by_test (is_good (set_rule f (set_of set text)))
        (λ g. let x = rw (g, verdict) at d in cc)
        (λ g. let x = rw (g, verdict) at d in let y = rw (g, stepped) at (by_taken e) in cc)

    pub taken-good : v ≡ Ok tt → Taken (Ok (going_pass p.pass a counts)) (lay_set f (set_of set text) p.body)
    unfolding stepped pass_after verdict
    taken-good z =
        by_test (is_good (set_rule f (set_of set text)))
        (λ g. rw (g, stepped) at (by_taken e))
        (λ g. let x = rw (g, verdict) at d in cc)

-- the text buffer keeps its length
text-length : (b : List ℕ) (s : Sets) (text : List ℕ) → length (text_after b s text) ≡ length text
unfolding text_after
text-length b s text =
    by_cond (λ (t : List ℕ). length t ≡ length text) (has_room b s text && not (is_user (header_of b))) (stored text (text_end s.current) (block_text b)) text
    (length-stored text (text_end s.current) (block_text b)) refl

stepped-text : (f : Format) (c : Counts) (text : List ℕ) (p : Passing) (s : Result Step Refusal) → (stepped f c text p s).text ≡ text
unfolding stepped
stepped-text f c text p (Err r) = refl
stepped-text f c text p (Ok NoRoom) = refl
stepped-text f c text p (Ok (Pending s)) = refl
stepped-text f c text p (Ok (Closed set s)) = by_test (is_good (set_rule f (set_of set text))) (λ g. rw (g, stepped)) (λ g. rw (g, stepped))

taken-length : (f : Format) (place : ℕ) (b : List ℕ) (p : Passing) → length (block_taken f place b p).text ≡ length p.text
unfolding block_taken
taken-length f place b p = ap length (stepped-text f _ _ p _) ∙ text-length b p.pass.sets p.text

steps_stay : (f : Format) (k : ℕ) (r : Refusal) (bs : List (List ℕ)) → steps f (set_rule f) (lay_set f) k (refused r) bs ≡ refused r
unfolding steps step
steps_stay f k r [] = refl
steps_stay f k r (b ∷ bs) = steps_stay f (suc k) r bs

module _ (f : Format) where
  -- blocks are steps, where the pass is that of the blocks before them and the text buffer has room for all
  abbrev Passes : List (List ℕ) → ℕ → Passing → Type 0
  Passes bs place p =
      place + length bs < 2 ^ 64 → room_for (place + length bs) ≤ length p.text → WithinIf place (passing_outcome p)
      → passing_outcome (pass_all f place p bs) ≡ steps f (set_rule f) (lay_set f) place (passing_outcome p) bs

  passes-more : (b : List ℕ) (bs : List (List ℕ)) (place : ℕ) (p : Passing) → ((q : Passing) → Passes bs (suc place) q) → Passes (b ∷ bs) place p
  unfolding pass_all steps past
  passes-more b bs place p next l r h =
      by_test (is_good p.pass.refusal)
      (λ e.
      let z : past place 1 ≡ suc place = omega arith in
      let i = rw (outcome-good p.pass p.text p.body e) at h in
      let room : room_for (place + 1) ≤ length p.text = omega arith in
      let s = block-step f place b p (e, room-left place p.text room b p.pass.sets i.fits, omega (arith, i.counts)) in
      rw (e, pass_all, z)
      (next (block_taken f place b p) (omega arith) (omega (arith, taken-length f place b p)) (rw s (step-within f (set_rule f) (lay_set f) place _ b tt h))
      ∙ ap (λ (o : Outcome Body). steps f (set_rule f) (lay_set f) (suc place) o bs) s))
      (λ e.
      let z = outcome-bad p.pass p.text p.body e in
      rw (e, pass_all) (z ∙ rw z (sym (steps_stay f place p.pass.refusal (b ∷ bs)))))

  pub passes : (bs : List (List ℕ)) (place : ℕ) (p : Passing) → Passes bs place p
  unfolding pass_all steps
  passes [] place p l r h = refl
  passes (b ∷ bs) place p l r h = passes-more b bs place p (λ q. passes bs (suc place) q) l r h

-- what is told of a pass after the last of n blocks
module _ (n : ℕ) (w : Pass) (text : List ℕ) (body : Body) where
  pub ended-bad : is_good w.refusal ≡ false → Err w.refusal ≡ checked_of (finish n (outcome_of w text body))
  unfolding finish checked_of
  ended-bad e = rw (outcome-bad w text body e)

  module _ (e : is_good w.refusal ≡ true) {b : Bool} (o : b ≡ is_open (assembly_of w.sets text)) {v : Result Unit Refusal} (k : v ≡ kept (not b) 7 n 0) where
    pub ended_open : {q : Refusal} → v ≡ Err q → Err q ≡ checked_of (finish n (outcome_of w text body))
    unfolding finish checked_of kept
    ended_open z =
        by_test (is_open (assembly_of w.sets text))
        (λ g. let x : v ≡ Err (record { number = 7; place = n; offset = 0 }) = rw (o, g) at k in rw (outcome-good w text body e, g, finish) cc)
        (λ g. let x : v ≡ Ok tt = rw (o, g) at k in cc)

    pub ended_shut : v ≡ Ok tt → Ok (record { counts = w.counts; tally = body.tally; marks = record { on = body.marks } }) ≡ checked_of (finish n (outcome_of w text body))
    unfolding finish checked_of kept
    ended_shut z =
        by_test (is_open (assembly_of w.sets text))
        (λ g. let x : v ≡ Err (record { number = 7; place = n; offset = 0 }) = rw (o, g) at k in cc)
        (λ g. rw (outcome-good w text body e, g, finish))

-- pass one over a file's blocks is the walk over them
module _ (f : Format) (file : List ℕ) (n : ℕ) (text : List ℕ) (body : Body) {bytes : List ℕ} (m : n < 2 ^ 64) (room : room_for n ≤ length text) (d : bytes ≡ field gsi_size (length file) file) where
  abbrev first : Passing
  first = passing begun_pass text body

  first-begun : passing_outcome first ≡ accepted (begun body)
  unfolding begun no_blocks no_refusal assembly_of current_of
  first-begun = outcome-good first.pass text body (good-number no_refusal refl)

  all_blocks : bytes ≡ drop gsi_size file
  unfolding field
  all_blocks = d ∙ take_all (length file) (drop gsi_size file) (omega (arith, length-drop gsi_size file))

  pub walk-passed : {q : Passing} → q ≡ pass_all f 0 first (blocks n bytes) → passing_outcome q ≡ walk f (set_rule f) (lay_set f) body file n
  unfolding walk
  walk-passed e =
      let l : 0 + length (blocks n bytes) ≡ n = omega (arith, blocks-length n bytes) in
      let p = passes f (blocks n bytes) 0 first (omega arith) (rw l room) (rw first-begun (start-within f (set_rule f) (lay_set f) body)) in
      ap passing_outcome e ∙ p ∙ rw (first-begun, all_blocks)
