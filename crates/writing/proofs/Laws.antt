-- Pass two: one block more, all blocks, and the walk of a good file.
-- Assumes nothing.
use Prim.Native.Nat.{ℕ, zero, suc, ◌+◌, ◌≤◌, ◌<◌}
use native.Mathlib.Omega.{arith}
use native.Mathlib.Numerals.{add-one}
use mathlib.Core.Path.{◌≡◌, refl, sym, ap, ◌∙◌}
use mathlib.Core.Bool.{true}
use mathlib.Core.List.{List}
use mathlib.Core.Option.{some, some-injective}
use lib.ListN.{length}
use Rattle.std.specs.Prelude.{Result, Ok, Err}
use Rattle.meaning.specs.declared.Refusal.{Refusal}
use Rattle.meaning.specs.declared.Counts.{Counts}
use Rattle.meaning.specs.declared.Format.{Format}
use Rattle.meaning.specs.Refusals.{is_good}
use Rattle.meaning.specs.Blocks.{blocks, block_at}
use Rattle.meaning.specs.Sets.{BlockSet, Event, no_blocks, advance}
use Rattle.meaning.specs.Sets.Event.{broken, pending, closed}
use Rattle.meaning.specs.Walk.{begun, Progress, Outcome, judge, step, steps, walk}
use Rattle.meaning.specs.Walk.Outcome.{refused, accepted}
use mathlib.Core.Option.{none-ne-some}
use Rattle.meaning.proofs.Logic.{by_test}
use Rattle.laws.proofs.Steps.{walk_more}
use Rattle.laws.proofs.Gathering.{refused-not}
use Rattle.laws.proofs.Walk.{Bounded, BoundedAfter, bounded_more, advance-fits}
use Rattle.sets.specs.declared.Set.{Set}
use Rattle.sets.specs.declared.Sets.{Sets}
use Rattle.sets.specs.declared.Step.{Step}
use Rattle.sets.specs.declared.Step.TheVariants.{NoRoom, Pending, Closed}
use Rattle.sets.specs.Assembling.{no_sets, set_of, current_of, assembly_of, event_of, has_room, room_for, Advances}
use Rattle.sets.proofs.Laws.{step-event, text-kept}
use Rattle.sets.proofs.Rooms.{room-left}
use Rattle.closed.specs.Body.{Body, lay_set}
use Rattle.writing.specs.Laying.{Laying, lay_event, lay_blocks, laying_of}

-- one block more, by the step that it made
module _ (f : Format) (place : ℕ) (b : List ℕ) (w : Sets) (text : List ℕ) (body : Body) {text' : List ℕ} (room : has_room b w text ≡ true) {st : Result Step Refusal} (m : Advances f place b w text st text') where
  -- what is promised of the sets and of what is laid after it
  abbrev Stepped : Sets → Body → Type 0
  Stepped s body' = laying_of s text' body' ≡ lay_event f (laying_of w text body) (advance f place b (assembly_of w text))

  event : some (advance f place b (assembly_of w text)) ≡ event_of st text'
  event = step-event f place b w text room m

  pub on-broken : {q : Refusal} → st ≡ Err q → Stepped w body
  unfolding event_of lay_event laying_of
  on-broken e = rw (some-injective _ _ (rw e at event), text-kept f place b w text room m)

  pub on-full : st ≡ Ok NoRoom → Stepped w body
  unfolding event_of
  on-full e = absurd (none-ne-some _ (sym (rw e at event)))

  pub on-pending : {s : Sets} → st ≡ Ok (Pending s) → Stepped s body
  unfolding event_of lay_event laying_of
  on-pending e = rw (some-injective _ _ (rw e at event))

  pub on-closed : {set : Set} {s : Sets} → st ≡ Ok (Closed set s) → Stepped s (lay_set f (set_of set text') body)
  unfolding event_of lay_event laying_of
  on-closed e = rw (some-injective _ _ (rw e at event))

module _ (f : Format) (file : List ℕ) (body : Body) where
  -- the set that is open is short
  event-fits : (k : ℕ) (l : Laying) (e : Event) → Bounded k l.assembly → BoundedAfter (suc k) e → Bounded (suc k) (lay_event f l e).assembly
  unfolding lay_event
  event-fits k l (broken r) h g = bounded_more l.assembly h
  event-fits k l (pending a) h g = g
  event-fits k l (closed s a) h g = λ q z. absurd (none-ne-some _ (sym g ∙ z))

  laying_fits : (k : ℕ) → Bounded k (lay_blocks f file body k).assembly
  unfolding lay_blocks no_blocks
  laying_fits zero = λ q z. absurd (none-ne-some _ z)
  laying_fits (suc k) =
      let h = laying_fits k in
      event-fits k (lay_blocks f file body k) _ h (advance-fits f k (block_at file k) _ h)

  -- after k of n blocks, with a text buffer of some size
  module _ (n room : ℕ) where
    pub record Written (text : List ℕ) (p : Body) (s : Sets) (k : ℕ) : Type 0 where
      pub long : length text ≡ room
      pub stands : laying_of s text p ≡ lay_blocks f file body k

    pub written_none : (text : List ℕ) → length text ≡ room → Written text body no_sets 0
    unfolding lay_blocks laying_of no_blocks assembly_of current_of
    written_none text l = record { long = l; stands = refl }

    module _ {text : List ℕ} {p : Body} {s : Sets} {k : ℕ} (l : Written text p s k) where
      pub written-ready : (b : List ℕ) → room_for n ≤ room → k < n → has_room b s text ≡ true
      unfolding laying_of
      written-ready b r h = room-left k text (omega (arith, l.long)) b s (rw (sym l.stands) at (laying_fits k))

      pub written-more :
          {b text' : List ℕ} {p' : Body} {s' : Sets} → b ≡ block_at file k → length text' ≡ length text
          → laying_of s' text' p' ≡ lay_event f (laying_of s text p) (advance f k b (assembly_of s text)) → Written text' p' s' (k + 1)
      unfolding lay_blocks laying_of
      written-more d x z =
          record {
            long = x ∙ l.long;
            stands = z ∙ rw (add-one, d) (ap (λ (q : Laying). lay_event f q (advance f k (block_at file k) q.assembly)) l.stands);
          }

      pub written_all : k ≡ n → p ≡ (lay_blocks f file body n).body
      unfolding laying_of
      written_all z = ap (λ (q : Laying). q.body) (rw z at l.stands)

-- a walk that accepts lays the same
module _ (f : Format) (rule : BlockSet → Refusal) (file : List ℕ) (body : Body) where
  judge_lays :
      (c : Counts) (l : Laying) (e : Event) (p : Progress Body) → judge f rule (lay_set f) c l.body e ≡ accepted p
      → lay_event f l e ≡ record { assembly = p.assembly; body = p.gathered }
  unfolding judge lay_event
  judge_lays c l (broken r) p h = absurd (refused-not h)
  judge_lays c l (pending a) p h = cc
  judge_lays c l (closed s a) p h =
      by_test (is_good (rule s))
      (λ t. let z = rw (t, judge) at h in cc)
      (λ t. absurd (refused-not (rw (t, judge) at h)))

  pub walk_lays : (k : ℕ) (p : Progress Body) → walk f rule (lay_set f) body file k ≡ accepted p → lay_blocks f file body k ≡ record { assembly = p.assembly; body = p.gathered }
  unfolding walk steps step blocks begun lay_blocks
  walk_lays zero p e = cc
  walk_lays (suc k) p e =
      more (λ q g. walk_lays k q g) (walk f rule (lay_set f) body file k) refl (sym (walk_more f rule (lay_set f) body file k) ∙ rw add-one e)
    where
      more :
          ((q : Progress Body) → walk f rule (lay_set f) body file k ≡ accepted q → lay_blocks f file body k ≡ record { assembly = q.assembly; body = q.gathered })
          → (o : Outcome Body) → walk f rule (lay_set f) body file k ≡ o → step f rule (lay_set f) k o (block_at file k) ≡ accepted p
          → lay_blocks f file body (suc k) ≡ record { assembly = p.assembly; body = p.gathered }
      more before (refused r) g h = absurd (refused-not h)
      more before (accepted q) g h =
          ap (λ (l : Laying). lay_event f l (advance f k (block_at file k) l.assembly)) (before q g)
          ∙ judge_lays _ (record { assembly = q.assembly; body = q.gathered }) _ p h
