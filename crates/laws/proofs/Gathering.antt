-- Walks that gather differently: what one gathers is a function of what another does, in one format or in two by which blocks are taken alike.
-- Assumes nothing.
use Prim.Native.Nat.{ℕ, suc}
use native.Mathlib.Omega.{arith}
use mathlib.Core.Path.{◌≡◌, refl, ap, ◌∙◌}
use mathlib.Core.Bool.{true}
use mathlib.Core.List.{List, [], ◌∷◌}
use lib.ListN.{drop}
use Rattle.meaning.specs.declared.Refusal.{Refusal}
use Rattle.meaning.specs.declared.Counts.{Counts}
use Rattle.meaning.specs.declared.Format.{Format}
use Rattle.meaning.specs.Refusals.{is_good}
use Rattle.meaning.specs.Blocks.{gsi_size, blocks}
use Rattle.meaning.specs.Sets.{BlockSet, Assembly, Event, advance}
use Rattle.meaning.specs.Sets.Event.{broken, pending, closed}
use Rattle.meaning.specs.Walk.{Progress, Outcome, is_open, begun, finish, judge, step, steps, walk}
use Rattle.meaning.specs.Walk.Outcome.{refused, accepted}
use Rattle.meaning.proofs.Logic.{by_test}

-- what was gathered, through a function
unfoldable pub mapped : {A B : Type 0} → (A → B) → Outcome A → Outcome B
mapped g (refused r) = refused r
mapped g (accepted p) = accepted (record { assembly = p.assembly; counts = p.counts; gathered = g p.gathered })

pub mapped-same : {A : Type 0} (o : Outcome A) → o ≡ mapped (λ x. x) o
unfolding mapped
mapped-same (refused r) = refl
mapped-same (accepted p) = refl

module _ {A B : Type 0} (g : A → B) where
  pub finish-mapped : (n : ℕ) (o : Outcome A) → mapped g (finish n o) ≡ finish n (mapped g o)
  unfolding finish mapped
  finish-mapped n (refused r) = refl
  finish-mapped n (accepted p) = by_test (is_open p.assembly) (λ e. rw (e, finish, mapped)) (λ e. rw (e, finish, mapped))

  -- sets that keep the rule are gathered alike
  module _ (f : Format) (rule : BlockSet → Refusal) (add : BlockSet → A → A) (add' : BlockSet → B → B) (alike : (s : BlockSet) (x : A) → is_good (rule s) ≡ true → g (add s x) ≡ add' s (g x)) where
    module _ (f' : Format) (moves : (k : ℕ) (b : List ℕ) (a : Assembly) → advance f k b a ≡ advance f' k b a) where
      judge-mapped : (c : Counts) (x : A) (e : Event) → mapped g (judge f rule add c x e) ≡ judge f' rule add' c (g x) e
      unfolding judge mapped
      judge-mapped c x (broken r) = refl
      judge-mapped c x (pending a) = refl
      judge-mapped c x (closed s a) =
          by_test (is_good (rule s)) (λ t. rw (t, judge, mapped, alike s x t)) (λ t. rw (t, judge, mapped))

      step-mapped : (k : ℕ) (o : Outcome A) (b : List ℕ) → mapped g (step f rule add k o b) ≡ step f' rule add' k (mapped g o) b
      unfolding step mapped
      step-mapped k (refused r) b = refl
      step-mapped k (accepted p) b = judge-mapped _ p.gathered _ ∙ ap (judge f' rule add' _ _) (moves k b p.assembly)

      steps-mapped : (k : ℕ) (o : Outcome A) (bs : List (List ℕ)) → mapped g (steps f rule add k o bs) ≡ steps f' rule add' k (mapped g o) bs
      unfolding steps
      steps-mapped k o [] = refl
      steps-mapped k o (b ∷ bs) = steps-mapped (suc k) (step f rule add k o b) bs ∙ rw (step-mapped k o b)

      pub walks_mapped : (x : A) (file : List ℕ) (n : ℕ) → mapped g (walk f rule add x file n) ≡ walk f' rule add' (g x) file n
      unfolding walk begun mapped
      walks_mapped x file n = steps-mapped 0 _ (blocks n (drop gsi_size file))

    pub walk-mapped : (x : A) (file : List ℕ) (n : ℕ) → mapped g (walk f rule add x file n) ≡ walk f rule add' (g x) file n
    walk-mapped = walks_mapped f (λ k b a. refl)

pub refused-not : {A : Type 0} {r : Refusal} {p : Progress A} → refused r ≡ accepted p → ⊥
refused-not e = let z : ◌≡◌ {A = ℕ} 0 1 = cc in omega arith

pub finish-accepted : {A : Type 0} (n : ℕ) (o : Outcome A) (p : Progress A) → finish n o ≡ accepted p → o ≡ accepted p
unfolding finish
finish-accepted n (refused r) p e = absurd (refused-not e)
finish-accepted n (accepted q) p e =
    by_test (is_open q.assembly) (λ t. absurd (refused-not (rw (t, finish) at e))) (λ t. rw (t, finish) at e)
