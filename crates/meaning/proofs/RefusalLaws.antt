-- Rules in their order: what holds where none is broken, and the number of one that is.
-- Assumes nothing.
use Prim.Native.Nat.{ℕ, suc, ◌≤◌}
use native.Mathlib.Omega.{arith}
use mathlib.Core.Path.{◌≡◌, refl, sym, ap, ◌∙◌}
use mathlib.Core.Bool.{Bool, true, false}
use mathlib.Core.List.{List, [], ◌∷◌, ◌++◌}
use borrow.Author.Tests.{eq-eqb, ne_eqb}
use Rattle.meaning.specs.declared.Refusal.{Refusal}
use Rattle.std.specs.Prelude.{Result, Ok, Err}
use Rattle.std.specs.Result.{result_and}
use Rattle.meaning.specs.Refusals.{Rule, holds, no_refusal, is_good, first_broken, kept, verdict, in_turn, turns}
use Rattle.meaning.specs.Lists.{all}
use Rattle.meaning.specs.declared.Time.{Time}
use Rattle.meaning.specs.declared.Header.{Header}
use Rattle.meaning.specs.declared.Format.{Format}
use Rattle.meaning.specs.Blocks.{time_rules, times_rules, is_comment, subtitle_rules, first_block_rules}
use Rattle.std.proofs.lemmas.Bool.{false≢true}
use Rattle.meaning.proofs.Logic.{by_test}

pub good-number : (r : Refusal) → r.number ≡ 0 → is_good r ≡ true
unfolding is_good
good-number r e = eq-eqb r.number 0 e

pub bad-number : (r : Refusal) → (r.number ≡ 0 → ⊥) → is_good r ≡ false
unfolding is_good
bad-number r e = ne_eqb r.number 0 e

-- no rule of a list is broken
abbrev pub Holds : ℕ → List Rule → Type 0
Holds place rs = is_good (first_broken place rs) ≡ true

-- where no rule is broken, each holds
pub unbroken : (place n o : ℕ) (b : Bool) (rs : List Rule) → Holds place ((suc n, o, b) ∷ rs) → (b ≡ true) × Holds place rs
unfolding first_broken is_good
unbroken place n o true rs e = (refl, e)
unbroken place n o false rs e = absurd (false≢true (sym (ne_eqb (suc n) 0 (λ z. omega arith)) ∙ e))

-- a refusal of a rule from 1 to 15
pub record Known (r : Refusal) : Type 0 where
  pub bad : is_good r ≡ false
  pub low : r.number ≤ 15

-- the numbers of a list of rules are from 1 to 15
abbrev pub Numbered : List Rule → Type 0
Numbered [] = Unit {0}
Numbered (r ∷ rs) = (1 ≤ r.0) × (r.0 ≤ 15) × Numbered rs

pub time_numbered : (rate at : ℕ) (t : Time) → Numbered (time_rules rate at t)
unfolding time_rules
time_numbered rate at t = omega arith

pub times_numbered : (rate : ℕ) (start stop : Time) → Numbered (times_rules rate start stop)
unfolding times_rules time_rules
times_numbered rate start stop = omega arith

pub subtitle_numbered : (f : Format) (h : Header) → Numbered (subtitle_rules f h)
unfolding subtitle_rules times_rules time_rules
subtitle_numbered f h = omega arith

pub first_numbered : (f : Format) (least : ℕ) (h : Header) → Numbered (first_block_rules f least h)
unfolding first_block_rules
first_numbered f least h =
    by_test (is_comment h)
    (λ e. rw e (omega arith))
    (λ e. rw e (omega arith, omega arith, (omega arith, omega arith, subtitle_numbered f h)))

pub broken-known : (place : ℕ) (rs : List Rule) → Numbered rs → is_good (first_broken place rs) ≡ false → Known (first_broken place rs)
unfolding first_broken no_refusal is_good
broken-known place [] h e = absurd (false≢true (sym e))
broken-known place (r ∷ rs) h e =
    by_test r.2
    (λ t. rw (t, first_broken) (broken-known place rs h.2 (rw (t, first_broken) at e)))
    (λ t. rw (t, first_broken) (record { bad = ne_eqb r.0 0 (λ z. omega (arith, h.0)); low = h.1 }))

-- where no rule of two lists is broken, all of the first hold, and none of the second is broken
pub unbroken-all : (place : ℕ) (rs qs : List Rule) → Numbered rs → Holds place (rs ++ qs) → (all holds rs ≡ true) × Holds place qs
unfolding first_broken is_good all
unbroken-all place [] qs n h = (refl, h)
unbroken-all place (r ∷ rs) qs n h =
    by_test r.2
    (λ t. rw (t, all) (unbroken-all place rs qs n.2 (rw (t, first_broken) at h)))
    (λ t. absurd (false≢true (sym (ne_eqb r.0 0 (λ z. omega (arith, n.0))) ∙ (rw (t, first_broken) at h))))

-- results in turn nest either way
pub result_and_assoc : {A : Type 0} (a b : Result Unit Refusal) (c : Result A Refusal) → result_and (result_and a b) c ≡ result_and a (result_and b c)
result_and_assoc (Ok x) b c = refl
result_and_assoc (Err e) b c = refl

-- the verdict of rules in their order: that of the first, and then that of the rest
pub verdict_cons :
    (place n o : ℕ) (b : Bool) (rs : List Rule) → 1 ≤ n
    → verdict (first_broken place ((n, o, b) ∷ rs)) ≡ result_and (kept b n place o) (verdict (first_broken place rs))
unfolding first_broken verdict kept is_good
verdict_cons place n o true rs h = refl
verdict_cons place n o false rs h = rw (ne_eqb n 0 (λ z. omega arith), verdict)

-- of no rules
pub verdict_none : (place : ℕ) → verdict (first_broken place []) ≡ Ok tt
unfolding first_broken verdict no_refusal is_good
verdict_none place = refl

-- of one rule alone
pub verdict_one : (place n o : ℕ) (b : Bool) → 1 ≤ n → verdict (first_broken place ((n, o, b) ∷ [])) ≡ kept b n place o
unfolding first_broken verdict kept no_refusal is_good
verdict_one place n o true h = refl
verdict_one place n o false h = rw (ne_eqb n 0 (λ z. omega arith), verdict)

-- of the rules of two lists, one after the other
pub verdict_append :
    (place : ℕ) (rs qs : List Rule) → Numbered rs
    → verdict (first_broken place (rs ++ qs)) ≡ result_and (verdict (first_broken place rs)) (verdict (first_broken place qs))
unfolding first_broken
verdict_append place [] qs h = rw (verdict_none place)
verdict_append place ((n, o, b) ∷ rs) qs h =
    rw (verdict_cons place n o b (rs ++ qs) h.0, verdict_append place rs qs h.2, verdict_cons place n o b rs h.0)
    (sym (result_and_assoc (kept b n place o) (verdict (first_broken place rs)) (verdict (first_broken place qs))))

-- where the verdict of rules is good, all of them hold
pub verdict_holds : (place : ℕ) (rs : List Rule) → Numbered rs → verdict (first_broken place rs) ≡ Ok tt → all holds rs ≡ true
unfolding first_broken verdict is_good all
verdict_holds place [] h e = refl
verdict_holds place (r ∷ rs) h e =
    by_test r.2
    (λ t. rw (t, all) (verdict_holds place rs h.2 (rw (t, first_broken) at e)))
    (λ t. let k = rw (t, first_broken, ne_eqb r.0 0 (λ z. omega (arith, h.0)), verdict) at e in absurd (cc))

-- Rules in turn by a refusal so far: a rule that is broken counts where none before it was. No function goes by it, and the laws stand for themselves: they
-- say that the order in which rules are asked is that of `first_broken`, whether results or refusals are handed on.
stays : (place : ℕ) (r : Refusal) (rs : List Rule) → is_good r ≡ false → turns place r rs ≡ r
unfolding in_turn
stays place r [] e = refl
stays place r (x ∷ xs) e = by_test x.2 (λ t. rw t (stays place r xs e)) (λ t. rw (t, e) (stays place r xs e))

pub in_turn_lem : (place : ℕ) (rs : List Rule) → Numbered rs → turns place no_refusal rs ≡ first_broken place rs
unfolding first_broken in_turn no_refusal is_good
in_turn_lem place [] h = refl
in_turn_lem place (r ∷ rs) h =
    by_test r.2
    (λ t. rw (t, first_broken) (in_turn_lem place rs h.2))
    (λ t. rw (t, first_broken) (stays place _ rs (ne_eqb r.0 0 (λ z. omega (arith, h.0)))))

-- the rules of two lists, one after the other
pub turns-append : (place : ℕ) (r : Refusal) (rs qs : List Rule) → turns place r (rs ++ qs) ≡ turns place (turns place r rs) qs
turns-append place r [] qs = refl
turns-append place r (x ∷ rs) qs = turns-append place (in_turn r place x.0 x.1 x.2) rs qs

-- a refusal so far stays, whether the next rule holds or not
pub stays-one : (place n o : ℕ) (r : Refusal) (b : Bool) → is_good r ≡ false → in_turn r place n o b ≡ r
unfolding in_turn
stays-one place n o r true e = refl
stays-one place n o r false e = rw e

-- where no rule of a list was broken in turn, none was before, and all of them hold
pub turns-good : (place : ℕ) (r : Refusal) (rs : List Rule) → Numbered rs → is_good (turns place r rs) ≡ true → (is_good r ≡ true) × (all holds rs ≡ true)
unfolding in_turn all
turns-good place r [] n e = (e, refl)
turns-good place r (x ∷ rs) n e =
    by_test x.2
    (λ t. rw (t, all) (turns-good place r rs n.2 (rw t at e)))
    (λ t.
    by_test (is_good r)
    (λ g.
    let b = bad-number (record { number = x.0; place = place; offset = x.1 }) (λ z. omega (arith, n.0)) in
    absurd (false≢true (sym (ap is_good (stays place _ rs b) ∙ b) ∙ (rw (t, g) at e))))
    (λ g. absurd (false≢true (sym (ap is_good (stays place r rs g) ∙ g) ∙ (rw (t, g) at e)))))
