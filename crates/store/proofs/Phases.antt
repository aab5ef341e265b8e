-- The first number of an open check, of a closed one, and of any other store.
-- Assumes nothing.
use Prim.Native.Nat.{ℕ}
use mathlib.Core.Path.{◌≡◌, refl, sym, ap, ◌∙◌}
use mathlib.Core.Bool.{true, false}
use mathlib.Core.Logic.{inl, inr, ⊎_elim}
use Rattle.std.specs.Prelude.{◌⊎◌, is_some, unwrap_or}
use Rattle.std.proofs.lemmas.Bool.{false≢true}
use lib.Dec.{eqb}
use borrow.Author.Tests.{eqb-true}
use Rattle.meaning.specs.Lists.{bytes}
use Rattle.meaning.proofs.Logic.{by_test}
use Rattle.words.specs.Words.{value_of}
use Rattle.store.specs.declared.Phase.{Phase}
use Rattle.store.specs.declared.Phase.TheVariants.{Open, Closed, Other}
use Rattle.store.specs.Layout.{open_phase, closed_phase, is_phase}
use Rattle.store.specs.Phases.{phase_number, phase_from, phase_in, is_closed}

-- as the code has them
pub open_phase_is : open_phase ≡ 5423254552953246803
unfolding open_phase value_of bytes
open_phase_is = refl

pub closed_phase_is : closed_phase ≡ 4995423600649196627
unfolding closed_phase value_of bytes
closed_phase_is = refl

pub open_phase_lem : is_phase open_phase ≡ true
unfolding open_phase value_of bytes
open_phase_lem = refl

pub closed-phase : is_phase closed_phase ≡ true
unfolding open_phase closed_phase value_of bytes
closed-phase = refl

pub open_not_closed : eqb open_phase closed_phase ≡ false
unfolding open_phase closed_phase value_of bytes
open_not_closed = refl

-- the number that is read is the number that was told
pub phase_number-from : (n : ℕ) → phase_number (phase_from n) ≡ n
unfolding phase_number phase_from
phase_number-from n =
    by_test (eqb n closed_phase)
    (λ e. rw e (sym (eqb-true n closed_phase e)))
    (λ e. by_test (eqb n open_phase) (λ f. rw (e, f) (sym (eqb-true n open_phase f))) (λ f. rw (e, f) refl))

-- what is written is read: the two phases, and any other number that spells neither
pub phase_from-open : phase_from (phase_number Open) ≡ Open
unfolding phase_from phase_number open_phase closed_phase value_of bytes
phase_from-open = refl

pub phase_from-closed : phase_from (phase_number Closed) ≡ Closed
unfolding phase_from phase_number closed_phase value_of bytes
phase_from-closed = refl

pub phase_from-other : (n : ℕ) → is_phase n ≡ false → phase_from (phase_number (Other n)) ≡ Other n
unfolding phase_from phase_number
phase_from-other n h =
    by_test (eqb n open_phase)
    (λ e. let z : true ≡ false = rw e at h in absurd (false≢true (sym z)))
    (λ e. by_test (eqb n closed_phase) (λ f. let z : true ≡ false = rw (e, f) at h in absurd (false≢true (sym z))) (λ f. rw (f, e) refl))

-- a check is in one of two phases
abbrev pub IsCheckPhase : Phase → Type 0
IsCheckPhase p = (p ≡ Open) ⊎ (p ≡ Closed)

-- a number that spells a phase is read as one of the two
pub two_phases : (n : ℕ) → is_phase n ≡ true → IsCheckPhase (phase_from n)
unfolding phase_from
two_phases n h =
    by_test (eqb n closed_phase)
    (λ e. inr (rw e refl))
    (λ e. by_test (eqb n open_phase) (λ f. inl (rw (e, f) refl)) (λ f. let z : false ≡ true = rw (f, e) at h in absurd (false≢true z)))

-- and what is written of one of the two is read
pub is_phase-number : (p : Phase) → IsCheckPhase p → is_phase (phase_number p) ≡ true
unfolding phase_number
is_phase-number p h = ⊎_elim (λ o. rw o open_phase_lem) (λ c. rw c closed-phase) h

pub phase_from-number : (p : Phase) → IsCheckPhase p → phase_from (phase_number p) ≡ p
phase_from-number p h = ⊎_elim (λ o. rw o phase_from-open) (λ c. rw c phase_from-closed) h

-- a check is closed by its number alone
is_closed-number : (p : Phase) → is_closed p ≡ eqb (phase_number p) closed_phase
unfolding is_closed phase_number open_phase closed_phase value_of bytes
is_closed-number Open = refl
is_closed-number Closed = refl
is_closed-number (Other n) = refl

pub is_closed-from : (p : Phase) → is_closed (phase_from (phase_number p)) ≡ is_closed p
is_closed-from p =
    is_closed-number (phase_from (phase_number p))
    ∙ ap (λ (n : ℕ). eqb n closed_phase) (phase_number-from (phase_number p))
    ∙ sym (is_closed-number p)

-- how the code finds them
pub phase_is_some : (n : ℕ) → is_some (phase_in n) ≡ is_phase n
unfolding phase_in
phase_is_some n = by_test (is_phase n) (λ e. rw e refl) (λ e. rw e refl)

pub phase_or_other : (n : ℕ) → unwrap_or (phase_in n) (Other n) ≡ phase_from n
unfolding phase_in phase_from
phase_or_other n =
    by_test (eqb n open_phase)
    (λ e. by_test (eqb n closed_phase) (λ f. rw (e, f) refl) (λ f. rw (e, f) refl))
    (λ e. by_test (eqb n closed_phase) (λ f. rw (e, f) refl) (λ f. rw (e, f) refl))
