-- The first rule of a list that fails is the lowest, where the rules stand in order; and what all rules of a list have the broken one has.
-- Assumes nothing.
use Prim.Native.Nat.{ℕ}
use native.Mathlib.Omega.{arith}
use mathlib.Core.Path.{◌≡◌, refl, sym, ◌∙◌}
use mathlib.Core.Bool.{Bool, true, false, not, ◌&&◌, ◌||◌, and-false, or-true}
use mathlib.Core.List.{List, [], ◌∷◌}
use lib.Dec.{ltb}
use borrow.Author.Tests.{eq-eqb, le-leb}
use Rattle.meaning.specs.declared.Format.{Format}
use Rattle.meaning.specs.declared.Header.{Header}
use Rattle.meaning.specs.declared.Time.{Time}
use Rattle.meaning.specs.Lists.{all, any}
use Rattle.meaning.specs.Refusals.{Rule, holds, no_refusal, is_good, first_broken}
use Rattle.meaning.specs.Gsi.{file_rules, file_rule}
use Rattle.meaning.specs.Blocks.{time_rules, time_in_range, in_frames, times_rules, is_comment, subtitle_rules, first_block_rules}
use Rattle.meaning.specs.Sets.{agreement_rules}
use Rattle.std.proofs.lemmas.Bool.{and_parts, false≢true, or_right}
use Rattle.meaning.proofs.Logic.{by_test}
use Rattle.meaning.proofs.ListLaws.{test-cons, test_split, any-cons}
use Rattle.reasons.specs.Faults.{is_broken, holds_before, Lowest}

-- what every rule's number and offset have, the broken one's have; and its place is the one asked at
abbrev pub Each : (ℕ → ℕ → Type 0) → List Rule → Type 0
Each P [] = Unit {0}
Each P (r ∷ rs) = P r.0 r.1 × Each P rs

pub broken_each :
    (P : ℕ → ℕ → Type 0) (place : ℕ) (rs : List Rule) → Each P rs → is_good (first_broken place rs) ≡ false
    → P (first_broken place rs).number (first_broken place rs).offset
unfolding first_broken no_refusal is_good
broken_each P place [] h e = absurd (false≢true (sym e))
broken_each P place (r ∷ rs) h e =
    by_test r.2
    (λ t. rw (t, first_broken) (broken_each P place rs h.1 (rw (t, first_broken) at e)))
    (λ t. rw (t, first_broken) h.0)

pub broken-place : (place : ℕ) (rs : List Rule) → is_good (first_broken place rs) ≡ false → (first_broken place rs).place ≡ place
unfolding first_broken no_refusal is_good
broken-place place [] e = absurd (false≢true (sym e))
broken-place place (r ∷ rs) e =
    by_test r.2 (λ t. rw (t, first_broken) (broken-place place rs (rw (t, first_broken) at e))) (λ t. rw (t, first_broken))

-- each rule that fails comes before those after it that fail
abbrev Ordered : List Rule → Type 0
Ordered [] = Unit {0}
Ordered (r ∷ rs) = (r.2 ≡ false → all (holds_before r.0 r.1) rs ≡ true) × Ordered rs

any-later : (p : Rule → Bool) (r : Rule) (rs : List Rule) → any p rs ≡ true → any p (r ∷ rs) ≡ true
any-later p r rs h = any-cons p r rs ∙ or_right (p r) (any p rs) h

held-before : (m q n o : ℕ) → holds_before m q (n, o, true) ≡ true
unfolding holds_before
held-before m q n o = rw or-true

-- one rule more in front
lowest_more :
    (place n o : ℕ) (b : Bool) (rs : List Rule) → (b ≡ false → all (holds_before n o) rs ≡ true)
    → (is_good (first_broken place rs) ≡ false → Lowest rs (first_broken place rs).number (first_broken place rs).offset)
    → is_good (first_broken place ((n, o, b) ∷ rs)) ≡ false
    → Lowest ((n, o, b) ∷ rs) (first_broken place ((n, o, b) ∷ rs)).number (first_broken place ((n, o, b) ∷ rs)).offset
unfolding first_broken is_broken holds_before
lowest_more place n o true rs f g e =
    let l = g e in
    record { fails = any-later _ (n, o, true) rs l.fails; earliest = test-cons _ (n, o, true) rs (held-before _ _ n o) l.earliest }
lowest_more place n o false rs f g e =
    record {
      fails = any-cons _ (n, o, false) rs ∙ rw (eq-eqb n n refl, eq-eqb o o refl);
      earliest = test-cons _ (n, o, false) rs (rw (eq-eqb n n refl, le-leb o o (omega arith), or-true (ltb n n))) (f refl);
    }

ordered_lowest :
    (place : ℕ) (rs : List Rule) → Ordered rs → is_good (first_broken place rs) ≡ false
    → Lowest rs (first_broken place rs).number (first_broken place rs).offset
unfolding first_broken no_refusal is_good
ordered_lowest place [] h e = absurd (false≢true (sym e))
ordered_lowest place (r ∷ rs) h e = lowest_more place r.0 r.1 r.2 rs h.0 (ordered_lowest place rs h.1) e

-- rules whose numbers and offsets are in order, as a test
sorted : List Rule → Bool
sorted [] = true
sorted (r ∷ rs) = all (holds_before r.0 r.1) rs && sorted rs

sorted_ordered : (rs : List Rule) → sorted rs ≡ true → Ordered rs
unfolding sorted
sorted_ordered [] e = tt
sorted_ordered (r ∷ rs) e = let s = and_parts _ (sorted rs) e in ((λ t. s.0), sorted_ordered rs s.1)

pub file_lowest :
    (mode : ℕ) (file : List ℕ) → is_good (file_rule mode file) ≡ false
    → Lowest (file_rules mode file) (file_rule mode file).number (file_rule mode file).offset
unfolding file_rule file_rules sorted holds_before all
file_lowest mode file e = ordered_lowest 0 (file_rules mode file) (sorted_ordered (file_rules mode file) refl) e

pub agreement_lowest :
    (place : ℕ) (first h : Header) → is_good (first_broken place (agreement_rules first h)) ≡ false
    → Lowest (agreement_rules first h) (first_broken place (agreement_rules first h)).number (first_broken place (agreement_rules first h)).offset
unfolding agreement_rules sorted holds_before all
agreement_lowest place first h e = ordered_lowest place (agreement_rules first h) (sorted_ordered (agreement_rules first h) refl) e

-- TCO after TCI is asked where every byte of both times is in range
in_range_lem : (rate : ℕ) (t : Time) → time_in_range rate t ≡ true → (ltb t.minutes 60 ≡ true) × (ltb t.seconds 60 ≡ true) × (ltb t.frames rate ≡ true)
unfolding time_in_range time_rules
in_range_lem rate t e =
    let h = test_split holds _ _ e in
    let m = test_split holds _ _ h.1 in
    let s = test_split holds _ _ m.1 in
    let f = test_split holds _ _ s.1 in
    (m.0, s.0, f.0)

not_asked :
    (rate : ℕ) (start stop : Time) → (time_in_range rate stop ≡ true → ⊥)
    → not (time_in_range rate start && time_in_range rate stop) || ltb (in_frames rate start) (in_frames rate stop) ≡ true
not_asked rate start stop h =
    by_test (time_in_range rate stop) (λ t. absurd (h t)) (λ t. rw (t, and-false (time_in_range rate start)))

-- a rule that is in order at once, and one by its test, in front of others
at_once : {A B : Type 0} → B → (A → true ≡ true) × B
at_once b = ((λ t. refl), b)

by_itself : {A B : Type 0} → A → B → A × B
by_itself a b = (a, b)

subtitle_ordered : (f : Format) (h : Header) → Ordered (subtitle_rules f h)
unfolding subtitle_rules times_rules time_rules holds_before all
subtitle_ordered f h =
    let asked = not_asked f.rate h.tci h.tco in
    let range = in_range_lem f.rate h.tco in
    at_once (at_once (at_once (at_once (at_once (at_once
    (by_itself (λ t. rw (asked (λ r. false≢true (sym t ∙ (range r).0))))
    (by_itself (λ t. rw (asked (λ r. false≢true (sym t ∙ (range r).1))))
    (by_itself (λ t. rw (asked (λ r. false≢true (sym t ∙ (range r).2))))
    (at_once (at_once (at_once tt)))))))))))

pub first_lowest :
    (f : Format) (place least : ℕ) (h : Header) → is_good (first_broken place (first_block_rules f least h)) ≡ false
    → Lowest (first_block_rules f least h) (first_broken place (first_block_rules f least h)).number (first_broken place (first_block_rules f least h)).offset
unfolding first_block_rules subtitle_rules times_rules time_rules holds_before all
first_lowest f place least h e =
    ordered_lowest place _
    (by_test (is_comment h)
    (λ c. rw c (at_once (at_once tt)))
    (λ c. rw c (at_once (at_once (subtitle_ordered f h)))))
    e
