-- Where a walk refused nothing, each rule holds: those of the file, of each block passed, and of each set that closed.
-- Assumes nothing.
use Prim.Native.Nat.{ℕ, ◌+◌, ◌≤◌, ◌<◌}
use native.Mathlib.Omega.{arith}
use mathlib.Core.Path.{◌≡◌, refl, sym, ◌∙◌}
use mathlib.Core.Bool.{Bool, true, false}
use mathlib.Core.List.{List, [], ◌∷◌, append-nil}
use Rattle.meaning.specs.declared.Counts.{Counts}
use Rattle.meaning.specs.declared.Format.{Format}
use Rattle.meaning.specs.declared.Header.{Header}
use Rattle.meaning.specs.Lists.{all}
use Rattle.meaning.specs.Refusals.{Rule, holds, is_good, first_broken}
use Rattle.meaning.specs.Gsi.{format_of, block_count, file_rules, file_rule}
use Rattle.meaning.specs.TextRules.{text_rules, text_rule}
use Rattle.meaning.specs.Blocks.{ebn_at, block_at, header_of, is_comment}
use Rattle.meaning.specs.Sets.{BlockSet, Assembly, Event, unless, opening, agreement_rules, continuing, is_user, advance}
use Rattle.meaning.specs.Sets.Event.{broken, pending, closed}
use Rattle.meaning.specs.Walk.{Subtitle, Progress, Outcome, is_open, finish, judge, step, set_rule, with_subtitles, outcome}
use Rattle.meaning.specs.Walk.Outcome.{refused, accepted}
use Rattle.meaning.proofs.Logic.{by_test, by_option}
use Rattle.meaning.proofs.RefusalLaws.{Holds, Numbered, first_numbered, unbroken, unbroken-all}
use Rattle.laws.proofs.Walk.{by_rules}
use Rattle.laws.proofs.Steps.{walk_more, walk-stays}
use Rattle.laws.proofs.Gathering.{refused-not}
use Rattle.laws.proofs.Accepted.{rule-kept, walk_was}
use Rattle.reasons.specs.Explained.{ebn_right, later_rules, walk_to, BlockGood, GoodBefore}

-- where no rule of a list is broken, all of them hold
all_hold : (place : ℕ) (rs : List Rule) → Numbered rs → Holds place rs → all holds rs ≡ true
all_hold place rs n h = (unbroken-all place rs [] n (rw (append-nil rs) h)).0

-- the rules 1 to 6
file-holds : (mode : ℕ) (file : List ℕ) → is_good (file_rule mode file) ≡ true → all holds (file_rules mode file) ≡ true
unfolding file_rule file_rules
file-holds mode file h = all_hold 0 (file_rules mode file) (omega arith) h

-- 13 to 15
set_holds : (f : Format) (s : BlockSet) → is_good (set_rule f s) ≡ true → is_comment s.first ≡ false → all holds (text_rules f s.first.vp s.text) ≡ true
unfolding set_rule text_rule text_rules
set_holds f s g c = all_hold s.place (text_rules f s.first.vp s.text) (omega arith) (rw c at g)

agreement_numbered : (first h : Header) → Numbered (agreement_rules first h)
unfolding agreement_rules
agreement_numbered first h = omega arith

-- a block after which the walk goes on
abbrev Passed : Format → Event → Type 0
Passed f (broken r) = ⊥
Passed f (pending a) = Unit {0}
Passed f (closed s a) = is_good (set_rule f s) ≡ true

judge-passed :
    (f : Format) (c : Counts) (ss : List Subtitle) (e : Event) {q : Progress (List Subtitle)}
    → judge f (set_rule f) (with_subtitles f) c ss e ≡ accepted q → Passed f e
unfolding judge
judge-passed f c ss (broken r) h = refused-not h
judge-passed f c ss (pending a) h = tt
judge-passed f c ss (closed s a) h = by_test (is_good (set_rule f s)) (λ t. t) (λ t. absurd (refused-not (rw (t, judge) at h)))

-- 7 to 12: its EBN is right, and the other rules hold
abbrev Keeps : Format → Bool → List Rule → Event → Type 0
Keeps f right rs e = Passed f e → (right ≡ true) × (all holds rs ≡ true)

rules-keep :
    (f : Format) (k : ℕ) (right : Bool) (rs : List Rule) (e : Event) → Numbered rs
    → Keeps f right rs (unless (first_broken k ((7, ebn_at, right) ∷ rs)) e)
rules-keep f k right rs e n =
    by_rules (Keeps f right rs) k _ e (λ t x. (let u = unbroken _ _ _ _ _ t in (u.0, all_hold k rs n u.1))) (λ t x. absurd x)

block_keeps :
    (f : Format) (k : ℕ) (b : List ℕ) (a : Assembly) → is_user (header_of b) ≡ false
    → Keeps f (ebn_right a (header_of b)) (later_rules f a (header_of b)) (advance f k b a)
unfolding advance opening continuing ebn_right later_rules
block_keeps f k b a u =
    by_option a.current
    (λ c. rw (u, c, advance, ebn_right, later_rules) (rules-keep f k _ _ _ (first_numbered f a.least (header_of b))))
    (λ s c. rw (u, c, advance, ebn_right, later_rules) (rules-keep f k _ _ _ (agreement_numbered s.first (header_of b))))

module _ (mode : ℕ) (file : List ℕ) where
  record Reached (j : ℕ) : Type 0 where
    known : Progress (List Subtitle)
    walked : walk_to mode file j ≡ accepted known

  block-good :
      (j : ℕ) (b : Reached j) → Passed (format_of mode file) (advance (format_of mode file) j (block_at file j) b.known.assembly)
      → BlockGood mode file j
  block-good j b x =
      let f = format_of mode file in
      record {
        known = b.known;
        walked = b.walked;
        ebn = λ u. (block_keeps f j (block_at file j) b.known.assembly u x).0;
        rules = λ u. (block_keeps f j (block_at file j) b.known.assembly u x).1;
        text = λ s a c n. set_holds f s (rw c at x) n;
      }

  -- a walk that refuses nothing refused nothing before
  module _ (k : ℕ) (p : Progress (List Subtitle)) (e : walk_to mode file k ≡ accepted p) where
    reached_by : (j : ℕ) → j ≤ k → (o : Outcome (List Subtitle)) → walk_to mode file j ≡ o → Reached j
    reached_by j l (refused r) w = let f = format_of mode file in absurd (refused-not (sym (walk-stays f (set_rule f) (with_subtitles f) [] file j k l w) ∙ e))
    reached_by j l (accepted q) w = record { known = q; walked = w }

    reached : (j : ℕ) → j ≤ k → Reached j
    reached j l = reached_by j l (walk_to mode file j) refl

    reached-good : (j : ℕ) → j < k → BlockGood mode file j
    unfolding step
    reached-good j l =
        let f = format_of mode file in
        let b = reached j (omega arith) in
        let n = reached (j + 1) (omega arith) in
        let z = walk_more f (set_rule f) (with_subtitles f) [] file j in
        block-good j b (judge-passed f _ _ _ (rw b.walked at (sym z ∙ n.walked)))

    pub good-before : is_good (file_rule mode file) ≡ true → GoodBefore mode file k p
    good-before g = record { rules = file-holds mode file g; walked = e; blocks = reached-good }

  -- an accepted file: all its blocks are good, and no set is open at its end
  module _ (p : Progress (List Subtitle)) (c : outcome mode file ≡ accepted p) where
    pub all-good : GoodBefore mode file (block_count file) p
    all-good = good-before (block_count file) p (walk_was mode file p c) (rule-kept mode file p c)

    pub none_open : is_open p.assembly ≡ false
    unfolding outcome finish
    none_open =
        by_test (is_open p.assembly)
        (λ t. absurd (refused-not (rw (rule-kept mode file p c, outcome, walk_was mode file p c, finish, t) at c)))
        (λ t. t)
