-- A block that breaks a rule: a wrong EBN first, then the rules of a set's first block or the agreement with it.
-- Assumes nothing.
use Prim.Native.Nat.{ℕ, ◌<◌}
use native.Mathlib.Omega.{arith}
use mathlib.Core.Path.{◌≡◌, refl}
use mathlib.Core.Bool.{Bool, true, false}
use mathlib.Core.List.{List, ◌∷◌}
use mathlib.Core.Option.{none, some}
use lib.Dec.{eqb}
use Rattle.meaning.specs.declared.Format.{Format}
use Rattle.meaning.specs.declared.Header.{Header}
use Rattle.meaning.specs.Refusals.{Rule, is_good, first_broken}
use Rattle.meaning.specs.Gsi.{format_of, block_count}
use Rattle.meaning.specs.Blocks.{ebn_at, block_at, header_of, block_text, times_rules, time_rules, is_comment, subtitle_rules, first_block_rules}
use Rattle.meaning.specs.Sets.{BlockSet, Event, close_at_last, begins, opening, goes_on, agreement_rules, continuing, is_user, advance}
use Rattle.meaning.specs.Sets.Event.{broken, pending, closed}
use Rattle.meaning.specs.Walk.{Subtitle, Progress}
use Rattle.meaning.proofs.Logic.{by_test, by_option}
use Rattle.laws.proofs.Walk.{by_rules}
use Rattle.reasons.specs.Faults.{Lowest}
use Rattle.reasons.specs.Explained.{ebn_right, later_rules, GoodBefore}
use Rattle.reasons.specs.Explained.Explained.{ebn, in_block}
use Rattle.reasons.proofs.RuleOrder.{Each, broken_each, broken-place, agreement_lowest, first_lowest}
use Rattle.reasons.proofs.Reported.{Reported, InBlock, block-reported}

subtitle_in_block : (f : Format) (h : Header) → Each InBlock (subtitle_rules f h)
unfolding subtitle_rules times_rules time_rules
subtitle_in_block f h = omega arith

first_in_block : (f : Format) (least : ℕ) (h : Header) → Each InBlock (first_block_rules f least h)
unfolding first_block_rules
first_in_block f least h =
    by_test (is_comment h) (λ c. rw c (omega arith)) (λ c. rw c (omega arith, (omega arith, subtitle_in_block f h)))

agreement_in_block : (first h : Header) → Each InBlock (agreement_rules first h)
unfolding agreement_rules
agreement_in_block first h = omega arith

module _ (mode room : ℕ) (file : List ℕ) where
  -- a block that breaks a rule has a reason
  abbrev pub ReportedIf : Event → Type 0
  ReportedIf (broken r) = Reported mode room file r
  ReportedIf (pending a) = Unit {0}
  ReportedIf (closed s a) = Unit {0}

  last-reported : (s : BlockSet) (least : ℕ) → ReportedIf (close_at_last s least)
  unfolding close_at_last
  last-reported s least = by_test (eqb s.last 255) (λ t. rw (t, close_at_last) tt) (λ t. rw (t, close_at_last) tt)

  module _ {k : ℕ} {p : Progress (List Subtitle)} (g : GoodBefore mode file k p) (l : k < block_count file) (u : is_user (header_of (block_at file k)) ≡ false) where
    -- rules behind the EBN
    rules-reported :
        (right : Bool) (rs : List Rule) → ebn_right p.assembly (header_of (block_at file k)) ≡ right
        → later_rules (format_of mode file) p.assembly (header_of (block_at file k)) ≡ rs → Each InBlock rs
        → (is_good (first_broken k rs) ≡ false → Lowest rs (first_broken k rs).number (first_broken k rs).offset)
        → is_good (first_broken k ((7, ebn_at, right) ∷ rs)) ≡ false → Reported mode room file (first_broken k ((7, ebn_at, right) ∷ rs))
    unfolding first_broken
    rules-reported true rs e q i low bad =
        block-reported (first_broken k rs) k l (broken-place k rs bad) (broken_each InBlock k rs i bad)
        (in_block k p _ _ g l u e (rw q (low bad)))
    rules-reported false rs e q i low bad = block-reported _ k l refl (omega arith) (ebn k p g l u e)

    opening-reported :
        p.assembly.current ≡ none
        → ReportedIf (opening (format_of mode file) k (header_of (block_at file k)) (block_text (block_at file k)) p.assembly.least)
    unfolding opening ebn_right later_rules
    opening-reported c =
        let f = format_of mode file in
        let h = header_of (block_at file k) in
        by_rules ReportedIf k _ _ (λ t. last-reported _ _)
        (rules-reported (begins h.ebn) (first_block_rules f p.assembly.least h) (rw (c, ebn_right)) (rw (c, later_rules))
        (first_in_block f p.assembly.least h) (first_lowest f k p.assembly.least h))

    continuing-reported :
        (s : BlockSet) → p.assembly.current ≡ some s
        → ReportedIf (continuing k (header_of (block_at file k)) (block_text (block_at file k)) s p.assembly.least)
    unfolding continuing ebn_right later_rules
    continuing-reported s c =
        let h = header_of (block_at file k) in
        by_rules ReportedIf k _ _ (λ t. last-reported _ _)
        (rules-reported (goes_on s.last h.ebn) (agreement_rules s.first h) (rw (c, ebn_right)) (rw (c, later_rules))
        (agreement_in_block s.first h) (agreement_lowest k s.first h))

  pub block_faults :
      (k : ℕ) (p : Progress (List Subtitle)) → GoodBefore mode file k p → k < block_count file
      → ReportedIf (advance (format_of mode file) k (block_at file k) p.assembly)
  unfolding advance
  block_faults k p g l =
      by_test (is_user (header_of (block_at file k)))
      (λ u. rw (u, advance) tt)
      (λ u. by_option p.assembly.current (λ c. rw (u, c, advance) (opening-reported g l u c)) (λ s c. rw (u, c, advance) (continuing-reported g l u s c)))
