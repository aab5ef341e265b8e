-- A walk that ends in a refusal: at a block, at a set that closes with it, or at a set open at the end of the file.
-- Assumes nothing.
use Prim.Native.Nat.{ℕ, zero, suc, ◌+◌, ◌-◌, ◌%◌, ◌≤◌, ◌<◌}
use native.Mathlib.Omega.{arith}
use native.Mathlib.Numerals.{add-one}
use mathlib.Core.Path.{◌≡◌, refl, sym}
use mathlib.Core.Bool.{true, false}
use mathlib.Core.List.{List, []}
use lib.Dec.{leb}
use lib.ListN.{length}
use borrow.Author.Tests.{leb-true, eqb-true}
use Rattle.meaning.specs.declared.Counts.{Counts}
use Rattle.meaning.specs.declared.Format.{Format}
use Rattle.meaning.specs.Refusals.{is_good, no_refusal}
use Rattle.meaning.specs.Gsi.{format_of, block_count, file_rules, file_rule}
use Rattle.meaning.specs.TextRules.{text_rules, text_rule}
use Rattle.meaning.specs.Blocks.{gsi_size, block_size, block_start, blocks, block_at, is_comment}
use Rattle.meaning.specs.Sets.{BlockSet, Assembly, Event, advance}
use Rattle.meaning.specs.Sets.Event.{broken, pending, closed}
use Rattle.meaning.specs.Walk.{Subtitle, Progress, Outcome, is_open, finish, judge, step, steps, walk, set_rule, with_subtitles}
use Rattle.meaning.specs.Walk.Outcome.{refused, accepted}
use Rattle.meaning.specs.Reasons.{offset_in}
use Rattle.std.proofs.lemmas.Bool.{and_parts, false≢true}
use Rattle.meaning.proofs.Logic.{by_test}
use Rattle.meaning.proofs.RefusalLaws.{unbroken}
use Rattle.laws.proofs.Steps.{walk_more}
use Rattle.reasons.specs.Explained.{walk_to, GoodBefore}
use Rattle.reasons.specs.Explained.Explained.{in_its_text, open_set}
use Rattle.reasons.proofs.RuleOrder.{Each, broken_each, broken-place}
use Rattle.reasons.proofs.TextFaults.{text-fails, text-within}
use Rattle.reasons.proofs.TextOffsets.{set-stands, stands-within}
use Rattle.reasons.proofs.SetTexts.{Known, KnownAfter, advance-known, walked-known}
use Rattle.reasons.proofs.BlocksGood.{good-before}
use Rattle.reasons.proofs.Reported.{Reported, text-offset}
use Rattle.reasons.proofs.BlockFaults.{block_faults}

-- the numbers of the rules of a text
abbrev OfText : ℕ → ℕ → Type 0
OfText n o = (13 ≤ n) × (n < 16)

text_numbered : (f : Format) (vp : ℕ) (s : List ℕ) → Each OfText (text_rules f vp s)
unfolding text_rules
text_numbered f vp s = omega arith

module _ (mode room : ℕ) (file : List ℕ) where
  -- a set that closes and breaks a rule of its text
  module _ (k : ℕ) (p : Progress (List Subtitle)) (g : GoodBefore mode file k p) (l : k < block_count file) (s : BlockSet) (a : Assembly) (c : advance (format_of mode file) k (block_at file k) p.assembly ≡ closed s a) where
    set_known : Known file (format_of mode file) (suc k) s
    set_known =
        let f = format_of mode file in
        (let h : KnownAfter file f (suc k) (closed s a) =
        rw c at (advance-known file f k p.assembly (walked-known file f (set_rule f) (with_subtitles f) [] k p g.walked))
        in h.0)

    subtitle-reported :
        (let r = text_rule (format_of mode file) s.place s.first.vp s.text in is_comment s.first ≡ false → is_good r ≡ false → Reported mode room file r)
    unfolding text_rule
    subtitle-reported n bad =
        let f = format_of mode file in
        let r = text_rule f s.place s.first.vp s.text in
        let w = set_known in
        let b = w.begun in
        let numbers = broken_each OfText s.place (text_rules f s.first.vp s.text) (text_numbered f s.first.vp s.text) bad in
        let place = broken-place s.place (text_rules f s.first.vp s.text) bad in
        let fails = text-fails f s.first.vp (w.line n) s.place s.text bad in
        let stands = set-stands file s.text (suc k - s.place) (block_count file - s.place) s.place r.offset w.text (omega arith) (text-within fails) in
        let o = text-offset file r numbers.0 numbers.1 in
        record {
          why = rw (o, place) (in_its_text k p s a _ _ _ g l c n w.text fails stands);
          within = rw (o, place) (omega (arith, stands-within file stands));
          placed = record { block = λ x y. absurd (omega (arith, numbers.0)); text = λ x y. rw place (omega arith) };
        }

    set-reported : is_good (set_rule (format_of mode file) s) ≡ false → Reported mode room file (set_rule (format_of mode file) s)
    unfolding set_rule no_refusal is_good
    set-reported bad =
        by_test (is_comment s.first)
        (λ n. absurd (false≢true (sym (rw n at bad))))
        (λ n. rw n (subtitle-reported n (rw n at bad)))

  -- an outcome that is a refusal has a reason
  abbrev pub ReportedSo : Outcome (List Subtitle) → Type 0
  ReportedSo (refused r) = Reported mode room file r
  ReportedSo (accepted p) = Unit {0}

  judge-reported :
      (k : ℕ) (p : Progress (List Subtitle)) → GoodBefore mode file k p → k < block_count file → (c : Counts) (e : Event)
      → advance (format_of mode file) k (block_at file k) p.assembly ≡ e
      → ReportedSo (let f = format_of mode file in judge f (set_rule f) (with_subtitles f) c p.gathered e)
  unfolding judge
  judge-reported k p g l c (broken r) q = rw q at (block_faults mode room file k p g l)
  judge-reported k p g l c (pending a) q = tt
  judge-reported k p g l c (closed s a) q =
      by_test (is_good (set_rule (format_of mode file) s)) (λ t. rw (t, judge) tt) (λ t. rw (t, judge) (set-reported k p g l s a q t))

  module _ (good : is_good (file_rule mode file) ≡ true) where
    step-reported :
        (k : ℕ) → k < block_count file → (o : Outcome (List Subtitle)) → walk_to mode file k ≡ o → ReportedSo o
        → ReportedSo (let f = format_of mode file in step f (set_rule f) (with_subtitles f) k o (block_at file k))
    unfolding step
    step-reported k l (refused r) e h = h
    step-reported k l (accepted p) e h = judge-reported k p (good-before mode file k p e good) l _ _ refl

    walk-reported : (n : ℕ) → n ≤ block_count file → ReportedSo (walk_to mode file n)
    walk-reported zero l = unfold walk steps blocks in tt
    walk-reported (suc n) l =
        let f = format_of mode file in
        rw (← add-one n, walk_more f (set_rule f) (with_subtitles f) [] file n)
        (step-reported n (omega arith) (walk_to mode file n) refl (walk-reported n (omega arith)))

    -- rule 2: the file ends where the next block would start
    file-end : length file ≡ block_start (block_count file)
    unfolding file_rule file_rules block_count
    file-end =
        let r₁ = unbroken _ _ _ _ _ good in
        let r₂ = unbroken _ _ _ _ _ r₁.1 in
        let s = and_parts (leb gsi_size (length file)) _ r₂.0 in
        let long = leb-true gsi_size (length file) s.0 in
        let even = eqb-true ((length file - gsi_size) % block_size) 0 s.1 in
        omega arith

    open_reported :
        (p : Progress (List Subtitle)) → walk_to mode file (block_count file) ≡ accepted p → is_open p.assembly ≡ true
        → Reported mode room file (record { number = 7; place = block_count file; offset = 0 })
    unfolding offset_in
    open_reported p e t =
        let z : block_start (block_count file) + 0 ≡ length file = omega (arith, file-end) in
        record {
          why = rw z (open_set p (good-before mode file (block_count file) p e good) t);
          within = rw z (omega arith);
          placed = record { block = λ x y. (omega arith, omega arith, omega arith); text = λ x y. absurd (omega arith) };
        }

    finish-reported : (o : Outcome (List Subtitle)) → walk_to mode file (block_count file) ≡ o → ReportedSo o → ReportedSo (finish (block_count file) o)
    unfolding finish
    finish-reported (refused r) e h = h
    finish-reported (accepted p) e h = by_test (is_open p.assembly) (λ t. rw (t, finish) (open_reported p e t)) (λ t. rw (t, finish) tt)

    pub walk_faults : ReportedSo (finish (block_count file) (walk_to mode file (block_count file)))
    walk_faults = finish-reported (walk_to mode file (block_count file)) refl (walk-reported (block_count file) (omega arith))
