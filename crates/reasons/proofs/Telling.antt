-- Request 3 of document 02: a reason tells what fails, at its place, and that nothing before it does.
-- Assumes nothing.
use Prim.Native.Nat.{ℕ, ◌≤◌, ◌<◌}
use native.Mathlib.Omega.{arith}
use mathlib.Core.Path.{◌≡◌, refl, sym}
use mathlib.Core.Bool.{Bool, true, false}
use mathlib.Core.List.{List, ◌∷◌}
use lib.Dec.{leb}
use lib.ListN.{length}
use borrow.Author.Tests.{leb-true}
use Rattle.meaning.specs.Refusals.{Rule, is_good, no_refusal, first_broken}
use Rattle.meaning.specs.Gsi.{format_of, file_rules, file_rule}
use Rattle.meaning.specs.Blocks.{gsi_size}
use Rattle.meaning.specs.Walk.{Subtitle, Progress, Outcome, outcome}
use Rattle.meaning.specs.Walk.Outcome.{refused, accepted}
use Rattle.meaning.specs.Document.{render}
use Rattle.meaning.specs.Conversion.{document_of, fits_in, refusal_to, refusal}
use Rattle.meaning.specs.Reasons.{offset_in, reason_of, reason}
use Rattle.std.proofs.lemmas.Bool.{and_parts}
use Rattle.meaning.proofs.Logic.{by_test}
use Rattle.laws.proofs.Refused.{refusal-answered}
use Rattle.reasons.specs.Explained.{Told}
use Rattle.reasons.specs.Explained.Explained.{good, in_file, too_long}
use Rattle.reasons.proofs.RuleOrder.{Each, broken_each, broken-place, file_lowest}
use Rattle.reasons.proofs.BlocksGood.{all-good, none_open}
use Rattle.reasons.proofs.Reported.{Placed, Reported, file-offset}
use Rattle.reasons.proofs.WalkFaults.{ReportedSo, walk_faults}

-- the numbers of the rules 1 to 6
abbrev OfFile : ℕ → ℕ → Type 0
OfFile n o = (1 ≤ n) × (n < 7)

-- and their offsets: behind rule 2 the file has a GSI block
behind_two :
    (b c : Bool) (m : ℕ) (rs : List Rule) → (c ≡ true → Each (λ n o. o ≤ m) rs) → is_good (first_broken 0 ((1, m, b) ∷ (2, m, c) ∷ rs)) ≡ false
    → (first_broken 0 ((1, m, b) ∷ (2, m, c) ∷ rs)).offset ≤ m
unfolding first_broken
behind_two true true m rs h bad = broken_each (λ n o. o ≤ m) 0 rs (h refl) bad
behind_two true false m rs h bad = omega arith
behind_two false c m rs h bad = omega arith

module _ (mode room : ℕ) (file : List ℕ) where
  file-within : is_good (file_rule mode file) ≡ false → (file_rule mode file).offset ≤ length file
  unfolding file_rule file_rules
  file-within bad =
      behind_two _ _ (length file) _
      (λ t. let long = leb-true gsi_size (length file) (and_parts (leb gsi_size (length file)) _ t).0 in omega arith) bad

  file_numbers : is_good (file_rule mode file) ≡ false → OfFile (file_rule mode file).number (file_rule mode file).offset
  unfolding file_rule file_rules
  file_numbers bad = broken_each OfFile 0 (file_rules mode file) (omega arith) bad

  file-place : is_good (file_rule mode file) ≡ false → (file_rule mode file).place ≡ 0
  unfolding file_rule
  file-place bad = broken-place 0 (file_rules mode file) bad

  file-reported : is_good (file_rule mode file) ≡ false → Reported mode room file (file_rule mode file)
  file-reported bad =
      let n = file_numbers bad in
      let high = n.1 in
      let z = file-offset file (file_rule mode file) n.0 high in
      record {
        why = rw (z, file-place bad) (in_file _ _ (file_lowest mode file bad));
        within = rw z (file-within bad);
        placed = record { block = λ x y. absurd (omega arith); text = λ x y. absurd (omega arith) };
      }

  outcome-reported : ReportedSo mode room file (outcome mode file)
  unfolding outcome
  outcome-reported =
      by_test (is_good (file_rule mode file)) (λ t. rw (t, outcome) (walk_faults mode room file t)) (λ t. rw (t, outcome) (file-reported t))

  -- rule 16, and no refusal
  fitting_reported :
      (p : Progress (List Subtitle)) → outcome mode file ≡ accepted p → Reported mode room file (refusal_to (format_of mode file) room (accepted p))
  unfolding refusal_to no_refusal offset_in
  fitting_reported p e =
      by_test (fits_in room (length (render (document_of (format_of mode file) p.gathered))))
      (λ t.
      rw t
      (record {
        why = good p e (all-good mode file p e) (none_open mode file p e) t;
        within = omega arith;
        placed = record { block = λ x y. absurd (omega arith); text = λ x y. absurd (omega arith) };
      }))
      (λ t.
      rw t
      (record {
        why = too_long p e (all-good mode file p e) (none_open mode file p e) t;
        within = omega arith;
        placed = record { block = λ x y. absurd (omega arith); text = λ x y. absurd (omega arith) };
      }))

  refusal_by : (o : Outcome (List Subtitle)) → outcome mode file ≡ o → ReportedSo mode room file o → Reported mode room file (refusal_to (format_of mode file) room o)
  unfolding refusal_to
  refusal_by (refused r) e h = h
  refusal_by (accepted p) e h = fitting_reported p e

  refusal-reported : Reported mode room file (refusal mode file room)
  unfolding refusal
  refusal-reported = refusal_by (outcome mode file) refl outcome-reported

  -- what the offset in the file is reckoned from is in bounds
  pub refusal-placed : Placed file (refusal mode file room)
  refusal-placed = refusal-reported.placed

pub reason-told : (mode : ℕ) (file : List ℕ) (room : ℕ) → Told mode file room (reason mode file room)
unfolding reason reason_of
reason-told mode file room =
    let r = refusal-reported mode room file in
    let a = refusal-answered mode file room in
    record { number = sym a.0; block = sym a.1; why = r.why; within = r.within; byte = refl }
