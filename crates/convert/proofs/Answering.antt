-- What comes back, by what was examined.
-- Assumes nothing.
use Prim.Native.Nat.{ℕ}
use native.Mathlib.Omega.{arith}
use mathlib.Core.Path.{◌≡◌, refl, sym, ap, ◌∙◌}
use mathlib.Core.Bool.{true, false}
use mathlib.Core.List.{List}
use lib.ListN.{length}
use borrow.Author.Tests.{eq-eqb}
use Rattle.std.specs.Prelude.{Result, Ok, Err}
use Rattle.meaning.specs.declared.Refusal.{Refusal}
use Rattle.meaning.specs.declared.Counts.{Counts}
use Rattle.meaning.specs.declared.Format.{Format}
use Rattle.meaning.specs.Refusals.{no_refusal, is_good, verdict}
use Rattle.meaning.specs.Walk.{Subtitle, Progress, Outcome, subtitles_of}
use Rattle.meaning.specs.Walk.Outcome.{refused, accepted}
use Rattle.meaning.specs.Document.{render}
use Rattle.meaning.specs.Conversion.{document_of, refusal_to, accepted_answer, fits_in, answer_by, answer_to}
use Rattle.std.proofs.lemmas.Bool.{false≢true}
use Rattle.meaning.proofs.Logic.{by_test}
use Rattle.styles.specs.declared.Marks.{Marks}
use Rattle.checking.specs.declared.Checked.{Checked}
use Rattle.convert.specs.declared.Accepted.{Accepted}
use Rattle.convert.specs.declared.Refused.{Refused}
use Rattle.convert.specs.Telling.{marks_of, answer_of, examined_by, within_room, examined_with, examined_to, answered}

-- the answer to a file that was examined, by rule 16
pub answered_by : (room n spans : ℕ) (counts : Counts) (marks : Marks) → answered (examined_by room n spans counts marks) ≡ answer_by room counts n spans
unfolding examined_by answered answer_by
answered_by room n spans counts marks =
    by_test (fits_in room n) (λ t. rw (t, examined_by, answer_by)) (λ t. rw (t, examined_by, answer_by))

-- the answer by what pass one told of a good file
pub answered_with : (f : Format) (room : ℕ) (c : Result Checked Refusal) → answered (examined_with f room c) ≡ answer_of f room c
unfolding within_room answer_of answered
answered_with f room (Ok c) = answered_by room _ c.tally.spans c.counts c.marks
answered_with f room (Err r) = refl

-- an accepted file has answer 0 and the marks of its looks, and a refused one a refusal
abbrev pub IsRight : Format → Outcome (List Subtitle) → Result Accepted Refused → Type 0
IsRight f o (Ok a) = (a.answer.number ≡ 0) × ((p : Progress (List Subtitle)) → o ≡ accepted p → a.marks.on ≡ marks_of f p.gathered)
IsRight f o (Err r) = r.refusal.number ≡ 0 → ⊥

-- the verdict of what was examined
abbrev pub ruled : Result Accepted Refused → Result Unit Refusal
ruled (Ok a) = Ok tt
ruled (Err r) = Err r.refusal

-- a verdict, and the refusal that it is of
module _ (x : Refusal) where
  pub verdict_good : verdict x ≡ Ok tt → is_good x ≡ true
  unfolding verdict
  verdict_good e = by_test (is_good x) (λ t. t) (λ t. let k = rw (t, verdict) at e in absurd (cc))

  pub verdict_bad : {r : Refusal} → verdict x ≡ Err r → (is_good x ≡ false) × (x ≡ r)
  unfolding verdict
  verdict_bad e = by_test (is_good x) (λ t. let k = rw (t, verdict) at e in absurd (cc)) (λ t. let k = rw (t, verdict) at e in (t, cc))

module _ (f : Format) (room : ℕ) where
  pub answered_to : (o : Outcome (List Subtitle)) → answered (examined_to f room o) ≡ answer_to f room o
  unfolding examined_to answer_to answered
  answered_to (refused r) = refl
  answered_to (accepted p) = answered_by room _ _ p.counts _

  pub ruled_to : (o : Outcome (List Subtitle)) → ((r : Refusal) → o ≡ refused r → is_good r ≡ false) → ruled (examined_to f room o) ≡ verdict (refusal_to f room o)
  unfolding examined_to examined_by refusal_to verdict no_refusal is_good
  ruled_to (refused r) bad = rw (bad r refl, verdict)
  ruled_to (accepted p) bad =
      by_test (fits_in room (length (render (document_of f p.gathered))))
      (λ t. rw (t, examined_by))
      (λ t. rw (t, examined_by))

  pub right_to : (o : Outcome (List Subtitle)) → ((r : Refusal) → o ≡ refused r → is_good r ≡ false) → IsRight f o (examined_to f room o)
  unfolding examined_to examined_by accepted_answer subtitles_of is_good
  right_to (refused r) bad = λ z. false≢true (sym (bad r refl) ∙ eq-eqb r.number 0 z)
  right_to (accepted p) bad =
      by_test (fits_in room (length (render (document_of f p.gathered))))
      (λ t. rw (t, examined_by) (refl, λ q e. ap (λ (o : Outcome (List Subtitle)). marks_of f (subtitles_of o)) e))
      (λ t. rw (t, examined_by) (λ z. omega arith))
