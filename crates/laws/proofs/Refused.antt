-- What an answer other than 0 says: its number is at most 16, and the buffer is untouched. Number and place are those of the refusal.
-- Assumes nothing.
use Prim.Native.Nat.{ℕ, ◌≤◌}
use native.Mathlib.Omega.{arith}
use mathlib.Core.Path.{◌≡◌, refl}
use mathlib.Core.List.{List}
use mathlib.Core.Bool.{false}
use lib.Dec.{leb}
use lib.ListN.{length}
use Rattle.meaning.specs.declared.Refusal.{Refusal}
use Rattle.meaning.specs.declared.Format.{Format}
use Rattle.meaning.specs.declared.Counts.{Counts}
use Rattle.meaning.specs.Refusals.{no_refusal, is_good}
use Rattle.meaning.specs.Gsi.{format_of, block_count}
use Rattle.meaning.specs.Walk.{Subtitle, Outcome, outcome}
use Rattle.meaning.specs.Walk.Outcome.{refused, accepted}
use Rattle.meaning.specs.Document.{render}
use Rattle.meaning.specs.Conversion.{document_of, refusal_to, refusal, refused_answer, accepted_answer, answer_by, answer_to, answer, buffer_after, output}
use Rattle.meaning.proofs.Logic.{by_test}
use Rattle.meaning.proofs.ListLaws.{Any, any-blocks}
use Rattle.laws.proofs.Walk.{Kept}
use Rattle.laws.proofs.Accepted.{outcome-kept}

by_low : (room : ℕ) (c : Counts) (n spans : ℕ) → (answer_by room c n spans).number ≤ 16
unfolding answer_by refused_answer accepted_answer
by_low room c n spans = by_test (leb n room) (λ t. rw (t, answer_by) (omega arith)) (λ t. rw (t, answer_by) (omega arith))

number-low : (f : Format) (n room : ℕ) (o : Outcome (List Subtitle)) → Kept Any f n o → (answer_to f room o).number ≤ 16
unfolding answer_to refused_answer
number-low f n room (refused r) h = omega (arith, h.low)
number-low f n room (accepted p) h = by_low room p.counts _ _

kept-bad : (f : Format) (n : ℕ) {o : Outcome (List Subtitle)} {r : Refusal} → o ≡ refused r → Kept Any f n o → is_good r ≡ false
kept-bad f n e h = let k : Kept Any f n (refused _) = rw e at h in k.bad

untouched :
    (f : Format) (buffer : List ℕ) (o : Outcome (List Subtitle)) → ((answer_to f (length buffer) o).number ≡ 0 → ⊥)
    → buffer_after f buffer o ≡ buffer
unfolding answer_to answer_by accepted_answer buffer_after
untouched f buffer (refused r) z = refl
untouched f buffer (accepted p) z =
    by_test (leb (length (render (document_of f p.gathered))) (length buffer)) (λ t. absurd (z (rw (t, answer_by)))) (λ t. rw (t, buffer_after))

-- number and place are those of the refusal
answered_as :
    (f : Format) (room : ℕ) (o : Outcome (List Subtitle))
    → ((answer_to f room o).number ≡ (refusal_to f room o).number) × ((answer_to f room o).place ≡ (refusal_to f room o).place)
unfolding answer_to answer_by accepted_answer refused_answer refusal_to no_refusal
answered_as f room (refused r) = (refl, refl)
answered_as f room (accepted p) =
    by_test (leb (length (render (document_of f p.gathered))) room) (λ t. rw (t, answer_by) (refl, refl)) (λ t. rw (t, answer_by) (refl, refl))

module _ (mode : ℕ) (file : List ℕ) where
  number_bound : (room : ℕ) → (answer mode file room).number ≤ 16
  unfolding answer
  number_bound room = number-low (format_of mode file) (block_count file) room (outcome mode file) (outcome-kept Any mode file (any-blocks _))

  -- a refusal has a number
  pub refusal-bad : {r : Refusal} → outcome mode file ≡ refused r → is_good r ≡ false
  refusal-bad e = kept-bad (format_of mode file) (block_count file) e (outcome-kept Any mode file (any-blocks _))

  -- there are 16 refusals, and a refusal writes nothing
  pub refused-untouched :
      (buffer : List ℕ)
      → ((answer mode file (length buffer)).number ≤ 16)
      × (((answer mode file (length buffer)).number ≡ 0 → ⊥) → output mode file buffer ≡ buffer)
  unfolding answer output
  refused-untouched buffer = (number_bound (length buffer), untouched (format_of mode file) buffer (outcome mode file))

  pub refusal-answered :
      (room : ℕ)
      → ((answer mode file room).number ≡ (refusal mode file room).number) × ((answer mode file room).place ≡ (refusal mode file room).place)
  unfolding answer refusal
  refusal-answered room = answered_as (format_of mode file) room (outcome mode file)
