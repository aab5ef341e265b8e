-- What `explain` puts together is the reason, of which all is told.
-- Assumes nothing.
use Prim.Native.Nat.{ℕ, ◌+◌, ◌≤◌, ◌<◌}
use mathlib.Core.Path.{◌≡◌, refl, sym, subst, ◌∙◌}
use mathlib.Core.Bool.{true, false}
use mathlib.Core.List.{List}
use lib.ListN.{length}
use Rattle.std.specs.Prelude.{Option, Result}
use Rattle.std.specs.Option.{unwrap_or}
use Rattle.std.specs.Result.{result_err}
use Rattle.meaning.specs.declared.Refusal.{Refusal}
use Rattle.meaning.specs.declared.Reason.{Reason}
use Rattle.meaning.specs.Blocks.{block_start}
use Rattle.meaning.specs.Refusals.{no_refusal, is_good, verdict}
use Rattle.meaning.specs.declared.Format.{Format}
use Rattle.meaning.specs.Gsi.{format_of}
use Rattle.meaning.specs.Walk.{Subtitle, Outcome, outcome}
use Rattle.meaning.specs.Walk.Outcome.{refused, accepted}
use Rattle.meaning.specs.Document.{render}
use Rattle.meaning.specs.Conversion.{document_of, fits_in, refusal_to, refusal}
use Rattle.std.proofs.lemmas.Bool.{false≢true}
use Rattle.meaning.proofs.Logic.{by_test}
use Rattle.laws.proofs.Refused.{refusal-bad}
use Rattle.meaning.specs.Reasons.{offset_in, byte_at, reason_of, reason}
use Rattle.reasons.specs.Explained.{Told}
use Rattle.reasons.proofs.Telling.{reason-told, refusal-placed}

-- where no rule is broken, the refusal is that of no rule
none_to :
    (f : Format) (room : ℕ) (o : Outcome (List Subtitle)) → ((r : Refusal) → o ≡ refused r → is_good r ≡ false) → is_good (refusal_to f room o) ≡ true
    → no_refusal ≡ refusal_to f room o
unfolding refusal_to is_good
none_to f room (refused r) bad g = absurd (false≢true (sym (bad r refl) ∙ g))
none_to f room (accepted p) bad g =
    by_test (fits_in room (length (render (document_of f p.gathered)))) (λ t. rw t) (λ t. absurd (false≢true (rw t at g)))

-- the refusal of a file, by its verdict
refusal_named : (mode : ℕ) (file : List ℕ) (room : ℕ) → unwrap_or (result_err (verdict (refusal mode file room))) no_refusal ≡ refusal mode file room
unfolding verdict refusal
refusal_named mode file room =
    let f = format_of mode file in
    let o = outcome mode file in
    by_test (is_good (refusal_to f room o))
    (λ t. rw (t, verdict) (none_to f room o (λ r. refusal-bad mode file) t))
    (λ t. rw (t, verdict))

pub refusal_told :
    (mode : ℕ) (file : List ℕ) (room : ℕ) {v : Result Unit Refusal} {o : Option Refusal} {r : Refusal} → v ≡ verdict (refusal mode file room) → o ≡ result_err v
    → r ≡ unwrap_or o (record { number = 0; place = 0; offset = 0 }) → r ≡ refusal mode file room
unfolding no_refusal
refusal_told mode file room e f g = g ∙ rw (f, e) (refusal_named mode file room)

module _ (mode : ℕ) (file : List ℕ) (room : ℕ) {r : Refusal} (e : r ≡ refusal mode file room) where
  -- the place of a rule of a block is in the file
  pub block-placed : 7 ≤ r.number → r.number < 13 → block_start r.place + r.offset ≤ length file
  block-placed l h = rw e ((refusal-placed mode room file).block (rw e at l) (rw e at h)).2

  pub reported :
      {o : ℕ} {b : Option ℕ} → o ≡ offset_in file r → b ≡ byte_at file o
      → (record { number = r.number; block = r.place; offset = o; byte = b } ≡ reason mode file room)
      × Told mode file room (record { number = r.number; block = r.place; offset = o; byte = b })
  unfolding reason reason_of
  reported {o} {b} d c =
      let z : ◌≡◌ {A = Reason} (record { number = r.number; block = r.place; offset = o; byte = b }) (reason mode file room) = rw (c, d, e) in
      (z, subst (Told mode file room) (sym z) (reason-told mode file room))
