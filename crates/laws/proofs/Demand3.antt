-- Demand 3, whole: the document in the buffer shows the file's rows, and no document that does has fewer spans.
-- Assumes nothing.
use Prim.Native.Nat.{ℕ, ◌≤◌}
use native.Mathlib.Omega.{arith}
use mathlib.Core.Path.{◌≡◌, sym, ap, ◌∙◌}
use mathlib.Core.List.{List}
use lib.ListN.{length, take}
use Rattle.meaning.specs.declared.Answer.{Answer}
use Rattle.meaning.specs.Gsi.{format_of, block_count}
use Rattle.meaning.specs.Blocks.{gsi_size}
use Rattle.meaning.specs.declared.Format.{Format}
use Rattle.meaning.specs.Walk.{Subtitle, outcome, subtitles_of}
use Rattle.meaning.specs.Document.{Document, render, document_spans}
use Rattle.meaning.specs.Conversion.{document_of, accepted_answer, answer, output}
use Rattle.meaning.specs.Profile.{in_profile, Writes, Shows, span_elements}
use Rattle.laws.specs.Demands.{FewestSpans}
use Rattle.std.proofs.lemmas.Bool.{and_from}
use Rattle.meaning.proofs.ListLaws.{All}
use Rattle.meaning.proofs.ListLaws.All.{nil, cons}
use Rattle.laws.proofs.FewestInAll.{document-fewest}
use Rattle.laws.proofs.Elements.{elements_are_spans}
use Rattle.laws.proofs.Walk.{Made}
use Rattle.laws.proofs.OwnRows.{SoundRows, own-shows}
use Rattle.laws.proofs.OwnProfile.{Bytes, file-bytes, made-sound, own-paragraphs}
use Rattle.laws.proofs.Accepted.{Accepted, accepted-file, rule-kept, rate-right, front-is-document}

all_sound : (f : Format) {ss : List Subtitle} → All (Made Bytes f) ss → All SoundRows ss
all_sound f nil = nil
all_sound f (cons m h) = cons (made-sound f _ m) (all_sound f h)

module _ (mode : ℕ) (file : List ℕ) (b : Bytes file) (buffer : List ℕ) (e : (answer mode file (length buffer)).number ≡ 0) where
  taken : Accepted Bytes mode file (file-bytes (block_count file) gsi_size file b) buffer
  taken = accepted-file Bytes mode file (file-bytes (block_count file) gsi_size file b) buffer e

  own : Document
  own = document_of (format_of mode file) taken.progress.gathered

  own-written : Writes (take (answer mode file (length buffer)).length (output mode file buffer)) own
  unfolding own in_profile document_of format_of
  own-written =
      record {
        profile =
            and_from _ _ (rate-right mode file (rule-kept mode file taken.progress taken.came))
            (own-paragraphs (format_of mode file) 0 _ taken.progress.gathered taken.held.made taken.held.ready.order);
        bytes = front-is-document taken;
      }

  own-rows : Shows own (subtitles_of (outcome mode file))
  unfolding own document_of subtitles_of
  own-rows =
      rw taken.came
      (own-shows (format_of mode file) taken.progress.gathered (all_sound (format_of mode file) taken.held.made))

  own-count : (answer mode file (length buffer)).spans ≡ document_spans own.paragraphs
  unfolding own accepted_answer
  own-count = ap (λ (a : Answer). a.spans) taken.answered

  others : (other : List ℕ) (d : Document) → other ≡ render d → Shows d (subtitles_of (outcome mode file)) → (answer mode file (length buffer)).spans ≤ span_elements other
  unfolding own document_of subtitles_of
  others other d w s =
      let t : Shows d taken.progress.gathered = rw taken.came at s in
      omega (
        arith,
        own-count,
        document-fewest (format_of mode file) d taken.progress.gathered t,
        ap span_elements w ∙ elements_are_spans d,
      )

  pub fewest-spans : FewestSpans mode file (answer mode file (length buffer)) (output mode file buffer)
  fewest-spans =
      record {
        document = own;
        written = own-written;
        shows = own-rows;
        counted = own-count ∙ sym (ap span_elements own-written.bytes ∙ elements_are_spans own);
        fewest = others;
      }
