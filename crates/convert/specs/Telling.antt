-- The answer by what pass one told, and by what the file is.
-- Assumes nothing.
use Rattle.std.specs.Prelude.{◌≡◌, ℕ, Bool, true, false, List, Result, Ok, Err, map, length, replicate}
use Rattle.meaning.specs.declared.Answer.{Answer}
use Rattle.meaning.specs.declared.Counts.{Counts}
use Rattle.meaning.specs.declared.Format.{Format}
use Rattle.meaning.specs.declared.Refusal.{Refusal}
use Rattle.meaning.specs.Looks.{look_count}
use Rattle.meaning.specs.Gsi.{format_of}
use Rattle.meaning.specs.Walk.{Subtitle, Outcome, Progress, outcome}
use Rattle.meaning.specs.Walk.Outcome.{refused, accepted}
use Rattle.meaning.specs.Document.{after_paragraphs, document_looks, document_spans, render}
use Rattle.meaning.specs.Conversion.{paragraph_of, document_of, fits_in, is_too_long, refused_answer, accepted_answer, answer_by}
use Rattle.output.specs.Output.{past, stored}
use Rattle.styles.specs.declared.Marks.{Marks}
use Rattle.text.specs.Laid.{marked_with}
use Rattle.document.specs.Parts.{head_of}
use Rattle.checking.specs.declared.Checked.{Checked}
use Rattle.convert.specs.declared.Accepted.{Accepted}
use Rattle.convert.specs.declared.Refused.{Refused}

-- the marks of the looks in use
unfoldable pub marks_of : Format → List Subtitle → List Bool
marks_of f ss = marked_with (replicate look_count false) (document_looks (map (paragraph_of f) ss))

-- the length of a document with marks and paragraphs of a length, as it is measured
unfoldable pub measured : ℕ → List Bool → ℕ → ℕ
measured rate on body = past (past (past 0 (length (head_of rate on))) body) (length after_paragraphs)

-- the answer by what pass one told
unfoldable pub answer_of : Format → ℕ → Result Checked Refusal → Answer
answer_of f room (Ok c) = answer_by room c.counts (measured f.rate c.marks.on c.tally.at) c.tally.spans
answer_of f room (Err r) = refused_answer r 0

-- a file within the rules 1 to 15, by rule 16: its document's length and spans, its counts, and the marks of the looks in use
unfoldable pub examined_by : ℕ → ℕ → ℕ → Counts → Marks → Result Accepted Refused
examined_by room n spans counts marks =
    elim (fits_in room n) [
      | true ↦ Ok (record { answer = accepted_answer n counts spans; marks = marks })
      | false ↦ Err (record { refusal = is_too_long; needed = n })
    ]

-- .. as pass one told it
unfoldable pub within_room : Format → ℕ → Checked → Result Accepted Refused
within_room f room c = examined_by room (measured f.rate c.marks.on c.tally.at) c.tally.spans c.counts c.marks

-- .. or the rule that pass one refused it by
abbrev pub examined_with : Format → ℕ → Result Checked Refusal → Result Accepted Refused
examined_with f room (Ok c) = within_room f room c
examined_with f room (Err r) = Err (record { refusal = r; needed = 0 })

-- .. as it is
unfoldable pub examined_to : Format → ℕ → Outcome (List Subtitle) → Result Accepted Refused
examined_to f room (refused r) = Err (record { refusal = r; needed = 0 })
examined_to f room (accepted p) =
    let d = document_of f p.gathered in
    examined_by room (length (render d)) (document_spans d.paragraphs) p.counts (record { on = marks_of f p.gathered })

-- a file that is accepted, with its answer, or the rule that it breaks
unfoldable pub examined : ℕ → List ℕ → ℕ → Result Accepted Refused
examined mode file room = examined_to (format_of mode file) room (outcome mode file)

-- the answer to a file that was examined
unfoldable pub answered : Result Accepted Refused → Answer
answered (Ok a) = a.answer
answered (Err r) = refused_answer r.refusal r.needed

-- the document of an accepted file is written over a buffer, by the marks of its looks
pub record WritesDocument (mode : ℕ) (file : List ℕ) (marks : Marks) (buffer buffer' : List ℕ) : Type 0 where
  pub written :
      (p : Progress (List Subtitle)) → outcome mode file ≡ accepted p → marks.on ≡ marks_of (format_of mode file) p.gathered
      → buffer' ≡ stored buffer 0 (render (document_of (format_of mode file) p.gathered))
