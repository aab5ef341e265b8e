-- What an accepted file is promised beside its answer and its buffer: document 01, demand 3.
-- Assumes nothing.
use Rattle.std.specs.Prelude.{ℕ, ◌≤◌, ◌≡◌, List, take}
use Rattle.meaning.specs.declared.Answer.{Answer}
use Rattle.meaning.specs.Walk.{subtitles_of, outcome}
use Rattle.meaning.specs.Document.{Document, render}
use Rattle.meaning.specs.Profile.{Writes, Shows, span_elements}

-- The document in the buffer is of the profile and shows the file's rows; the answer counts its tt:span elements;
-- and no document that shows the same has fewer, whether it is of the profile or not.
pub record FewestSpans (mode : ℕ) (file : List ℕ) (a : Answer) (buffer : List ℕ) : Type 0 where
  pub document : Document
  pub written : Writes (take a.length buffer) document
  pub shows : Shows document (subtitles_of (outcome mode file))
  pub counted : a.spans ≡ span_elements (take a.length buffer)
  pub fewest :
      (other : List ℕ) (d : Document) → other ≡ render d → Shows d (subtitles_of (outcome mode file))
      → a.spans ≤ span_elements other
