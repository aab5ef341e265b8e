-- What is laid over a buffer, and how a closed set is laid.
-- Assumes nothing.
use Rattle.std.specs.Prelude.{◌≡◌, ℕ, Bool, false, cond, length, replicate}
use mathlib.Core.List.{List, [], ◌∷◌, flat_map}
use Rattle.meaning.specs.declared.Format.{Format}
use Rattle.meaning.specs.Looks.{look_count}
use Rattle.meaning.specs.Blocks.{is_comment}
use Rattle.meaning.specs.Sets.{BlockSet}
use Rattle.meaning.specs.Document.{Paragraph, write_paragraph, document_looks}
use Rattle.output.specs.Output.{stored, past}
use Rattle.text.specs.declared.BodyWriter.{BodyWriter}
use Rattle.text.specs.declared.Tally.{Tally}
use Rattle.text.specs.Laid.{marked_with}
use Rattle.document.specs.Parts.{paragraph_for}

-- what is laid: the buffer, the marks, and the tally
pub record Body : Type 0 where
  pub out : List ℕ
  pub marks : List Bool
  pub tally : Tally

-- what a body writer has laid
abbrev pub body_of : BodyWriter → Body
body_of b = record { out = b.writer.now.out.now; marks = b.marks.now; tally = record { at = b.writer.now.at; spans = b.spans } }

-- a body writer still lays over the buffers that it was made from
pub record KeepsBuffers (b b' : BodyWriter) : Type 0 where
  pub writer : b'.writer.ghost_name ≡ b.writer.ghost_name
  pub out : b'.writer.now.out.ghost_name ≡ b.writer.now.out.ghost_name
  pub marks : b'.marks.ghost_name ≡ b.marks.ghost_name

-- a body writer over the same buffers, and what it has laid, as `stands` tells of it, is `a`
pub record LaysAs {A : Type 0} (stands : Body → A) (before : BodyWriter) (a : A) (after : BodyWriter) : Type 0 where
  pub laid : stands (body_of after) ≡ a
  pub buffers : KeepsBuffers before after

-- what it has laid, as it is
abbrev pub Lays : BodyWriter → Body → BodyWriter → Type 0
Lays before p after = LaysAs (λ (q : Body). q) before p after

-- nothing laid yet, with a buffer of no bytes: what is laid is only measured
abbrev pub empty_body : Body
empty_body = record { out = []; marks = replicate look_count false; tally = record { at = 0; spans = 0 } }

-- paragraphs laid behind what is there
unfoldable pub laid : List Paragraph → Body → Body
laid ps p =
    record {
      out = stored p.out p.tally.at (flat_map write_paragraph ps);
      marks = marked_with p.marks (document_looks ps);
      tally = record { at = past p.tally.at (length (flat_map write_paragraph ps)); spans = past p.tally.spans (length (document_looks ps)) };
    }

-- the paragraph of a closed set; a comment has none
unfoldable pub lay_set : Format → BlockSet → Body → Body
lay_set f s p = cond (is_comment s.first) p (laid (paragraph_for f s.first s.text ∷ []) p)
