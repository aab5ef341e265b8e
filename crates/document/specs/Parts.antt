-- The parts of a document as they are laid: its head, and a paragraph from a header and a text.
-- Assumes nothing.
use Rattle.std.specs.Prelude.{ℕ, Bool, List}
use Rattle.meaning.specs.Lists.{joined}
use Rattle.meaning.specs.Document.{Paragraph, write_paragraph, head_parts, looks_of}
use Rattle.meaning.specs.Conversion.{paragraph_with}
use Rattle.styles.specs.Styles.{looks_marked}
use Rattle.meaning.specs.declared.Header.{Header}
use Rattle.meaning.specs.declared.Format.{Format}
use Rattle.text.specs.declared.BodyWriter.{BodyWriter}
use Rattle.text.specs.Laid.{Laid, content_of}

-- all that stands before the paragraphs
unfoldable pub head_of : ℕ → List Bool → List ℕ
head_of rate on = joined (head_parts rate (looks_marked on))

-- the paragraph of a set: its first block's header, and its text
unfoldable pub paragraph_for : Format → Header → List ℕ → Paragraph
paragraph_for f h text = paragraph_with h (content_of f h.vp text)

-- a paragraph laid after what a body's writer has written
abbrev pub ParagraphLaid : BodyWriter → Paragraph → BodyWriter → Type 0
ParagraphLaid body p body' = Laid body (write_paragraph p) (looks_of p.pieces) body'
