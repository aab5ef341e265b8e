-- Documents of the profile, their rows, and when one shows a file's rows: document 01, "The document, whole"; document 02, requests 1 and 4.
-- Assumes nothing.
use Rattle.std.specs.Prelude.{ℕ, suc, ◌≡◌, Bool, true, false, ◌&&◌, ◌||◌, List, [], ◌∷◌, ◌++◌, map, ltb, leb, eqb, get_or}
use Rattle.meaning.specs.Lists.{all, onto_first, bytes}
use Rattle.meaning.specs.Looks.{look_count, unpack, shared, free}
use Rattle.meaning.specs.declared.Glyph.{Glyph}
use Rattle.meaning.specs.Glyphs.{is_mark, glyphs}
use Rattle.meaning.specs.Cells.{Cell, is_blank, shown}
use Rattle.meaning.specs.Gsi.{is_rate}
use Rattle.meaning.specs.Blocks.{times_right}
use Rattle.meaning.specs.Walk.{Subtitle}
use Rattle.meaning.specs.Document.{Span, Piece, Paragraph, Document, render}
use Rattle.meaning.specs.Document.Piece.{span, br}

abbrev pub first_surrogate : ℕ
first_surrogate = 55296

-- a code point that UTF-8 writes: no surrogate
unfoldable pub is_scalar : ℕ → Bool
is_scalar p = ltb p first_surrogate || (leb 57344 p && ltb p 1114112)

-- no mark opens a span or follows a mark; `bare` tells that a code point that is no mark stands just before
unfoldable pub marks_stand : Bool → List ℕ → Bool
marks_stand bare [] = true
marks_stand bare (p ∷ ps) = elim (is_mark p) [ true ↦ bare && marks_stand false ps | false ↦ marks_stand true ps ]

-- a span carries one of the s-styles; its characters are divided at will
unfoldable pub piece_in_profile : Piece → Bool
piece_in_profile (span s) = ltb s.look look_count && all is_scalar s.characters && marks_stand false s.characters
piece_in_profile br = true

-- the ids ascend and are SNs, the times are such that rule 11 holds; `least` is the least id that is allowed
unfoldable pub paragraphs_in_profile : ℕ → ℕ → List Paragraph → Bool
paragraphs_in_profile rate least [] = true
paragraphs_in_profile rate least (p ∷ ps) =
    (leb least p.number && ltb p.number 65536 && times_right rate p.begin p.end && all piece_in_profile p.pieces)
    && paragraphs_in_profile rate (suc p.number) ps

-- on data
unfoldable pub in_profile : Document → Bool
in_profile d = is_rate d.rate && paragraphs_in_profile d.rate 0 d.paragraphs

-- on bytes: they are what is written of a document of the profile
pub record Writes (written : List ℕ) (d : Document) : Type 0 where
  pub profile : in_profile d ≡ true
  pub bytes : written ≡ render d

-- a tt:br ends a row, and the last row follows the last tt:br
unfoldable pub document_rows : List Piece → List (List Span)
document_rows [] = [] ∷ []
document_rows (span s ∷ ps) = onto_first s (document_rows ps)
document_rows (br ∷ ps) = [] ∷ document_rows ps

-- a character, of as many code points as it has, is a cell with its span's look
unfoldable pub span_cells : Span → List Cell
span_cells s = map (λ (g : Glyph). record { character = g; look = unpack s.look }) (glyphs s.characters)

unfoldable pub row_cells : List Span → List Cell
row_cells [] = []
row_cells (s ∷ ss) = span_cells s ++ row_cells ss

-- equal in character, in what a span's cells share (background, height, underline) and, blanks apart, in what a blank leaves open
-- (colour, italics)
pub record SameCell (c d : Cell) : Type 0 where
  pub character : c.character ≡ d.character
  pub shares : shared c.look ≡ shared d.look
  pub agrees : is_blank c ≡ false → free c.look ≡ free d.look

-- equal in number and cell by cell
pub data SameCells : List Cell → List Cell → Type 0 where
  none : SameCells [] []
  both : {c d : Cell} {cs ds : List Cell} → SameCell c d → SameCells cs ds → SameCells (c ∷ cs) (d ∷ ds)

-- row i of subtitle k, and of paragraph k; one that is lacking is empty
unfoldable pub subtitle_row : List Subtitle → ℕ → ℕ → List Cell
subtitle_row ss k i = get_or (get_or (map (λ (s : Subtitle). s.rows) ss) k []) i []

unfoldable pub paragraph_row : List Paragraph → ℕ → ℕ → List Span
paragraph_row ps k i = get_or (get_or (map (λ (p : Paragraph). document_rows p.pieces) ps) k []) i []

unfoldable pub Shows : Document → List Subtitle → Type 0
Shows d ss = (k i : ℕ) → SameCells (shown (subtitle_row ss k i)) (shown (row_cells (paragraph_row d.paragraphs k i)))

unfoldable pub starts_with : List ℕ → List ℕ → Bool
starts_with [] s = true
starts_with (a ∷ p) [] = false
starts_with (a ∷ p) (b ∷ s) = elim (eqb a b) [ true ↦ starts_with p s | false ↦ false ]

-- the tt:span elements of a document's bytes: the places where the tag opens
unfoldable pub span_elements : List ℕ → ℕ
span_elements [] = 0
span_elements (b ∷ s) =
    elim (starts_with (bytes "<tt:span ") (b ∷ s)) [ true ↦ suc (span_elements s) | false ↦ span_elements s ]
