-- The character of a cell, with or without a combining mark: document 01, "Text to rows", first paragraph; document 02, request 4.
-- Assumes nothing.
use Rattle.std.specs.Prelude.{ℕ, Bool, true, false, ◌&&◌, List, [], ◌∷◌, eqb, Some, None, is_none, option_to_list}
use Rattle.meaning.specs.declared.Glyph.{Glyph}
use Rattle.meaning.specs.Lists.{any}

-- the combining marks of the thirteen accents, in the order of their codes
unfoldable pub marks : List ℕ
marks = 768 ∷ 769 ∷ 770 ∷ 771 ∷ 772 ∷ 774 ∷ 775 ∷ 776 ∷ 778 ∷ 807 ∷ 779 ∷ 808 ∷ 780 ∷ []

unfoldable pub is_mark : ℕ → Bool
is_mark p = any (eqb p) marks

-- a character of one code point
unfoldable pub single : ℕ → Glyph
single p = record { point = p; mark = None }

-- a character's code points: its own, then its mark, if it has one
unfoldable pub spelling : Glyph → List ℕ
spelling g = g.point ∷ option_to_list g.mark

-- the characters that a span's code points spell, one for each cell: a mark and the code point before it, whatever that is, are one
unfoldable pub glyphs : List ℕ → List Glyph
glyphs [] = []
glyphs (p ∷ []) = single p ∷ []
glyphs (p ∷ q ∷ ps) = elim (is_mark q) [ true ↦ record { point = p; mark = Some q } ∷ glyphs ps | false ↦ single p ∷ glyphs (q ∷ ps) ]

-- U+0020 with nothing on it
abbrev pub space : Glyph
space = record { point = 32; mark = None }

unfoldable pub is_space : Glyph → Bool
is_space g = eqb g.point space.point && is_none g.mark
