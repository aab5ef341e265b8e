-- Numbers of which 0 stands for none, as Options: code points, and the accents and letters, which the definitions count from 1.
-- Assumes nothing.
use Rattle.std.specs.Prelude.{ℕ, zero, suc, true, false, eqb, Option, Some, None}
use Rattle.meaning.specs.declared.Glyph.{Glyph}

-- a code point
unfoldable pub point_of : ℕ → Option ℕ
point_of zero = None
point_of (suc n) = Some (suc n)

-- which of the accents or of the letters a code is, counted from 0
unfoldable pub index_of : ℕ → Option ℕ
index_of zero = None
index_of (suc k) = Some k

-- a character, by its code point
unfoldable pub glyph_of : Glyph → Option Glyph
glyph_of g = elim (eqb g.point 0) [ true ↦ None | false ↦ Some g ]
