-- Single codes and accent pairs: document 01, "Text to rows", first paragraph; document 02, request 4. A code point of 0 stands for none.
-- Assumes nothing.
use Rattle.std.specs.Prelude.{ℕ, zero, suc, ◌+◌, ◌*◌, ◌-◌, true, false, cond, ◌&&◌, List, [], ◌∷◌, leb, eqb, get_or, slice_get, Option, None}
use Rattle.meaning.specs.declared.Glyph.{Glyph}
use Rattle.meaning.specs.Tables.{latin_table, composed_table}
use Rattle.meaning.specs.Glyphs.{marks, single}

-- a code that stands for a character by itself
unfoldable pub latin : ℕ → ℕ
latin c = get_or latin_table c 0

-- which of the thirteen accents each code from C0h to CFh is, from 1; 0 for none: C0h, C9h, CCh
unfoldable pub accents : List ℕ
accents =
    0 ∷ 1 ∷ 2 ∷ 3 ∷ 4 ∷ 5 ∷ 6 ∷ 7 ∷ 8 ∷ 0 ∷ 9 ∷ 10 ∷ 0 ∷ 11 ∷ 12 ∷ 13 ∷ []

unfoldable pub accent : ℕ → ℕ
accent c = elim (leb 192 c) [ true ↦ get_or accents (c - 192) 0 | false ↦ 0 ]

-- which of the 52 letters A to Z, a to z a code is, from 1; 0 for none
unfoldable pub letter : ℕ → ℕ
letter c = cond (leb 65 c && leb c 90) (c - 64) (cond (leb 97 c && leb c 122) (c - 70) 0)

-- the single code point of an accent and a letter, each by its number
unfoldable pub composed : ℕ → ℕ → ℕ
composed zero l = 0
composed (suc a) zero = 0
composed (suc a) (suc l) = get_or composed_table (52 * a + l) 0

-- the mark of an accent, by its number; number 0 has none
unfoldable pub mark_of : ℕ → Option ℕ
mark_of zero = None
mark_of (suc a) = slice_get marks a

-- what a mark stands on where there is no composed letter: the letter, U+00A0 for 20h, nothing for any other code
unfoldable pub base : ℕ → ℕ
base c = cond (eqb c 32) 160 (cond (eqb (letter c) 0) 0 c)

-- the character of an accent, by its number, and the code after it: the composed letter, else a base followed by the mark
unfoldable pub accented : ℕ → ℕ → Glyph
accented a c =
    let p = composed a (letter c) in
    cond (eqb p 0) (record { point = base c; mark = mark_of a }) (single p)
