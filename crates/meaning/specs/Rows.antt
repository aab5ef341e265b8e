-- A text's rows, and what the rules 14 and 15 ask of them: document 01, "Text to rows"; document 02, request 1.
-- Assumes nothing.
use Rattle.std.specs.Prelude.{ℕ, ◌+◌, ◌*◌, Bool, true, false, cond, not, ◌&&◌, ◌||◌, leb, eqb, length}
use mathlib.Core.List.{List, [], ◌∷◌, tail}
use Rattle.meaning.specs.declared.Token.{Token}
use Rattle.meaning.specs.declared.Rows.{Rows}
use Rattle.meaning.specs.declared.Lines.{Lines}
use Rattle.meaning.specs.declared.Format.{Format}
use Rattle.meaning.specs.Lists.{all, any, keep, take_while, onto_first}
use Rattle.meaning.specs.Codes.{is_character, is_row_end, takes_cell, is_double_height}

-- n row ends make n + 1 rows, empty ones counted
unfoldable pub split_rows : List Token → List (List Token)
split_rows [] = [] ∷ []
split_rows (t ∷ ts) = elim (is_row_end t) [ true ↦ [] ∷ split_rows ts | false ↦ onto_first t (split_rows ts) ]

-- the first row: the tokens before the first row end
unfoldable pub in_row : Token → Bool
in_row t = not (is_row_end t)

unfoldable pub first_row : List Token → List Token
first_row ts = take_while in_row ts

-- a subtitle is double height if 0Dh stands in its first row
abbrev pub is_double : List Token → Bool
is_double ts = any is_double_height (first_row ts)

-- in break mode 2 and double height a pair of 8Ah ends a row
abbrev pub is_paired : ℕ → Bool → Bool
is_paired mode double = eqb mode 2 && double

unfoldable pub breaks_paired : ℕ → List Token → Bool
breaks_paired mode ts = is_paired mode (is_double ts)

-- of each pair of row ends the first; `second` tells that the next row end is the second of its pair
unfoldable pub paired_from : Bool → List Token → List Token
paired_from second [] = []
paired_from second (t ∷ ts) =
    elim (is_row_end t) [
      | true ↦ elim second [ true ↦ paired_from false ts | false ↦ t ∷ paired_from true ts ]
      | false ↦ t ∷ paired_from false ts
    ]

-- the rows of a text where row ends are paired or not, and in a break mode
unfoldable pub rows_of : Bool → List Token → List (List Token)
rows_of paired ts = split_rows (cond paired (paired_from false ts) ts)

abbrev pub rows : ℕ → List Token → List (List Token)
rows mode ts = rows_of (breaks_paired mode ts) ts

-- no 0Dh after a code of 20h or above in its row
unfoldable pub height_first : List Token → Bool
height_first [] = true
height_first (t ∷ ts) = elim (is_character t) [ true ↦ not (any is_double_height ts) | false ↦ height_first ts ]

-- every maximal run of row ends has even length; `odd` tells that an odd number of them stands just before
unfoldable pub even_from : Bool → List Token → Bool
even_from odd [] = not odd
even_from odd (t ∷ ts) =
    elim (is_row_end t) [
      | true ↦ even_from (not odd) ts
      | false ↦ elim odd [ true ↦ false | false ↦ even_from false ts ]
    ]

-- rule 14: the height codes of each row, those of later rows, and the row ends of double height in break mode 2
unfoldable pub heights_right : ℕ → List Token → Bool
heights_right mode ts =
    all height_first (rows mode ts)
    && (is_double ts || not (any (any is_double_height) (tail (rows mode ts))))
    && (not (breaks_paired mode ts) || even_from false ts)

-- rows and lines of the screen are separate counts: a double row covers two lines
unfoldable pub lines_of : Bool → Rows → Lines
lines_of double n = record { 0 = cond double (2 * n.0) n.0 }

unfoldable pub row_count : {A : Type 0} → List A → Rows
row_count rs = record { 0 = length rs }

-- the most cells of a row, controls included
abbrev pub row_limit : ℕ
row_limit = 64

unfoldable pub is_short : List Token → Bool
is_short r = leb (length (keep takes_cell r)) row_limit

-- rule 15: all rows are short, and the lines covered, from line VP on, end before the screen does
unfoldable pub rows_fit : Format → ℕ → List Token → Bool
rows_fit f vp ts =
    all is_short (rows f.mode ts)
    && leb (vp + (lines_of (is_double ts) (row_count (rows f.mode ts))).0) f.screen.end
