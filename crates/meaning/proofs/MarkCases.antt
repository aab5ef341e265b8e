-- Cases of document 02, request 4, over documents: the cells that a span's code points are, and which documents are outside the profile.
-- Assumes nothing.
use Prim.Native.Nat.{ℕ}
use mathlib.Core.Bool.{Bool, true, false, ◌&&◌, not}
use mathlib.Core.List.{List, [], ◌∷◌, map}
use lib.Dec.{T, eqb}
use Rattle.std.specs.Prelude.{Option, Some, None}
use Rattle.std.specs.Option.{option_eq}
use Rattle.meaning.specs.Lists.{all}
use Rattle.meaning.specs.Cells.{Cell, shown}
use Rattle.meaning.specs.Document.{Span}
use Rattle.meaning.specs.Document.Piece.{span}
use Rattle.meaning.specs.Profile.{piece_in_profile, row_cells}
use Rattle.meaning.proofs.Computed.{computed}

-- the code points of a row's spans, in white on black; whether all are of the profile; and the shown cells, by point and mark
record Case : Type 0 where
  row : List (List ℕ)
  inside : Bool
  cells : List (ℕ × Option ℕ)

spans_of : List (List ℕ) → List Span
spans_of = map (λ (ps : List ℕ). record { look = 7; characters = ps })

same_glyphs : List Cell → List (ℕ × Option ℕ) → Bool
same_glyphs [] [] = true
same_glyphs [] (g ∷ gs) = false
same_glyphs (c ∷ cs) [] = false
same_glyphs (c ∷ cs) (g ∷ gs) = eqb c.character.point g.0 && option_eq eqb c.character.mark g.1 && same_glyphs cs gs

same_test : Bool → Bool → Bool
same_test true b = b
same_test false b = not b

holds : Case → Bool
holds c =
    same_test (all piece_in_profile (map span (spans_of c.row))) c.inside
    && same_glyphs (shown (row_cells (spans_of c.row))) c.cells

cases : List Case
cases =
    -- U+0065 U+0301 is one cell, and another than U+00E9
    record { row = (101 ∷ 769 ∷ []) ∷ []; inside = true; cells = (101, Some 769) ∷ [] }
    ∷ record { row = (233 ∷ []) ∷ []; inside = true; cells = (233, None) ∷ [] }
    -- a space with a mark is no blank, at either end of the row
    ∷ record { row = (32 ∷ 32 ∷ 769 ∷ 65 ∷ 32 ∷ 808 ∷ 32 ∷ []) ∷ []; inside = true; cells = (32, Some 769) ∷ (65, None) ∷ (32, Some 808) ∷ [] }
    -- a mark on a character that has one code point of its own, and on another combining code point
    ∷ record { row = (233 ∷ 807 ∷ 818 ∷ 780 ∷ []) ∷ []; inside = true; cells = (233, Some 807) ∷ (818, Some 780) ∷ [] }
    -- other combining code points, U+0332 and U+0311, and those between the thirteen, U+0305 and U+0309, are characters by themselves
    ∷ record { row = (101 ∷ 818 ∷ 785 ∷ 773 ∷ 777 ∷ []) ∷ []; inside = true; cells = (101, None) ∷ (818, None) ∷ (785, None) ∷ (773, None) ∷ (777, None) ∷ [] }
    -- a mark that opens its span, a mark after a mark
    ∷ record { row = (769 ∷ 101 ∷ []) ∷ []; inside = false; cells = (769, None) ∷ (101, None) ∷ [] }
    ∷ record { row = (101 ∷ 769 ∷ 769 ∷ []) ∷ []; inside = false; cells = (101, Some 769) ∷ (769, None) ∷ [] }
    ∷ record { row = (769 ∷ 769 ∷ []) ∷ []; inside = false; cells = (769, Some 769) ∷ [] }
    -- a span cut between a character and its mark
    ∷ record { row = (101 ∷ []) ∷ (769 ∷ []) ∷ []; inside = false; cells = (101, None) ∷ (769, None) ∷ [] }
    ∷ []

right : T (all holds cases)
unfolding computed spans_of same_glyphs same_test holds cases
right = tt
