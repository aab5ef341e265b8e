-- The spans of shown cells: document 01, "Text to rows"; document 02, request 1.
-- Assumes nothing.
use Rattle.std.specs.Prelude.{Bool, true, false, ◌&&◌, ◌||◌, List, [], ◌∷◌, ◌++◌, eqb}
use Rattle.meaning.specs.declared.Look.{Look}
use Rattle.meaning.specs.Looks.{white_on_black, shared, free, blend}
use Rattle.meaning.specs.Lists.{all}
use Rattle.meaning.specs.Cells.{Cell, is_blank}

-- a cell can stand in a span of a look
unfoldable pub fits : Look → Cell → Bool
fits l c = eqb (shared c.look) (shared l) && (is_blank c || eqb (free c.look) (free l))

-- the look of the first cell that is no blank; blanks only count as white and upright
unfoldable pub foreground_of : List Cell → Look
foreground_of [] = white_on_black false
foreground_of (c ∷ cs) = elim (is_blank c) [ true ↦ foreground_of cs | false ↦ c.look ]

-- the look of a span
unfoldable pub look_of : List Cell → Look
look_of [] = white_on_black false
look_of (c ∷ cs) = blend c.look (foreground_of (c ∷ cs))

-- equal background, height and underline and, blanks apart, one colour, all italics or none
unfoldable pub uniform : List Cell → Bool
uniform cs = all (fits (look_of cs)) cs

-- from the left, each span as long as it can be; the span so far comes first
unfoldable pub spans_from : List Cell → List Cell → List (List Cell)
spans_from cur [] = cur ∷ []
spans_from cur (c ∷ cs) =
    elim (uniform (cur ++ (c ∷ []))) [
      | true ↦ spans_from (cur ++ (c ∷ [])) cs
      | false ↦ cur ∷ spans_from (c ∷ []) cs
    ]

unfoldable pub spans : List Cell → List (List Cell)
spans [] = []
spans (c ∷ cs) = spans_from (c ∷ []) cs
