-- Rows with boxes in hindsight: whether a row holds a box code is known when it was read, and then its cells up to and with that of
-- its first box code are hidden.
-- Assumes nothing.
use Rattle.std.specs.Prelude.{ℕ, ◌+◌, false, cond, ◌&&◌, List, [], ◌∷◌, eqb}
use Rattle.meaning.specs.declared.Token.{Token}
use Rattle.meaning.specs.declared.Look.{Look}
use Rattle.meaning.specs.Codes.{takes_cell, is_box_code}
use Rattle.meaning.specs.Looks.{start_look, bit}
use Rattle.meaning.specs.Cells.{Pen}

-- the pen at the start of a row that is read as if a box were open there
abbrev pub boxed_start : Look → Pen
boxed_start l = record { look = start_look l; hidden = false }

-- how many cells stand up to and with that of the first box code, 0 while there is none: after a token, with which there are n cells
unfoldable pub front_after : Token → ℕ → ℕ → ℕ
front_after t front n = cond (is_box_code t && eqb front 0) n front

-- and after tokens, before which there are n cells and `front` is that number
unfoldable pub front_from : ℕ → ℕ → List Token → ℕ
front_from front n [] = front
front_from front n (t ∷ ts) = front_from (front_after t front (n + bit (takes_cell t))) (n + bit (takes_cell t)) ts
