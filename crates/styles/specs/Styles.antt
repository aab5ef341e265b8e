-- The looks that marks say are in use.
-- Assumes nothing.
use Rattle.std.specs.Prelude.{ℕ, ◌+◌, ◌-◌, Bool, false, cond, List, [], ◌∷◌, ltb, get_or}
use Rattle.meaning.specs.Lists.{keep, up_from}
use Rattle.meaning.specs.Looks.{look_count}

unfoldable pub is_on : List Bool → ℕ → Bool
is_on on look = get_or on look false

-- each look below one that is marked, once, ascending
unfoldable pub marked_below : List Bool → ℕ → List ℕ
marked_below on look = keep (is_on on) (up_from look 0)

-- and of all looks
unfoldable pub looks_marked : List Bool → List ℕ
looks_marked on = marked_below on look_count

-- The same told from a look on: each that is marked from there on, and a look with the marked ones after it, none past the last. No contract is stated so:
-- the laws of them in `Laws` are what a search for the next marked look may go by.
unfoldable pub marked_from : List Bool → ℕ → List ℕ
marked_from on look = keep (is_on on) (up_from (look_count - look) look)

unfoldable pub look_and_later : List Bool → ℕ → List ℕ
look_and_later on look = cond (ltb look look_count) (look ∷ marked_from on (look + 1)) []
