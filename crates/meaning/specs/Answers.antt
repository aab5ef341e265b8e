-- An answer as a list of numbers: document 01, "What comes back".
-- Assumes nothing.
use Rattle.std.specs.Prelude.{ℕ, List, [], ◌∷◌}
use Rattle.meaning.specs.declared.Answer.{Answer}

-- the eight numbers of an answer, in document 01's order
unfoldable pub numbers_of : Answer → List ℕ
numbers_of a =
    a.number ∷ a.place ∷ a.length ∷ a.subtitles ∷ a.comments ∷ a.continuations ∷ a.users ∷ a.spans ∷ []
