-- Runs of codes that stand for the characters of the same numbers.
-- Assumes nothing.
use Rattle.std.specs.Prelude.{ℕ, ◌+◌, Bool, not, ◌&&◌, List, leb, eqb, length, drop}
use Rattle.meaning.specs.declared.Token.{Token}
use Rattle.meaning.specs.declared.Token.TheVariants.{Character}
use Rattle.meaning.specs.Lists.{take_while}
use Rattle.meaning.specs.Glyphs.{single}

-- 20h to 7Eh but 24h, where the Latin table and ASCII agree
unfoldable pub is_plain : ℕ → Bool
is_plain c = leb 32 c && leb c 126 && not (eqb c 36)

-- such a code stands for its own number
abbrev pub plain_token : ℕ → Token
plain_token c = Character (single c)

-- where the run of plain codes from a position on ends
unfoldable pub plain_end : List ℕ → ℕ → ℕ
plain_end s start = start + length (take_while is_plain (drop start s))
