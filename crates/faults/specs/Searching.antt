-- What the search for a fault knows of the tokens before a position, and which byte names a row.
-- Assumes nothing.
use Rattle.std.specs.Prelude.{ℕ, ◌-◌, Bool, not, ◌&&◌, ◌||◌, List, [], ◌∷◌}
use Rattle.meaning.specs.declared.Token.{Token}
use Rattle.meaning.specs.Lists.{any}
use Rattle.meaning.specs.Codes.{is_character, is_row_end}
use Rattle.meaning.specs.Rows.{first_row}
use Rattle.meaning.specs.TextRules.{end_first, break_size}
use Rattle.faults.specs.declared.Past.{Past}

-- of the tokens before a position, the nearest first
unfoldable pub past_of : List Token → Past
past_of ts = record { later = any is_row_end ts; character = any is_character (first_row ts); ended = end_first ts }

-- one token more
unfoldable pub with_token : Past → Token → Past
with_token p t =
    record {
      later = is_row_end t || p.later;
      character = not (is_row_end t) && (is_character t || p.character);
      ended = is_row_end t;
    }

-- the byte that names a row which starts at a position: its first, or, where it has none, the first of the break before it
unfoldable pub row_name : Bool → ℕ → List Token → ℕ
row_name paired start [] = start - break_size paired
row_name paired start (t ∷ ts) = start
