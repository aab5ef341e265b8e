-- What scanning a row, a row end and a whole text says.
-- Assumes nothing.
use Rattle.std.specs.Prelude.{ℕ, ◌≡◌, Bool, true, false, cond, not, ◌||◌, List, drop, Option, Some, None}
use Rattle.meaning.specs.declared.Token.{Token}
use Rattle.meaning.specs.Codes.{tokens, is_row_end}
use Rattle.meaning.specs.Lists.{any}
use Rattle.meaning.specs.Rows.{first_row, rows_of, even_from, is_short}
use Rattle.charset.specs.Reading.{token_at, after_end_at, after_row_at}
use Rattle.rows.specs.declared.RowScan.{RowScan}
use Rattle.rows.specs.declared.Row.{Row}
use Rattle.rows.specs.declared.TextScan.{TextScan}
use Rattle.rows.specs.Scanning.{facts_of_row, facts_of_rows}

-- there is a row end
unfoldable pub is_ended : List Token → Bool
is_ended ts = any is_row_end ts

-- the position after the row end that follows the row from a position on, if one does
unfoldable pub row_end_after : List ℕ → ℕ → Option ℕ
row_end_after s start = elim (is_ended (tokens (drop start s))) [ true ↦ Some (after_row_at s start) | false ↦ None ]

-- the facts of the row, and the position after its row end
pub record Scanned (teletext : Bool) (s : List ℕ) (start : ℕ) (r : RowScan) : Type 0 where
  pub facts : r.facts ≡ facts_of_row teletext (first_row (tokens (drop start s)))
  pub after : r.after ≡ row_end_after s start

-- the row from a position on by itself
unfoldable pub row_at : List ℕ → ℕ → Row
row_at s start = record { short = is_short (first_row (tokens (drop start s))); after = row_end_after s start }

-- where the row after a row end starts: the second row end of a pair is passed over
unfoldable pub next_row_at : List ℕ → Bool → ℕ → ℕ
next_row_at s paired next = cond paired (after_end_at s next) next

-- the same, if that second row end is there, where row ends are paired
unfoldable pub break_end : List ℕ → Bool → ℕ → Option ℕ
break_end s paired next = elim (not paired || is_row_end (token_at s next)) [ true ↦ Some (next_row_at s paired next) | false ↦ None ]

-- the facts of all rows, and whether the runs of row ends are even, where they are paired
pub record TextScanned (teletext : Bool) (s : List ℕ) (paired : Bool) (r : TextScan) : Type 0 where
  pub facts : r.facts ≡ facts_of_rows teletext (rows_of paired (tokens s))
  pub even : r.even ≡ (not paired || even_from false (tokens s))
