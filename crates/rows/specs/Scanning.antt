-- What the rules 13 to 15 need to know of a row and of all rows, gathered from the left.
-- Assumes nothing.
use Rattle.std.specs.Prelude.{ℕ, ◌+◌, min, Bool, cond, not, ◌&&◌, ◌||◌, List, ltb, leb, length, Option, Result, Ok, Err}
use Rattle.meaning.specs.declared.Token.{Token}
use Rattle.meaning.specs.declared.Format.{Format}
use Rattle.meaning.specs.Lists.{all, any, keep}
use Rattle.meaning.specs.Codes.{is_listed, is_character, takes_cell, is_double_height}
use Rattle.meaning.specs.Rows.{height_first, row_limit, is_short, lines_of}
use Rattle.rows.specs.declared.RowFacts.{RowFacts}
use Rattle.rows.specs.declared.Row.{Row}
use Rattle.rows.specs.declared.TextFacts.{TextFacts}
use Rattle.rows.specs.declared.TextRule.{TextRule}
use Rattle.rows.specs.declared.TextRule.TheVariants.{Codes, Heights, Fit}

-- Cells and rows are counted up to it. It is above every limit that a rule sets, so no rule can tell such counts apart.
abbrev pub count_limit : ℕ
count_limit = 256

-- the facts of a row, in teletext or in open subtitles
unfoldable pub facts_of_row : Bool → List Token → RowFacts
facts_of_row teletext ts =
    record {
      cells = min (length (keep takes_cell ts)) count_limit;
      listed = all (is_listed teletext) ts;
      height = any is_double_height ts;
      character = any is_character ts;
      ordered = height_first ts;
    }

-- one token more
unfoldable pub with_token : Bool → RowFacts → Token → RowFacts
with_token teletext f t =
    record {
      cells = cond (takes_cell t) (min (f.cells + 1) count_limit) f.cells;
      listed = is_listed teletext t && f.listed;
      height = is_double_height t || f.height;
      character = is_character t || f.character;
      ordered = not (is_double_height t && f.character) && f.ordered;
    }

-- n characters more; which ones makes no difference
unfoldable pub with_characters : RowFacts → ℕ → RowFacts
with_characters f n =
    record {
      cells = min (f.cells + n) count_limit;
      listed = f.listed;
      height = f.height;
      character = f.character || ltb 0 n;
      ordered = f.ordered;
    }

-- a row by itself, with its end
abbrev pub with_end : RowFacts → Option ℕ → Row
with_end f after = record { short = leb f.cells row_limit; after = after }

-- the facts of all rows
unfoldable pub facts_of_rows : Bool → List (List Token) → TextFacts
facts_of_rows teletext rs =
    record {
      listed = all (all (is_listed teletext)) rs;
      height = any (any is_double_height) rs;
      ordered = all height_first rs;
      short = all is_short rs;
      rows = min (length rs) count_limit;
    }

-- one row more
unfoldable pub with_row : TextFacts → RowFacts → TextFacts
with_row a f =
    record {
      listed = f.listed && a.listed;
      height = f.height || a.height;
      ordered = f.ordered && a.ordered;
      short = leb f.cells row_limit && a.short;
      rows = min (a.rows + 1) count_limit;
    }

-- the number of the rule that is broken, 0 where none is
unfoldable pub number_of : Result Unit TextRule → ℕ
number_of (Ok u) = 0
number_of (Err Codes) = 13
number_of (Err Heights) = 14
number_of (Err Fit) = 15

-- the first of the rules that does not hold
unfoldable pub first_failed : Bool → Bool → Bool → Result Unit TextRule
first_failed listed heights fits = cond (not listed) (Err Codes) (cond (not heights) (Err Heights) (cond (not fits) (Err Fit) (Ok tt)))

-- the rule that the facts of a text break
unfoldable pub rule_of : TextFacts → Bool → Bool → Format → ℕ → Result Unit TextRule
rule_of t double even f vp =
    first_failed t.listed (t.ordered && (double || not t.height) && even)
    (t.short && leb (vp + (lines_of double (record { 0 = t.rows })).0) f.screen.end)
