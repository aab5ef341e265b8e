-- The rules 13 to 15 over a text, and where it breaks them: document 01, "Text to rows"; document 02, requests 1 and 3.
-- Assumes nothing.
use Rattle.std.specs.Prelude.{ℕ, zero, suc, ◌+◌, ◌-◌, Bool, true, false, cond, not, ◌&&◌, ◌||◌, List, [], ◌∷◌, ltb, length, get_or, take, drop}
use Rattle.meaning.specs.declared.Token.{Token}
use Rattle.meaning.specs.declared.Refusal.{Refusal}
use Rattle.meaning.specs.declared.Format.{Format}
use Rattle.meaning.specs.Lists.{all, any}
use Rattle.meaning.specs.Refusals.{Rule, first_broken}
use Rattle.meaning.specs.Codes.{is_accent, tokens, is_listed, is_character, is_row_end, is_double_height}
use Rattle.meaning.specs.Rows.{first_row, is_double, breaks_paired, rows, heights_right, lines_of, row_count, is_short, rows_fit}

-- How many elements stand before the first that breaks a rule; all of them, where none does. Whether an element does may turn on those
-- before it, the nearest first, and on those after it.
module _ {A : Type 0} (breaks : List A → A → List A → Bool) where
  unfoldable pub before_fault : List A → List A → ℕ
  before_fault before [] = 0
  before_fault before (x ∷ xs) = elim (breaks before x xs) [ true ↦ 0 | false ↦ suc (before_fault (x ∷ before) xs) ]

-- rule 13: a code or an accent pair that is not listed
unfoldable pub breaks_codes : Bool → List Token → Token → List Token → Bool
breaks_codes teletext before t after = not (is_listed teletext t)

-- rule 14: a 0Dh after a character of its row, or in a later row of a single-height subtitle. Of what stands before it, the nearest
-- first, the first row is that of its own row.
unfoldable pub misplaced_height : Bool → List Token → Token → Bool
misplaced_height double before t = is_double_height t && (any is_character (first_row before) || (not double && any is_row_end before))

-- an odd number of row ends stands first
unfoldable pub odd_ends : List Token → Bool
odd_ends [] = false
odd_ends (t ∷ ts) = elim (is_row_end t) [ true ↦ not (odd_ends ts) | false ↦ false ]

-- a row end stands first
unfoldable pub end_first : List Token → Bool
end_first [] = false
end_first (t ∷ ts) = is_row_end t

-- or, where row ends are paired, the first of a run of row ends whose length is odd
unfoldable pub breaks_heights : Bool → Bool → List Token → Token → List Token → Bool
breaks_heights double paired before t after = misplaced_height double before t || (paired && not (end_first before) && odd_ends (t ∷ after))

-- rule 15: a row that is not short, or has a line past the last of the screen
unfoldable pub breaks_rows : Format → ℕ → Bool → List (List Token) → List Token → List (List Token) → Bool
breaks_rows f vp double before row after = not (is_short row) || ltb f.screen.end (vp + (lines_of double (row_count (row ∷ before))).0)

-- the row ends of a break, and the tokens of rows, each with the break after it
abbrev pub break_size : Bool → ℕ
break_size paired = cond paired 2 1

unfoldable pub tokens_in : Bool → List (List Token) → ℕ
tokens_in paired [] = 0
tokens_in paired (r ∷ rs) = length r + break_size paired + tokens_in paired rs

-- the tokens before a row behind other rows; a row without bytes is named by the start of the break before it
unfoldable pub tokens_before : Bool → List (List Token) → List Token → ℕ
tokens_before paired before [] = tokens_in paired before - break_size paired
tokens_before paired before (t ∷ ts) = tokens_in paired before

-- the bytes of a text's first token: an accent is read with the code after it
unfoldable pub first_size : List ℕ → ℕ
first_size [] = 0
first_size (c ∷ []) = 1
first_size (c ∷ d ∷ cs) = cond (is_accent c) 2 1

-- the bytes of a text's first n tokens: where the token after them starts
unfoldable pub bytes_before : ℕ → List ℕ → ℕ
bytes_before zero s = 0
bytes_before (suc n) s = first_size s + bytes_before n (drop (first_size s) s)

-- where a text breaks the rules 13, 14 and 15
unfoldable pub code_fault : Bool → List ℕ → ℕ
code_fault teletext s = bytes_before (before_fault (breaks_codes teletext) [] (tokens s)) s

unfoldable pub height_fault : ℕ → List ℕ → ℕ
height_fault mode s =
    let ts = tokens s in
    bytes_before (before_fault (breaks_heights (is_double ts) (breaks_paired mode ts)) [] ts) s

-- rule 15 is asked where rule 14 holds, so that each break of paired row ends has two of them
unfoldable pub row_fault : Format → ℕ → List ℕ → ℕ
row_fault f vp s =
    let ts = tokens s in
    let rs = rows f.mode ts in
    let n = before_fault (breaks_rows f vp (is_double ts)) [] rs in
    bytes_before (tokens_before (breaks_paired f.mode ts) (take n rs) (get_or rs n [])) s

-- the rules 13 to 15, each with the offset in the text where it is broken
unfoldable pub text_rules : Format → ℕ → List ℕ → List Rule
text_rules f vp s =
    (13, code_fault f.teletext s, all (is_listed f.teletext) (tokens s))
    ∷ (14, height_fault f.mode s, heights_right f.mode (tokens s))
    ∷ (15, row_fault f vp s, rows_fit f vp (tokens s))
    ∷ []

-- the first of them that a text breaks, whose set begins at a place
unfoldable pub text_rule : Format → ℕ → ℕ → List ℕ → Refusal
text_rule f place vp s = first_broken place (text_rules f vp s)
