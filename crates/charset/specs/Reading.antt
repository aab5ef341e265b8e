-- The reading of a text at a position: the token there and the position after it, what is met from a position on, and the positions
-- after a row and a row end.
-- Assumes nothing.
use Rattle.std.specs.Prelude.{ℕ, zero, suc, ◌+◌, ◌-◌, Bool, true, false, cond, ◌&&◌, List, [], ◌∷◌, ltb, length, get_or, Option, Some, None}
use Rattle.meaning.specs.declared.Token.{Token}
use Rattle.meaning.specs.declared.Token.TheVariants.{Unlisted}
use Rattle.meaning.specs.Codes.{is_accent, code_token, pair_token, is_row_end}
use Rattle.charset.specs.declared.Reading.{Reading}
use Rattle.charset.specs.Plain.{plain_end}

-- an accent with a code after it
unfoldable pub is_pair_at : List ℕ → ℕ → Bool
is_pair_at s i = is_accent (get_or s i 0) && ltb (i + 1) (length s)

-- the token of a code with the one at a position after it, where the code is an accent and the text has the position
unfoldable pub pair_at : List ℕ → ℕ → ℕ → Option Token
pair_at s c after = elim (is_accent c && ltb after (length s)) [ true ↦ Some (pair_token c (get_or s after 0)) | false ↦ None ]

-- past the end nothing is read, and the position stays
unfoldable pub reading_at : List ℕ → ℕ → Reading
reading_at s i =
    cond (ltb i (length s))
    (cond (is_pair_at s i)
    (record { token = pair_token (get_or s i 0) (get_or s (i + 1) 0); next = i + 2 })
    (record { token = code_token (get_or s i 0); next = i + 1 }))
    (record { token = Unlisted; next = i })

abbrev pub token_at : List ℕ → ℕ → Token
token_at s i = (reading_at s i).token

abbrev pub next_at : List ℕ → ℕ → ℕ
next_at s i = (reading_at s i).next

-- the items that are met from a position on in a text of a size, each at the position where the one before it ends, in at most n turns
unfoldable pub met_in : {A : Type 0} → (ℕ → A) → (A → ℕ) → ℕ → ℕ → ℕ → List A
met_in item end zero size i = []
met_in item end (suc n) size i = elim (ltb i size) [ true ↦ item i ∷ met_in item end n size (end (item i)) | false ↦ [] ]

abbrev pub met_from : {A : Type 0} → (ℕ → A) → (A → ℕ) → ℕ → ℕ → List A
met_from item end size i = met_in item end (size - i) size i

-- the readings from a position on, each with its position
unfoldable pub readings_from : List ℕ → ℕ → List (ℕ × Reading)
readings_from s i = met_from (λ j. (j, reading_at s j)) (λ x. x.1.next) (length s) i

-- where the run of plain codes after a reading ends; a row end has none, since the row is over
unfoldable pub run_end : List ℕ → Reading → ℕ
run_end s r = cond (is_row_end r.token) r.next (plain_end s r.next)

-- and those that are met where the run after each is passed over, each with the position after that run
unfoldable pub runs_from : List ℕ → ℕ → List (Reading × ℕ)
runs_from s i = met_from (λ j. (reading_at s j, run_end s (reading_at s j))) (λ x. x.1) (length s) i

-- the position after a row end that stands at i; where none does, i
unfoldable pub after_end_at : List ℕ → ℕ → ℕ
after_end_at s i = cond (is_row_end (token_at s i)) (next_at s i) i

-- the position after the row that starts at i and its row end, read in at most n turns
unfoldable pub after_row_in : ℕ → List ℕ → ℕ → ℕ
after_row_in zero s i = i
after_row_in (suc n) s i = elim (is_row_end (token_at s i)) [ true ↦ next_at s i | false ↦ after_row_in n s (next_at s i) ]

-- the position after the row that starts at i: after its row end, or the text's end
unfoldable pub after_row_at : List ℕ → ℕ → ℕ
after_row_at s i = after_row_in (length s - i) s i
