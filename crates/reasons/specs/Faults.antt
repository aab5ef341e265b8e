-- What it means that a rule is broken at an offset, and at no lower one, in a list of rules and in a text; and where a byte of a set's text
-- stands in the file: document 02, request 3.
-- Assumes nothing.
use Rattle.std.specs.Prelude.{ℕ, suc, ◌+◌, ◌-◌, ◌≤◌, ◌<◌, ◌≡◌, Bool, true, false, not, ◌&&◌, ◌||◌, ltb, leb, eqb, length, get_or, take, drop}
use mathlib.Core.List.{List, [], ◌∷◌, ◌++◌, flat_map}
use Rattle.meaning.specs.declared.Format.{Format}
use Rattle.meaning.specs.Lists.{all, any, up_from}
use Rattle.meaning.specs.Refusals.{Rule, holds}
use Rattle.meaning.specs.Codes.{tokens, is_listed}
use Rattle.meaning.specs.Rows.{is_double, breaks_paired, rows, heights_right, rows_fit}
use Rattle.meaning.specs.TextRules.{before_fault, breaks_codes, breaks_heights, breaks_rows, tokens_before}
use Rattle.meaning.specs.Blocks.{header_size, block_start}
use Rattle.meaning.specs.Reasons.{text_at}

-- a rule of number n is broken, at offset o
unfoldable pub is_broken : ℕ → ℕ → Rule → Bool
is_broken n o r = eqb r.0 n && eqb r.1 o && not (holds r)

-- a rule of a lower number, or of the same number and a lower offset, holds
unfoldable pub holds_before : ℕ → ℕ → Rule → Bool
holds_before n o r = ltb n r.0 || (eqb n r.0 && leb o r.1) || holds r

-- of a list of rules, rule n is broken at offset o: every rule before it holds, and it is broken at no lower offset
pub record Lowest (rs : List Rule) (n o : ℕ) : Type 0 where
  pub fails : any (is_broken n o) rs ≡ true
  pub earliest : all (holds_before n o) rs ≡ true

-- the first element that breaks a rule stands behind n others that do not
pub data First {A : Type 0} (breaks : List A → A → List A → Bool) : List A → List A → ℕ → Type 0 where
  here : {before after : List A} {x : A} → breaks before x after ≡ true → First breaks before (x ∷ after) 0
  later :
      {before after : List A} {x : A} {n : ℕ} → breaks before x after ≡ false → First breaks (x ∷ before) after n
      → First breaks before (x ∷ after) (suc n)

-- a text keeps a rule exactly if no place of it breaks the rule
pub record ToldByPlaces (f : Format) (vp : ℕ) (s : List ℕ) : Type 0 where
  pub codes : all (is_listed f.teletext) (tokens s) ≡ eqb (before_fault (breaks_codes f.teletext) [] (tokens s)) (length (tokens s))
  pub heights :
      heights_right f.mode (tokens s)
      ≡ eqb (before_fault (breaks_heights (is_double (tokens s)) (breaks_paired f.mode (tokens s))) [] (tokens s)) (length (tokens s))
  pub rows :
      rows_fit f vp (tokens s) ≡ eqb (before_fault (breaks_rows f vp (is_double (tokens s))) [] (rows f.mode (tokens s))) (length (rows f.mode (tokens s)))

-- token n of a text starts at byte i: the bytes before it are n tokens, and the text goes on with those from it on. Where the tokens before
-- it are listed there is one such byte.
pub record Starts (s : List ℕ) (n i : ℕ) : Type 0 where
  pub within : i < length s
  pub before : length (tokens (take i s)) ≡ n
  pub whole : tokens s ≡ tokens (take i s) ++ tokens (drop i s)

-- a text breaks rule n at byte i, and the rules before it nowhere: the rule's own test fails, and this is the first place that breaks it
pub data TextFails (f : Format) (vp : ℕ) (s : List ℕ) : ℕ → ℕ → Type 0 where
  -- the first code or pair that is not listed
  code :
      (n i : ℕ) → all (is_listed f.teletext) (tokens s) ≡ false → First (breaks_codes f.teletext) [] (tokens s) n → Starts s n i
      → TextFails f vp s 13 i
  -- the first 0Dh at a wrong place, or the first row end of an odd run
  height :
      (n i : ℕ) → all (is_listed f.teletext) (tokens s) ≡ true → heights_right f.mode (tokens s) ≡ false
      → First (breaks_heights (is_double (tokens s)) (breaks_paired f.mode (tokens s))) [] (tokens s) n → Starts s n i
      → TextFails f vp s 14 i
  -- the first row that is too long or has a line past the last, by its first byte, or by the break before it
  row :
      (n i : ℕ) → all (is_listed f.teletext) (tokens s) ≡ true → heights_right f.mode (tokens s) ≡ true
      → rows_fit f vp (tokens s) ≡ false → First (breaks_rows f vp (is_double (tokens s))) [] (rows f.mode (tokens s)) n
      → Starts s (tokens_before (breaks_paired f.mode (tokens s)) (take n (rows f.mode (tokens s))) (get_or (rows f.mode (tokens s)) n [])) i
      → TextFails f vp s 15 i

-- byte i of the text of a set that begins at a block stands at offset o of the file: it is a byte of the text of a block, and before it stand
-- the texts of the set's blocks before that one, and what stands before it in its own
pub record Stands (file text : List ℕ) (place i o : ℕ) : Type 0 where
  pub at_block : ℕ
  pub index : ℕ
  pub from_place : place ≤ at_block
  pub in_its_text : index < length (text_at file at_block)
  pub offset : o ≡ block_start at_block + header_size + index
  pub before : take i text ≡ flat_map (text_at file) (up_from (at_block - place) place) ++ take index (text_at file at_block)
  pub same : get_or file o 0 ≡ get_or text i 0
