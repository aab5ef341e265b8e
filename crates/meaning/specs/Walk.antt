-- The walk over a file's blocks: sets are judged as they close and gathered, and the refusals come in their order: document 01,
-- "What comes back".
-- Assumes nothing.
use Rattle.std.specs.Prelude.{ℕ, suc, ◌+◌, Bool, true, false, cond, List, [], ◌∷◌, ◌++◌, drop}
use Rattle.std.proofs.Math.Option.{none, some}
use Rattle.meaning.specs.declared.Refusal.{Refusal}
use Rattle.meaning.specs.declared.Token.{Token}
use Rattle.meaning.specs.declared.Counts.{Counts}
use Rattle.meaning.specs.declared.Header.{Header}
use Rattle.meaning.specs.declared.Format.{Format}
use Rattle.meaning.specs.Refusals.{no_refusal, is_good}
use Rattle.meaning.specs.Codes.{tokens}
use Rattle.meaning.specs.Rows.{rows, is_double}
use Rattle.meaning.specs.TextRules.{text_rule}
use Rattle.meaning.specs.Looks.{white_on_black}
use Rattle.meaning.specs.Cells.{Cell, cell_rows}
use Rattle.meaning.specs.Gsi.{format_of, block_count, file_rule}
use Rattle.meaning.specs.Blocks.{gsi_size, blocks, header_of, is_comment}
use Rattle.meaning.specs.Sets.{BlockSet, Assembly, Event, no_blocks, is_user, advance}
use Rattle.meaning.specs.Sets.Event.{broken, pending, closed}

unfoldable pub no_counts : Counts
no_counts = record { subtitles = 0; comments = 0; continuations = 0; users = 0 }

-- the sum of the four counts
unfoldable pub total : Counts → ℕ
total c = c.subtitles + c.comments + c.continuations + c.users

-- one block more, where a set is open or not: each block raises one count, and a set is counted at its first block
abbrev pub counted_by : (ℕ → ℕ) → Bool → Header → Counts → Counts
counted_by more in_set h c =
    cond (is_user h)
    (record { subtitles = c.subtitles; comments = c.comments; continuations = c.continuations; users = more c.users })
    (cond in_set
    (record { subtitles = c.subtitles; comments = c.comments; continuations = more c.continuations; users = c.users })
    (cond (is_comment h)
    (record { subtitles = c.subtitles; comments = more c.comments; continuations = c.continuations; users = c.users })
    (record { subtitles = more c.subtitles; comments = c.comments; continuations = c.continuations; users = c.users })))

unfoldable pub counted : Bool → Header → Counts → Counts
counted in_set h c = counted_by suc in_set h c

unfoldable pub is_open : Assembly → Bool
is_open a = elim a.current [ none ↦ false | some s ↦ true ]

-- what is known of a file that is good so far: its sets, its counts, and what was gathered from the sets that closed
pub record Progress (A : Type 0) : Type 0 where
  pub assembly : Assembly
  pub counts : Counts
  pub gathered : A

pub data Outcome (A : Type 0) : Type 0 where
  refused : Refusal → Outcome A
  accepted : Progress A → Outcome A

-- before the first block
unfoldable pub begun : {A : Type 0} → A → Progress A
begun x = record { assembly = no_blocks; counts = no_counts; gathered = x }

-- after the last block: a set still open is refused at the block count, where no block starts
unfoldable pub finish : {A : Type 0} → ℕ → Outcome A → Outcome A
finish count (refused r) = refused r
finish count (accepted p) = elim (is_open p.assembly) [ true ↦ refused (record { number = 7; place = count; offset = 0 }) | false ↦ accepted p ]

-- a rule over closed sets, and how a set that keeps it is gathered
module _ {A : Type 0} (f : Format) (rule : BlockSet → Refusal) (add : BlockSet → A → A) where
  -- a closed set is judged
  unfoldable pub judge : Counts → A → Event → Outcome A
  judge c x (broken r) = refused r
  judge c x (pending a) = accepted (record { assembly = a; counts = c; gathered = x })
  judge c x (closed s a) =
      elim (is_good (rule s)) [
        | true ↦ accepted (record { assembly = a; counts = c; gathered = add s x })
        | false ↦ refused (rule s)
      ]

  -- one block more; nothing follows a refusal
  unfoldable pub step : ℕ → Outcome A → List ℕ → Outcome A
  step place (refused r) b = refused r
  step place (accepted p) b =
      judge (counted (is_open p.assembly) (header_of b) p.counts) p.gathered (advance f place b p.assembly)

  -- blocks in file order, from a place on
  unfoldable pub steps : ℕ → Outcome A → List (List ℕ) → Outcome A
  steps place o [] = o
  steps place o (b ∷ bs) = steps (suc place) (step place o b) bs

  -- the first n blocks of a file, from what was gathered before them
  unfoldable pub walk : A → List ℕ → ℕ → Outcome A
  walk x file n = steps 0 (accepted (begun x)) (blocks n (drop gsi_size file))

-- the first of the rules 13 to 15 that a closed set breaks; a comment is not tested
unfoldable pub set_rule : Format → BlockSet → Refusal
set_rule f s = cond (is_comment s.first) no_refusal (text_rule f s.place s.first.vp s.text)

-- a subtitle set: its first block's header, and its rows of cells
pub record Subtitle : Type 0 where
  pub first : Header
  pub double : Bool
  pub rows : List (List Cell)

-- a subtitle's rows of cells; it begins white on black in its height
abbrev pub subtitle_rows : ℕ → List Token → List (List Cell)
subtitle_rows mode ts = cell_rows (white_on_black (is_double ts)) (rows mode ts)

unfoldable pub subtitle_of : ℕ → Header → List Token → Subtitle
subtitle_of mode first ts = record { first = first; double = is_double ts; rows = subtitle_rows mode ts }

-- what a closed set adds: a comment nothing
unfoldable pub subtitles_from : Format → BlockSet → List Subtitle
subtitles_from f s = cond (is_comment s.first) [] (subtitle_of f.mode s.first (tokens s.text) ∷ [])

unfoldable pub with_subtitles : Format → BlockSet → List Subtitle → List Subtitle
with_subtitles f s ss = ss ++ subtitles_from f s

-- the rules 1 to 15 over a whole file, and its subtitles in order
unfoldable pub outcome : ℕ → List ℕ → Outcome (List Subtitle)
outcome mode file =
    elim (is_good (file_rule mode file)) [
      | false ↦ refused (file_rule mode file)
      | true ↦ (let f = format_of mode file in finish (block_count file) (walk f (set_rule f) (with_subtitles f) [] file (block_count file)))
    ]

-- a file's subtitles; a refused file has none
unfoldable pub subtitles_of : Outcome (List Subtitle) → List Subtitle
subtitles_of (refused r) = []
subtitles_of (accepted p) = p.gathered
