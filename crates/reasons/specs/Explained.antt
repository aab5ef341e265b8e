-- What a reason says of its file: the rule that it names fails at its place, and no rule before it does: document 02, request 3.
-- Assumes nothing.
use Rattle.std.specs.Prelude.{ℕ, suc, ◌+◌, ◌-◌, ◌≤◌, ◌<◌, ◌≡◌, Bool, true, false, length}
use mathlib.Core.List.{List, [], flat_map}
use Rattle.std.proofs.Math.Option.{none, some}
use Rattle.meaning.specs.declared.Format.{Format}
use Rattle.meaning.specs.declared.Header.{Header}
use Rattle.meaning.specs.declared.Reason.{Reason}
use Rattle.meaning.specs.Lists.{all, up_from}
use Rattle.meaning.specs.Refusals.{Rule, holds}
use Rattle.meaning.specs.Gsi.{format_of, block_count, file_rules}
use Rattle.meaning.specs.TextRules.{text_rules}
use Rattle.meaning.specs.Blocks.{block_start, ebn_at, block_at, header_of, is_comment, first_block_rules}
use Rattle.meaning.specs.Sets.{BlockSet, Assembly, is_user, begins, goes_on, agreement_rules, advance}
use Rattle.meaning.specs.Sets.Event.{closed}
use Rattle.meaning.specs.Walk.{Subtitle, Progress, Outcome, is_open, walk, set_rule, with_subtitles, outcome}
use Rattle.meaning.specs.Walk.Outcome.{accepted}
use Rattle.meaning.specs.Document.{render}
use Rattle.meaning.specs.Conversion.{document_of, fits_in, answer}
use Rattle.meaning.specs.Reasons.{text_at, byte_at}
use Rattle.reasons.specs.Faults.{Lowest, TextFails, Stands}

-- rule 7, the EBN: where no set is open, that of a first block; else the next, or the last
unfoldable pub ebn_right : Assembly → Header → Bool
ebn_right a h = elim a.current [ none ↦ begins h.ebn | some s ↦ goes_on s.last h.ebn ]

-- the rules of a block whose EBN is right: 8 to 12 of a set's first block, 7 of the others, which agree with the first
unfoldable pub later_rules : Format → Assembly → Header → List Rule
later_rules f a h = elim a.current [ none ↦ first_block_rules f a.least h | some s ↦ agreement_rules s.first h ]

-- what is known of a file after its first n blocks, or the refusal until then
abbrev pub walk_to : ℕ → List ℕ → ℕ → Outcome (List Subtitle)
walk_to mode file n = let f = format_of mode file in walk f (set_rule f) (with_subtitles f) [] file n

-- block j is user data or keeps the rules 7 to 12, and where it closes the set of a subtitle, that keeps the rules 13 to 15; `known` is what
-- is known before it
pub record BlockGood (mode : ℕ) (file : List ℕ) (j : ℕ) : Type 0 where
  pub known : Progress (List Subtitle)
  pub walked : walk_to mode file j ≡ accepted known
  pub ebn : is_user (header_of (block_at file j)) ≡ false → ebn_right known.assembly (header_of (block_at file j)) ≡ true
  pub rules :
      is_user (header_of (block_at file j)) ≡ false
      → all holds (later_rules (format_of mode file) known.assembly (header_of (block_at file j))) ≡ true
  pub text :
      (s : BlockSet) (a : Assembly) → advance (format_of mode file) j (block_at file j) known.assembly ≡ closed s a
      → is_comment s.first ≡ false → all holds (text_rules (format_of mode file) s.first.vp s.text) ≡ true

-- the rules 1 to 6 hold, and those of the blocks before block k and of the sets that closed there; p is what is known by then
pub record GoodBefore (mode : ℕ) (file : List ℕ) (k : ℕ) (p : Progress (List Subtitle)) : Type 0 where
  pub rules : all holds (file_rules mode file) ≡ true
  pub walked : walk_to mode file k ≡ accepted p
  pub blocks : (j : ℕ) → j < k → BlockGood mode file j

-- number, block and offset: what fails there, and what holds before
pub data Explained (mode room : ℕ) (file : List ℕ) : ℕ → ℕ → ℕ → Type 0 where
  -- nothing fails: every block is good, and no set is open at the end
  good :
      (p : Progress (List Subtitle)) → outcome mode file ≡ accepted p
      → GoodBefore mode file (block_count file) p → is_open p.assembly ≡ false
      → fits_in room (length (render (document_of (format_of mode file) p.gathered))) ≡ true
      → Explained mode room file 0 0 (length file)
  -- 1 to 6
  in_file : (n o : ℕ) → Lowest (file_rules mode file) n o → Explained mode room file n 0 o
  -- 7, a wrong EBN, whatever else is wrong in the block
  ebn :
      (k : ℕ) (p : Progress (List Subtitle)) → GoodBefore mode file k p → k < block_count file
      → is_user (header_of (block_at file k)) ≡ false → ebn_right p.assembly (header_of (block_at file k)) ≡ false
      → Explained mode room file 7 k (block_start k + ebn_at)
  -- 7, a disagreement, and 8 to 12
  in_block :
      (k : ℕ) (p : Progress (List Subtitle)) (n o : ℕ) → GoodBefore mode file k p → k < block_count file
      → is_user (header_of (block_at file k)) ≡ false → ebn_right p.assembly (header_of (block_at file k)) ≡ true
      → Lowest (later_rules (format_of mode file) p.assembly (header_of (block_at file k))) n o
      → Explained mode room file n k (block_start k + o)
  -- 7, a set open at the end of the file
  open_set :
      (p : Progress (List Subtitle)) → GoodBefore mode file (block_count file) p → is_open p.assembly ≡ true
      → Explained mode room file 7 (block_count file) (length file)
  -- 13 to 15, when block k closes a set; block k itself breaks none of the rules 7 to 12, or it would close no set
  in_its_text :
      (k : ℕ) (p : Progress (List Subtitle)) (s : BlockSet) (a : Assembly) (n i o : ℕ) → GoodBefore mode file k p → k < block_count file
      → advance (format_of mode file) k (block_at file k) p.assembly ≡ closed s a → is_comment s.first ≡ false
      → s.text ≡ flat_map (text_at file) (up_from (suc k - s.place) s.place)
      → TextFails (format_of mode file) s.first.vp s.text n i → Stands file s.text s.place i o
      → Explained mode room file n s.place o
  -- 16, where nothing else fails
  too_long :
      (p : Progress (List Subtitle)) → outcome mode file ≡ accepted p
      → GoodBefore mode file (block_count file) p → is_open p.assembly ≡ false
      → fits_in room (length (render (document_of (format_of mode file) p.gathered))) ≡ false
      → Explained mode room file 16 0 (length file)

-- What is promised of a reason: number and block are the converter's own, what is named fails there, and the byte is the file's at the offset,
-- which is none exactly at the file's end.
pub record Told (mode : ℕ) (file : List ℕ) (room : ℕ) (r : Reason) : Type 0 where
  pub number : r.number ≡ (answer mode file room).number
  pub block : r.block ≡ (answer mode file room).place
  pub why : Explained mode room file r.number r.block r.offset
  pub within : r.offset ≤ length file
  pub byte : r.byte ≡ byte_at file r.offset
