-- Sets of blocks, put together block by block: document 01, "The file", and the rules 7 to 12 of "What comes back"; document 02, request 3.
-- Assumes nothing.
use Rattle.std.specs.Prelude.{ℕ, suc, Bool, true, false, ◌&&◌, ◌||◌, List, [], ◌∷◌, ◌++◌, ltb, eqb}
use Rattle.std.proofs.Math.Option.{Option, none, some}
use Rattle.meaning.specs.declared.Refusal.{Refusal}
use Rattle.meaning.specs.declared.Header.{Header}
use Rattle.meaning.specs.declared.Format.{Format}
use Rattle.meaning.specs.Refusals.{Rule, is_good, first_broken}
use Rattle.meaning.specs.Blocks.{sgn_at, sn_at, ebn_at, cf_at, header_of, block_text, first_block_rules}

-- a set so far: its first block's place and header, the EBN of its last block, and its text
pub record BlockSet : Type 0 where
  pub place : ℕ
  pub first : Header
  pub last : ℕ
  pub text : List ℕ

-- what is known after some blocks: the least SN that the next set may have, and the set that is not closed yet
pub record Assembly : Type 0 where
  pub least : ℕ
  pub current : Option BlockSet

-- what one block brings: a broken rule, no closed set, or one
pub data Event : Type 0 where
  broken : Refusal → Event
  pending : Assembly → Event
  closed : BlockSet → Assembly → Event

-- the EBN of a set's last block, and of user data; the blocks before the last are numbered from 00h on, below F0h
abbrev pub last_block : ℕ
last_block = 255

abbrev pub user_block : ℕ
user_block = 254

abbrev pub numbered_blocks : ℕ
numbered_blocks = 240

unfoldable pub no_blocks : Assembly
no_blocks = record { least = 0; current = none }

-- what follows if no rule is broken
unfoldable pub unless : Refusal → Event → Event
unless r e = elim (is_good r) [ true ↦ e | false ↦ broken r ]

-- a set with one block more: EBN FFh closes it
unfoldable pub close_at_last : BlockSet → ℕ → Event
close_at_last s least =
    elim (eqb s.last last_block) [
      | true ↦ closed s (record { least = least; current = none })
      | false ↦ pending (record { least = least; current = some s })
    ]

-- the EBN of a set's first block
unfoldable pub begins : ℕ → Bool
begins ebn = eqb ebn 0 || eqb ebn last_block

-- a block where no set is open, its header and its text: EBN 00h or FFh, then the rules 8 to 12
unfoldable pub opening : Format → ℕ → Header → List ℕ → ℕ → Event
opening f place h text least =
    unless (first_broken place ((7, ebn_at, begins h.ebn) ∷ first_block_rules f least h))
    (close_at_last (record { place = place; first = h; last = h.ebn; text = text }) (suc h.sn))

-- the next EBN, at most EFh, or FFh
unfoldable pub goes_on : ℕ → ℕ → Bool
goes_on last ebn = eqb ebn last_block || (eqb ebn (suc last) && ltb ebn numbered_blocks)

-- all blocks of a set agree in SGN, SN and CF
unfoldable pub agreement_rules : Header → Header → List Rule
agreement_rules first h = (7, sgn_at, eqb h.sgn first.sgn) ∷ (7, sn_at, eqb h.sn first.sn) ∷ (7, cf_at, eqb h.cf first.cf) ∷ []

-- a block of an open set: its EBN comes before any disagreement
unfoldable pub continuing : ℕ → Header → List ℕ → BlockSet → ℕ → Event
continuing place h text s least =
    unless (first_broken place ((7, ebn_at, goes_on s.last h.ebn) ∷ agreement_rules s.first h))
    (close_at_last (record { place = s.place; first = s.first; last = h.ebn; text = s.text ++ text }) least)

-- user data
unfoldable pub is_user : Header → Bool
is_user h = eqb h.ebn user_block

-- one block; user data is passed over wherever it stands
unfoldable pub advance : Format → ℕ → List ℕ → Assembly → Event
advance f place b a =
    elim (is_user (header_of b)) [
      | true ↦ pending a
      | false ↦
          elim a.current [
            | none ↦ opening f place (header_of b) (block_text b) a.least
            | some s ↦ continuing place (header_of b) (block_text b) s a.least
          ]
    ]
