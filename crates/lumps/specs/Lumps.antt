-- A check that is fed a file in lumps: the answer at the close, and what a lump does to it: document 02, request 5.
-- Assumes nothing.
use Rattle.std.specs.Prelude.{ℕ, Bool, true, false, cond, ◌&&◌, List, [], ◌∷◌, leb, eqb, length}
use Rattle.meaning.specs.declared.Answer.{Answer}
use Rattle.meaning.specs.declared.Refusal.{Refusal}
use Rattle.meaning.specs.Refusals.{is_good, first_broken}
use Rattle.meaning.specs.Blocks.{gsi_size}
use Rattle.meaning.specs.Gsi.{format_of, gsi_rules}
use Rattle.meaning.specs.Walk.{finish}
use Rattle.meaning.specs.Conversion.{refused_answer}
use Rattle.checking.specs.Passing.{checked_of}
use Rattle.convert.specs.Telling.{answer_of}
use Rattle.feeding.specs.Feeding.{Check, fed}

-- the GSI block is whole, and no block is begun
abbrev pub is_whole_now : Check → Bool
is_whole_now c = leb gsi_size (length c.gsi) && eqb (length c.part) 0

-- the first of the rules 1 to 6 that is broken. Where the file ends is not kept, and no answer tells it.
unfoldable pub rule_now : Check → Refusal
rule_now c = first_broken 0 (gsi_rules c.mode 0 (is_whole_now c) c.count c.gsi)

-- the answer, if the file ends here
unfoldable pub answer_now : Check → Answer
answer_now c =
    elim (is_good (rule_now c)) [
      | false ↦ refused_answer (rule_now c) 0
      | true ↦ answer_of (format_of c.mode c.gsi) c.room (checked_of (finish c.count c.outcome))
    ]

-- a lump; after the close it changes nothing
unfoldable pub feed : Check → List ℕ → Check
feed c lump = cond c.ended c (fed c lump)

-- lumps, one after the other
unfoldable pub feed_all : Check → List (List ℕ) → Check
feed_all c [] = c
feed_all c (l ∷ ls) = feed_all (feed c l) ls
