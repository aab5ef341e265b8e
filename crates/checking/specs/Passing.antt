-- What pass one stands for, the pass after each block, and what it tells.
-- Assumes nothing.
use Rattle.std.specs.Prelude.{ℕ, true, false, List, [], ◌∷◌, Result, Ok, Err}
use Rattle.meaning.specs.declared.Refusal.{Refusal}
use Rattle.meaning.specs.declared.Counts.{Counts}
use Rattle.meaning.specs.declared.Format.{Format}
use Rattle.meaning.specs.Refusals.{no_refusal, is_good}
use Rattle.meaning.specs.Blocks.{header_of}
use Rattle.meaning.specs.Walk.{no_counts, counted_by, is_open, set_rule, Outcome}
use Rattle.meaning.specs.Walk.Outcome.{refused, accepted}
use Rattle.output.specs.Output.{past}
use Rattle.sets.specs.declared.Sets.{Sets}
use Rattle.sets.specs.declared.Step.{Step}
use Rattle.sets.specs.declared.Step.TheVariants.{NoRoom, Pending, Closed}
use Rattle.sets.specs.Assembling.{no_sets, set_of, assembly_of, step_in, text_after}
use Rattle.closed.specs.Body.{Body, lay_set}
use Rattle.checking.specs.declared.Checked.{Checked}
use Rattle.checking.specs.declared.blocks.Pass.{Pass}

-- a pass with its text buffer and what it laid
pub record Passing : Type 0 where
  pub pass : Pass
  pub text : List ℕ
  pub body : Body

abbrev pub passing : Pass → List ℕ → Body → Passing
passing w text p = record { pass = w; text = text; body = p }

-- the pass before the first block
abbrev pub begun_pass : Pass
begun_pass = record { refusal = no_refusal; sets = no_sets; counts = no_counts }

-- what a pass stands for, with its text buffer and what it laid
unfoldable pub outcome_of : Pass → List ℕ → Body → Outcome Body
outcome_of w text body =
    elim (is_good w.refusal) [
      | true ↦ accepted (record { assembly = assembly_of w.sets text; counts = w.counts; gathered = body })
      | false ↦ refused w.refusal
    ]

abbrev pub passing_outcome : Passing → Outcome Body
passing_outcome p = outcome_of p.pass p.text p.body

-- one more, and never above the largest number
abbrev pub more : ℕ → ℕ
more n = past n 1

-- the counts with a block
abbrev pub counts_after : List ℕ → Pass → List ℕ → Counts
counts_after b w text = counted_by more (is_open (assembly_of w.sets text)) (header_of b) w.counts

abbrev pub refused_pass : Pass → Refusal → Pass
refused_pass w r = record { refusal = r; sets = w.sets; counts = w.counts }

abbrev pub going_pass : Pass → Sets → Counts → Pass
going_pass w s c = record { refusal = w.refusal; sets = s; counts = c }

-- a pass after a block, where the block gave the pass or broke a rule
unfoldable pub pass_after : Pass → Result Pass Refusal → Pass
pass_after w (Ok next) = next
pass_after w (Err r) = refused_pass w r

-- a pass after a step, with the counts and the text buffer after it: a set that closes is judged, and laid if it is good
unfoldable pub stepped : Format → Counts → List ℕ → Passing → Result Step Refusal → Passing
stepped f c text p (Err r) = record { pass = refused_pass p.pass r; text = text; body = p.body }
stepped f c text p (Ok NoRoom) = record { pass = p.pass; text = text; body = p.body }
stepped f c text p (Ok (Pending s)) = record { pass = going_pass p.pass s c; text = text; body = p.body }
stepped f c text p (Ok (Closed set s)) =
    elim (is_good (set_rule f (set_of set text))) [
      | false ↦ record { pass = refused_pass p.pass (set_rule f (set_of set text)); text = text; body = p.body }
      | true ↦ record { pass = going_pass p.pass s c; text = text; body = lay_set f (set_of set text) p.body }
    ]

-- one block
unfoldable pub block_taken : Format → ℕ → List ℕ → Passing → Passing
block_taken f place b p =
    stepped f (counts_after b p.pass p.text) (text_after b p.pass.sets p.text) p (step_in f place b p.pass.sets p.text)

-- blocks in file order, from a place on; nothing follows a refusal
unfoldable pub pass_all : Format → ℕ → Passing → List (List ℕ) → Passing
pass_all f place p [] = p
pass_all f place p (b ∷ bs) = elim (is_good p.pass.refusal) [ false ↦ p | true ↦ pass_all f (more place) (block_taken f place b p) bs ]

-- what pass one tells; of a refused file nothing but the refusal
unfoldable pub checked_of : Outcome Body → Result Checked Refusal
checked_of (refused r) = Err r
checked_of (accepted p) = Ok (record { counts = p.counts; tally = p.gathered.tally; marks = record { on = p.gathered.marks } })
