-- The rules 1 to 6 over what a check keeps of a file: they are those of the file, but for an offset that no answer tells.
-- Assumes nothing.
use Prim.Native.Nat.{ℕ, suc, ◌-◌, ◌%◌, min}
use native.Mathlib.Omega.{arith}
use mathlib.Core.Path.{◌≡◌, refl, ap, ap₂, ◌∙◌}
use mathlib.Core.Bool.{Bool, true, false, ◌&&◌}
use mathlib.Core.List.{List, ◌∷◌}
use lib.Dec.{eqb}
use lib.ListN.{length, take, drop, length-take, length-drop}
use borrow.Author.Tests.{ne_eqb}
use Rattle.meaning.specs.declared.Answer.{Answer}
use Rattle.meaning.specs.declared.Refusal.{Refusal}
use Rattle.meaning.specs.Refusals.{Rule, is_good, first_broken}
use Rattle.meaning.specs.Blocks.{gsi_size, block_size, block_start}
use Rattle.meaning.specs.Gsi.{tnb, block_count, is_whole, gsi_rules, file_rules, file_rule, most_blocks}
use Rattle.meaning.specs.Conversion.{refused_answer}
use Rattle.meaning.proofs.Logic.{by_le, same_leb}
use Rattle.laws.proofs.Bounds.{tnb-low}
use Rattle.feeding.specs.Standing.{standing}
use Rattle.lumps.specs.Lumps.{is_whole_now, rule_now}
use Rattle.lumps.proofs.Fronts.{rules-front}

-- TNB is not the count of more blocks than it can count
count_now : (file : List ℕ) → eqb (tnb file) (min (block_count file) (suc most_blocks)) ≡ eqb (tnb file) (block_count file)
count_now file =
    let t = tnb-low file in
    by_le (block_count file) most_blocks
    (λ h. let m : min (block_count file) (suc most_blocks) ≡ block_count file = omega arith in rw m)
    (λ h. rw (ne_eqb (tnb file) (block_count file) (λ e. omega arith)) (ne_eqb (tnb file) (min (block_count file) (suc most_blocks)) (λ e. omega arith)))

-- two refusals that are one answer
abbrev pub Alike : Refusal → Refusal → Type 0
Alike r q = refused_answer r 0 ≡ refused_answer q 0

pub alike-good : (r q : Refusal) → Alike r q → is_good r ≡ is_good q
unfolding refused_answer is_good
alike-good r q e = ap (λ (a : Answer). eqb a.number 0) e

-- a rule that stands at one offset or at another
alike-rule :
    (place n o p : ℕ) (b : Bool) (rs qs : List Rule) → Alike (first_broken place rs) (first_broken place qs)
    → Alike (first_broken place ((n, o, b) ∷ rs)) (first_broken place ((n, p, b) ∷ qs))
unfolding first_broken refused_answer
alike-rule place n o p true rs qs h = h
alike-rule place n o p false rs qs h = refl

module _ (mode room : ℕ) (file : List ℕ) where
  -- a file is whole where its GSI block is, and nothing stands behind its last whole block
  whole_now : is_whole_now (standing mode room file) ≡ is_whole (length file)
  unfolding standing block_count
  whole_now =
      let p : length (drop (block_start (block_count file)) file) ≡ (length file - gsi_size) % block_size = simp length-drop (omega arith) in
      ap₂ ◌&&◌
      (same_leb gsi_size (length (take gsi_size file)) gsi_size (length file) (λ h. simp length-take (omega arith)) (λ h. simp length-take (omega arith)))
      (ap (λ (n : ℕ). eqb n 0) p)

  -- the rule that a check tells is that of the file it was fed
  pub rule_now_lem : Alike (rule_now (standing mode room file)) (file_rule mode file)
  unfolding rule_now standing file_rule file_rules
  rule_now_lem =
      ap (λ (rs : List Rule). refused_answer (first_broken 0 rs) 0)
      (rules-front mode 0 (is_whole_now (standing mode room file)) (min (block_count file) (suc most_blocks)) file
      ∙ ap (λ (w : Bool). gsi_rules mode 0 w (min (block_count file) (suc most_blocks)) file) whole_now
      ∙ rw (count_now file))
      ∙ alike-rule 0 1 0 (length file) _ _ _ (alike-rule 0 2 0 (length file) _ _ _ refl)
