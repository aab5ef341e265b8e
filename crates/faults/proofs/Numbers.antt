-- What the number of the rule that a text breaks tells of the refusal.
-- Assumes nothing.
use Prim.Native.Nat.{ℕ}
use native.Mathlib.Omega.{arith}
use mathlib.Core.Path.{◌≡◌, refl, sym, ap, ◌∙◌}
use mathlib.Core.Bool.{Bool, true, false, cond}
use mathlib.Core.List.{List, [], ◌∷◌}
use lib.Dec.{eqb}
use borrow.Author.Tests.{eq-eqb, ne_eqb}
use Rattle.std.specs.Prelude.{Ok, Err}
use Rattle.meaning.specs.declared.Refusal.{Refusal}
use Rattle.meaning.specs.declared.Format.{Format}
use Rattle.meaning.specs.Codes.{tokens}
use Rattle.meaning.specs.Rows.{heights_right}
use Rattle.meaning.specs.Refusals.{Rule, first_broken, no_refusal, is_good, verdict}
use Rattle.rows.specs.declared.TextRule.{TextRule}
use Rattle.rows.specs.declared.TextRule.TheVariants.{Codes, Heights, Fit}
use Rattle.rows.specs.Scanning.{number_of}
use Rattle.meaning.specs.TextRules.{code_fault, height_fault, row_fault, text_rules, text_rule}

-- the one of three offsets that belongs to a number
abbrev pub by_number : ℕ → ℕ → ℕ → ℕ → ℕ
by_number x y z n = cond (eqb n 13) x (cond (eqb n 14) y (cond (eqb n 15) z 0))

module _ (x y z : ℕ) where
  abbrev three : Bool → Bool → Bool → List Rule
  three a b d = (13, x, a) ∷ (14, y, b) ∷ (15, z, d) ∷ []

  abbrev first : Bool → Bool → Bool → Refusal
  first a b d = first_broken 0 (three a b d)

  offset_of : (a b d : Bool) → (first a b d).offset ≡ by_number x y z (first a b d).number
  unfolding first_broken no_refusal
  offset_of false b d = refl
  offset_of true false d = refl
  offset_of true true false = refl
  offset_of true true true = refl

  holds-before : (a b d : Bool) → (first a b d).number ≡ 15 → b ≡ true
  unfolding first_broken no_refusal
  holds-before false b d e = absurd (omega arith)
  holds-before true false d e = absurd (omega arith)
  holds-before true true d e = refl

  at_place :
      (place : ℕ) (a b d : Bool)
      → cond (eqb (first a b d).number 0) no_refusal (record { number = (first a b d).number; place = place; offset = (first a b d).offset })
      ≡ first_broken place (three a b d)
  unfolding first_broken no_refusal
  at_place place false b d = refl
  at_place place true false d = refl
  at_place place true true false = refl
  at_place place true true true = refl

pub err_number : (r : TextRule) → number_of (Err r) ≡ 0 → ⊥
unfolding number_of
err_number Codes e = absurd (omega arith)
err_number Heights e = absurd (omega arith)
err_number Fit e = absurd (omega arith)

module _ (f : Format) (vp : ℕ) (s : List ℕ) {n : ℕ} (q : n ≡ (text_rule f 0 vp s).number) where
  -- the offset
  pub offset-told : (text_rule f 0 vp s).offset ≡ by_number (code_fault f.teletext s) (height_fault f.mode s) (row_fault f vp s) n
  unfolding text_rule text_rules
  offset-told = offset_of _ _ _ _ _ _ ∙ ap (by_number (code_fault f.teletext s) (height_fault f.mode s) (row_fault f vp s)) (sym q)

  -- rule 14 holds where rule 15 is broken
  pub heights-told : n ≡ 15 → heights_right f.mode (tokens s) ≡ true
  unfolding text_rule text_rules
  heights-told e = holds-before _ _ _ _ _ _ (sym q ∙ e)

  -- and the refusal at any block
  pub rule_told :
      (place : ℕ) {o : ℕ} → o ≡ (text_rule f 0 vp s).offset
      → cond (eqb n 0) no_refusal (record { number = n; place = place; offset = o }) ≡ text_rule f place vp s
  unfolding text_rule text_rules
  rule_told place g = rw (q, g) (at_place _ _ _ place _ _ _)

  pub kept_told : (place : ℕ) → n ≡ 0 → Ok tt ≡ verdict (text_rule f place vp s)
  unfolding verdict is_good no_refusal
  kept_told place z = ap verdict (rw (eq-eqb n 0 z) at (rule_told place refl))

  pub broken_told :
      (place : ℕ) {o : ℕ} → (n ≡ 0 → ⊥) → o ≡ (text_rule f 0 vp s).offset
      → Err (record { number = n; place = place; offset = o }) ≡ verdict (text_rule f place vp s)
  unfolding verdict is_good
  broken_told place {o} ne g =
      let r : verdict (record { number = n; place = place; offset = o }) ≡ Err (record { number = n; place = place; offset = o }) = rw (ne_eqb n 0 ne, verdict) in
      sym r ∙ ap verdict (rw (ne_eqb n 0 ne) at (rule_told place g))

-- the offset of the rule that is broken
module _ (f : Format) (vp : ℕ) (s : List ℕ) {rule : TextRule} (q : number_of (Err rule) ≡ (text_rule f 0 vp s).number) {o : ℕ} where
  pub codes_fault : rule ≡ Codes → o ≡ code_fault f.teletext s → o ≡ (text_rule f 0 vp s).offset
  unfolding number_of
  codes_fault e g = g ∙ sym (offset-told f vp s (rw e at q))

  pub heights_fault : rule ≡ Heights → o ≡ height_fault f.mode s → o ≡ (text_rule f 0 vp s).offset
  unfolding number_of
  heights_fault e g = g ∙ sym (offset-told f vp s (rw e at q))

  pub fit_fault : rule ≡ Fit → o ≡ row_fault f vp s → o ≡ (text_rule f 0 vp s).offset
  unfolding number_of
  fit_fault e g = g ∙ sym (offset-told f vp s (rw e at q))

-- rule 14 holds where rule 15 is the first that is broken
pub fit_heights :
    (f : Format) (vp : ℕ) (s : List ℕ) {rule : TextRule} → number_of (Err rule) ≡ (text_rule f 0 vp s).number → rule ≡ Fit
    → heights_right f.mode (tokens s) ≡ true
unfolding number_of
fit_heights f vp s q e = heights-told f vp s (rw e at q) refl
