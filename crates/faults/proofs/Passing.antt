-- A search for the first element that breaks a rule, seen from those passed so far.
-- Assumes nothing.
use Prim.Native.Nat.{suc, ◌+◌}
use native.Mathlib.Omega.{arith}
use mathlib.Core.Path.{◌≡◌, refl, ap, ◌∙◌}
use mathlib.Core.Bool.{Bool, true, false}
use mathlib.Core.List.{List, [], ◌∷◌}
use lib.ListN.{length}
use Rattle.meaning.specs.TextRules.{before_fault}

-- the elements of a list are those passed, the nearest first, and the rest; none of those passed breaks the rule
pub record Passed {A : Type 0} (breaks : List A → A → List A → Bool) (all past rest : List A) : Type 0 where
  pub count : length past + before_fault breaks past rest ≡ before_fault breaks [] all

module _ {A : Type 0} (breaks : List A → A → List A → Bool) (past : List A) (x : A) (xs : List A) where
  fault_here : breaks past x xs ≡ true → before_fault breaks past (x ∷ xs) ≡ 0
  unfolding before_fault
  fault_here e = rw (e, before_fault)

  fault_later : breaks past x xs ≡ false → before_fault breaks past (x ∷ xs) ≡ suc (before_fault breaks (x ∷ past) xs)
  unfolding before_fault
  fault_later e = rw (e, before_fault)

fault_none : {A : Type 0} (breaks : List A → A → List A → Bool) (past : List A) → before_fault breaks past [] ≡ 0
unfolding before_fault
fault_none breaks past = refl

module _ {A : Type 0} {breaks : List A → A → List A → Bool} {all : List A} where
  pub passed_start : Passed breaks all [] all
  passed_start = record { count = omega arith }

  module _ {past rest : List A} (p : Passed breaks all past rest) where
    module _ {x : A} {xs : List A} (f : rest ≡ x ∷ xs) where
      -- the first that breaks the rule
      pub passed-found : breaks past x xs ≡ true → length past ≡ before_fault breaks [] all
      passed-found e = omega (arith, ap (before_fault breaks past) f ∙ fault_here breaks past x xs e, p.count)

      -- one more that does not
      pub passed-more : breaks past x xs ≡ false → Passed breaks all (x ∷ past) xs
      passed-more e = record { count = omega (arith, ap (before_fault breaks past) f ∙ fault_later breaks past x xs e, p.count) }

    -- none does
    pub passed-end : rest ≡ [] → length past ≡ before_fault breaks [] all
    passed-end f = omega (arith, ap (before_fault breaks past) f ∙ fault_none breaks past, p.count)
