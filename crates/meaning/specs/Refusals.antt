-- The rule that a file breaks, with the block and the offset where, and rules in their order: document 01, "What comes back"; document 02, request 3.
-- Assumes nothing.
use Rattle.std.specs.Prelude.{ℕ, Bool, true, false, cond, List, [], ◌∷◌, eqb, Result, Ok, Err}
use Rattle.meaning.specs.declared.Refusal.{Refusal}

-- a rule: its number, the offset that names it where it is broken, and whether it holds
abbrev pub Rule : Type 0
Rule = ℕ × ℕ × Bool

abbrev pub holds : Rule → Bool
holds r = r.2

-- no rule is broken
unfoldable pub no_refusal : Refusal
no_refusal = record { number = 0; place = 0; offset = 0 }

unfoldable pub is_good : Refusal → Bool
is_good r = eqb r.number 0

-- the first rule of a list that fails, at a block
unfoldable pub first_broken : ℕ → List Rule → Refusal
first_broken place [] = no_refusal
first_broken place (r ∷ rs) = elim r.2 [ true ↦ first_broken place rs | false ↦ record { number = r.0; place = place; offset = r.1 } ]

-- one rule as a result: it holds, or it is broken at an offset of a block
unfoldable pub kept : Bool → ℕ → ℕ → ℕ → Result Unit Refusal
kept holds number place offset = elim holds [ true ↦ Ok tt | false ↦ Err (record { number = number; place = place; offset = offset }) ]

-- a refusal as a result: no rule is broken, or the first that is
unfoldable pub verdict : Refusal → Result Unit Refusal
verdict r = elim (is_good r) [ true ↦ Ok tt | false ↦ Err r ]

-- The same rules told by a refusal so far, as they are read in turn. No contract is stated so: `RefusalLaws.in_turn_lem` says that this comes to the first
-- that is broken.
unfoldable pub in_turn : Refusal → ℕ → ℕ → ℕ → Bool → Refusal
in_turn r place number offset holds = cond holds r (cond (is_good r) (record { number = number; place = place; offset = offset }) r)

-- and all rules of a list
abbrev pub turns : ℕ → Refusal → List Rule → Refusal
turns place r [] = r
turns place r (x ∷ xs) = turns place (in_turn r place x.0 x.1 x.2) xs
