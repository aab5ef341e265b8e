-- The rule of the composed letters, by one computed test, and that each row is that of its mark.
-- Assumes nothing.
use Prim.Native.Nat.{ℕ, zero, suc, ◌<◌, ◌≤◌}
use native.Mathlib.Omega.{arith}
use native.Mathlib.Nat.{le_of_suc-le-suc, not-suc-le-zero}
use mathlib.Core.Path.{◌≡◌, refl}
use mathlib.Core.Bool.{Bool, true, not, ◌&&◌, ◌||◌}
use mathlib.Core.List.{List, [], ◌∷◌}
use mathlib.Core.Logic.{◌⊎◌, inl, inr, ⊎_elim}
use lib.Dec.{T, leb, eqb}
use lib.ListN.{length, get_or}
use borrow.Author.Tests.{eq-eqb, eqb-true}
use Rattle.std.specs.Prelude.{Some}
use Rattle.std.specs.Option.{option_eq}
use Rattle.meaning.specs.Lists.{all}
use Rattle.meaning.specs.Tables.{composed_table}
use Rattle.meaning.specs.Glyphs.{marks}
use Rattle.meaning.specs.Characters.{accents, accent, letter, composed, mark_of}
use Rattle.laws.specs.Letters.{LettersRule}
use Rattle.std.proofs.lemmas.Bool.{and_parts, or_cases}
use Rattle.meaning.proofs.Logic.{not-both, between}
use Rattle.meaning.proofs.ListLaws.{test_at}

in_range : ℕ → Bool
in_range x = eqb x 0 || (leb 192 x && leb x 7929)

-- 0, or unlike all that follow
unlike : ℕ → List ℕ → Bool
unlike x xs = eqb x 0 || all (λ y. not (eqb x y)) xs

distinct : List ℕ → Bool
distinct [] = true
distinct (x ∷ xs) = unlike x xs && distinct xs

-- the one computed test
test : (length composed_table ≡ 676) × (all in_range composed_table ≡ true) × (distinct composed_table ≡ true)
unfolding all in_range unlike distinct composed_table
test = (refl, refl, refl)

in_range_lem : (x : ℕ) → in_range x ≡ true → (x ≡ 0) ⊎ ((192 ≤ x) × (x ≤ 7929))
unfolding in_range
in_range_lem x e = ⊎_elim (λ f. inl (eqb-true x 0 f)) (λ f. inr (between 192 7929 x f)) (or_cases (eqb x 0) _ e)

unlike-at : (x : ℕ) (xs : List ℕ) → unlike x xs ≡ true → (k : ℕ) → k < length xs → x ≡ get_or xs k 0 → x ≡ 0
unfolding unlike
unlike-at x xs e k h q =
    ⊎_elim (λ f. eqb-true x 0 f)
    (λ f. absurd (not-both (eqb x (get_or xs k 0)) (eq-eqb _ _ q) (test_at (λ y. not (eqb x y)) xs 0 f k h)))
    (or_cases (eqb x 0) _ e)

distinct-at : (xs : List ℕ) → distinct xs ≡ true → (i j : ℕ) → i < j → j < length xs → get_or xs i 0 ≡ get_or xs j 0 → get_or xs i 0 ≡ 0
unfolding distinct
distinct-at [] t i j p q e = refl
distinct-at (x ∷ xs) t i zero p q e = absurd (not-suc-le-zero p)
distinct-at (x ∷ xs) t zero (suc j) p q e = unlike-at x xs (and_parts (unlike x xs) _ t).0 j (le_of_suc-le-suc q) e
distinct-at (x ∷ xs) t (suc i) (suc j) p q e =
    distinct-at xs (and_parts (unlike x xs) _ t).1 i j (le_of_suc-le-suc p) (le_of_suc-le-suc q) e

pub letters_rule : LettersRule composed_table
letters_rule =
    record {
      size = test.0;
      range = λ k h. in_range_lem _ (test_at in_range composed_table 0 test.1 k (omega (arith, test.0)));
      apart = λ i j p q e. distinct-at composed_table test.2 i j p (omega (arith, test.0)) e;
    }

-- a letter of each row, with its code point: the code of an accent and its mark, the code of a letter, the two composed
samples : List (ℕ × ℕ × ℕ × ℕ)
samples =
    (193, 768, 65, 192)
    ∷ (194, 769, 65, 193)
    ∷ (195, 770, 65, 194)
    ∷ (196, 771, 65, 195)
    ∷ (197, 772, 65, 256)
    ∷ (198, 774, 65, 258)
    ∷ (199, 775, 67, 266)
    ∷ (200, 776, 65, 196)
    ∷ (202, 778, 65, 197)
    ∷ (203, 807, 67, 199)
    ∷ (205, 779, 79, 336)
    ∷ (206, 808, 65, 260)
    ∷ (207, 780, 67, 268)
    ∷ []

is_sample : ℕ × ℕ × ℕ × ℕ → Bool
is_sample s = option_eq eqb (mark_of (accent s.0)) (Some s.1) && eqb (composed (accent s.0) (letter s.2)) s.3

marks-right : T (all is_sample samples)
unfolding all samples is_sample marks mark_of accents accent letter composed composed_table
marks-right = tt
