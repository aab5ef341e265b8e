-- The first element that breaks a rule, or none does; what that says of a text's codes, and of its rows and lines.
-- Assumes nothing.
use Prim.Native.Nat.{ℕ, suc, ◌+◌, ◌≤◌, ◌<◌}
use native.Mathlib.Omega.{arith}
use mathlib.Core.Path.{◌≡◌, refl}
use mathlib.Core.Bool.{Bool, true, false, not}
use mathlib.Core.List.{List, [], ◌∷◌}
use mathlib.Core.Logic.{◌⊎◌, inl, inr}
use lib.ListN.{length}
use borrow.Author.Tests.{ltb-false, not-false}
use Rattle.meaning.specs.declared.Token.{Token}
use Rattle.meaning.specs.declared.Format.{Format}
use Rattle.meaning.specs.Lists.{all}
use Rattle.meaning.specs.Codes.{is_listed}
use Rattle.meaning.specs.Rows.{lines_of, row_count, is_short}
use Rattle.meaning.specs.TextRules.{before_fault, breaks_codes, breaks_rows}
use Rattle.std.proofs.lemmas.Bool.{or_parts}
use Rattle.meaning.proofs.ListLaws.{test-nil, test-cons}
use Rattle.reasons.specs.Faults.{First}
use Rattle.reasons.specs.Faults.First.{here, later}

module _ {A : Type 0} (breaks : List A → A → List A → Bool) where
  -- no element breaks the rule
  abbrev pub Sound : List A → List A → Type 0
  Sound before [] = Unit {0}
  Sound before (x ∷ xs) = (breaks before x xs ≡ false) × Sound (x ∷ before) xs

  pub record Found (before xs : List A) : Type 0 where
    pub first : First breaks before xs (before_fault breaks before xs)
    pub within : before_fault breaks before xs < length xs

  pub found-or-none : (before xs : List A) → Sound before xs ⊎ Found before xs
  unfolding before_fault
  found-or-none before [] = inl tt
  found-or-none before (x ∷ xs) = go (breaks before x xs) refl (found-or-none (x ∷ before) xs)
    where
      go : (b : Bool) → breaks before x xs ≡ b → Sound (x ∷ before) xs ⊎ Found (x ∷ before) xs → Sound before (x ∷ xs) ⊎ Found before (x ∷ xs)
      go true e h = inr (record { first = rw (e, before_fault) (here e); within = rw (e, before_fault) (omega arith) })
      go false e (inl h) = inl (e, h)
      go false e (inr h) = inr (record { first = rw (e, before_fault) (later e h.first); within = rw (e, before_fault) (omega (arith, h.within)) })

-- rule 13
pub sound-codes : (teletext : Bool) (before ts : List Token) → Sound (breaks_codes teletext) before ts → all (is_listed teletext) ts ≡ true
unfolding breaks_codes
sound-codes teletext before [] h = test-nil (is_listed teletext)
sound-codes teletext before (t ∷ ts) h = test-cons _ t ts (not-false _ h.0) (sound-codes teletext (t ∷ before) ts h.1)

-- rule 15: a row that breaks nothing is short, and the lines up to it fit
module _ (f : Format) (vp : ℕ) (double : Bool) where
  pub sound-short : (before rs : List (List Token)) → Sound (breaks_rows f vp double) before rs → all is_short rs ≡ true
  unfolding breaks_rows
  sound-short before [] h = test-nil is_short
  sound-short before (r ∷ rs) h = test-cons _ r rs (not-false _ (or_parts _ _ h.0).0) (sound-short (r ∷ before) rs h.1)

  pub sound_lines :
      (before : List (List Token)) (r : List Token) (rs : List (List Token)) → Sound (breaks_rows f vp double) before (r ∷ rs)
      → vp + (lines_of double (record { 0 = length before + suc (length rs) })).0 ≤ f.screen.end
  unfolding breaks_rows row_count
  sound_lines before r [] h =
      let z : length before + 1 ≡ suc (length before) = omega arith in
      rw z (ltb-false _ _ (or_parts (not (is_short r)) _ h.0).1)
  sound_lines before r (q ∷ rs) h =
      let z : length before + suc (suc (length rs)) ≡ suc (length before) + suc (length rs) = omega arith in
      rw z (sound_lines (r ∷ before) q rs h.1)
