-- The reading of a text, clause by clause: an accent with the code after it, or a code by itself.
-- Assumes nothing.
use Prim.Native.Nat.{ℕ}
use mathlib.Core.Path.{◌≡◌, refl}
use mathlib.Core.Bool.{true, false}
use mathlib.Core.List.{List, ◌∷◌}
use Rattle.meaning.specs.Codes.{code_token, pair_token, is_accent, tokens}

module _ (c d : ℕ) (cs : List ℕ) where
  tokens-two :
      tokens (c ∷ d ∷ cs) ≡ elim (is_accent c) [ true ↦ pair_token c d ∷ tokens cs | false ↦ code_token c ∷ tokens (d ∷ cs) ]
  unfolding tokens
  tokens-two = refl

  pub tokens_pair : is_accent c ≡ true → tokens (c ∷ d ∷ cs) ≡ pair_token c d ∷ tokens cs
  tokens_pair e = rw e at tokens-two

  pub tokens-code : is_accent c ≡ false → tokens (c ∷ d ∷ cs) ≡ code_token c ∷ tokens (d ∷ cs)
  tokens-code e = rw e at tokens-two
