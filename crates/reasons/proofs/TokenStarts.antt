-- Where a token starts: the bytes before it are the tokens before it, and the text goes on with those from it on.
-- Assumes nothing.
use Prim.Native.Nat.{ℕ, zero, suc, ◌+◌, ◌<◌}
use native.Mathlib.Omega.{arith}
use mathlib.Core.Path.{◌≡◌, refl, ap}
use mathlib.Core.Bool.{true, false}
use mathlib.Core.List.{List, [], ◌∷◌}
use lib.ListN.{length, take}
use Rattle.meaning.specs.declared.Token.{Token}
use Rattle.meaning.specs.Codes.{code_token, pair_token, is_accent, tokens}
use Rattle.meaning.specs.TextRules.{first_size, bytes_before}
use Rattle.meaning.proofs.Logic.{by_test}
use Rattle.meaning.proofs.Tokens.{tokens_pair, tokens-code}
use Rattle.reasons.specs.Faults.{Starts}

-- a code that is no accent, whatever follows it
code-first : (c : ℕ) (s : List ℕ) → is_accent c ≡ false → tokens (c ∷ s) ≡ code_token c ∷ tokens s
code-first c [] e = unfold tokens in refl
code-first c (d ∷ s) e = tokens-code c d s e

-- a token in front, of one byte or two
starts_code : (c : ℕ) (s : List ℕ) (n i : ℕ) → is_accent c ≡ false → Starts s n i → Starts (c ∷ s) (suc n) (suc i)
starts_code c s n i e h =
    record {
      within = omega (arith, h.within);
      before = rw (code-first c (take i s) e) (ap suc h.before);
      whole = rw (code-first c s e, code-first c (take i s) e) (ap (λ (ts : List Token). code_token c ∷ ts) h.whole);
    }

starts_pair : (c d : ℕ) (s : List ℕ) (n i : ℕ) → is_accent c ≡ true → Starts s n i → Starts (c ∷ d ∷ s) (suc n) (suc (suc i))
starts_pair c d s n i e h =
    record {
      within = omega (arith, h.within);
      before = rw (tokens_pair c d (take i s) e) (ap suc h.before);
      whole = rw (tokens_pair c d s e, tokens_pair c d (take i s) e) (ap (λ (ts : List Token). pair_token c d ∷ ts) h.whole);
    }

pub token_starts : (n : ℕ) (s : List ℕ) → n < length (tokens s) → Starts s n (bytes_before n s)
unfolding bytes_before first_size tokens
token_starts zero [] h = absurd (omega arith)
token_starts zero (c ∷ s) h = record { within = omega arith; before = refl; whole = refl }
token_starts (suc n) [] h = absurd (omega arith)
token_starts (suc n) (c ∷ []) h = absurd (omega arith)
token_starts (suc n) (c ∷ d ∷ s) h =
    by_test (is_accent c)
    (λ e.
    let z : 2 + bytes_before n s ≡ suc (suc (bytes_before n s)) = omega arith in
    rw (e, z) (starts_pair c d s n _ e (token_starts n s (omega (arith, rw (tokens_pair c d s e) at h)))))
    (λ e.
    let z : 1 + bytes_before n (d ∷ s) ≡ suc (bytes_before n (d ∷ s)) = omega arith in
    rw (e, z) (starts_code c (d ∷ s) n _ e (token_starts n (d ∷ s) (omega (arith, rw (tokens-code c d s e) at h)))))
