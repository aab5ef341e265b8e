-- Where the tokens of a text start: the size of the first token, and the bytes of the first n.
-- Assumes nothing.
use Prim.Native.Nat.{ℕ, zero, suc, ◌+◌}
use native.Mathlib.Omega.{arith}
use mathlib.Core.Path.{◌≡◌, refl, sym, ap, ◌∙◌}
use mathlib.Core.Bool.{true, false}
use mathlib.Core.List.{List, [], ◌∷◌}
use lib.Dec.{eqb}
use lib.ListN.{drop}
use lib.Seq.{drop-drop}
use Rattle.meaning.specs.declared.Glyph.{Glyph}
use Rattle.meaning.specs.Codes.{is_accent, pair_token, character_of, tokens, is_row_end}
use Rattle.meaning.specs.TextRules.{end_first, first_size, bytes_before}
use Rattle.std.proofs.lemmas.Bool.{false≢true}
use Rattle.meaning.proofs.Logic.{by_test}
use Rattle.meaning.proofs.Tokens.{tokens_pair}

-- an accent with a code after it takes two bytes
pub size_pair : (c d : ℕ) (cs : List ℕ) → is_accent c ≡ true → first_size (c ∷ d ∷ cs) ≡ 2
unfolding first_size
size_pair c d cs e = rw e

-- a code that is no accent takes one, and so does the last code
pub size-code : (c : ℕ) (cs : List ℕ) → is_accent c ≡ false → first_size (c ∷ cs) ≡ 1
unfolding first_size
size-code c [] e = refl
size-code c (d ∷ cs) e = rw e

pub size-last : (c : ℕ) (cs : List ℕ) → cs ≡ [] → first_size (c ∷ cs) ≡ 1
unfolding first_size
size-last c cs e = rw e

-- a row end is one byte: no accent pair is a row end
no_end : (g : Glyph) → is_row_end (character_of g) ≡ false
unfolding is_row_end character_of
no_end g = by_test (eqb g.point 0) (λ e. rw e) (λ e. rw e)

pub size-end : (s : List ℕ) → end_first (tokens s) ≡ true → first_size s ≡ 1
unfolding end_first tokens pair_token
size-end [] e = absurd (false≢true e)
size-end (c ∷ []) e = size-last c [] refl
size-end (c ∷ d ∷ cs) e =
    by_test (is_accent c)
    (λ a. absurd (false≢true (sym (no_end _) ∙ sym (ap end_first (tokens_pair c d cs a)) ∙ e)))
    (λ a. size-code c (d ∷ cs) a)

-- the bytes of n tokens, and of m more
pub bytes-add : (n m : ℕ) (s : List ℕ) → bytes_before (n + m) s ≡ bytes_before n s + bytes_before m (drop (bytes_before n s) s)
unfolding bytes_before
bytes-add zero m s = let z : 0 + m ≡ m = omega arith in rw z (omega arith)
bytes-add (suc n) m s =
    let u = drop (first_size s) s in
    let z : suc n + m ≡ suc (n + m) = omega arith in
    rw (z, ← drop-drop (bytes_before n u) (first_size s) s) (omega (arith, bytes-add n m u))

-- and of one more
pub bytes_next : (n : ℕ) (s : List ℕ) → bytes_before (suc n) s ≡ bytes_before n s + first_size (drop (bytes_before n s) s)
bytes_next n s =
    let z : suc n ≡ n + 1 = omega arith in
    rw z (bytes-add n 1 s ∙ unfold bytes_before in omega arith)
