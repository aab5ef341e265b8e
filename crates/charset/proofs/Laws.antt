-- A text is read position by position: its tokens from a position on are the one there, and those from the next on.
-- Assumes nothing.
use Prim.Native.Nat.{ℕ, zero, suc, ◌+◌, ◌-◌, ◌≤◌, ◌<◌}
use native.Mathlib.Nat.{add-zero}
use native.Mathlib.Omega.{arith}
use mathlib.Core.Path.{◌≡◌, refl, ap, ◌∙◌}
use mathlib.Core.Bool.{true, false, cond}
use mathlib.Core.List.{List, [], ◌∷◌, map, ◌++◌}
use lib.ListN.{length, get_or, take, drop, length-drop, drop_of_length-le}
use lib.Seq.{drop-drop}
use borrow.Author.Tests.{lt-ltb, lt-leb, ltb-false}
use Rattle.std.proofs.lemmas.List.{drop_more}
use Rattle.meaning.specs.declared.Token.{Token}
use Rattle.meaning.specs.Characters.{accent}
use Rattle.meaning.specs.Codes.{is_accent, code_token, pair_token, tokens, is_row_end}
use Rattle.meaning.specs.Lists.{take_while}
use Rattle.meaning.specs.TextRules.{first_size}
use Rattle.meaning.proofs.Logic.{by_test, by_le}
use Rattle.meaning.proofs.ListLaws.{while_on, while_off, take_while_lem, while_short, while_more, while_stops, while_ends}
use Rattle.meaning.proofs.Tokens.{tokens_pair as first-pair, tokens-code}
use Rattle.meaning.proofs.TextPlaces.{size_pair, size-code, size-last}
use Rattle.charset.specs.declared.Reading.{Reading}
use Rattle.charset.specs.Reading.{is_pair_at, reading_at, token_at, next_at, after_row_at}
use Rattle.charset.specs.Plain.{is_plain, plain_token, plain_end}
use Rattle.charset.proofs.Codes.{plain-range, plain_code}
use Rattle.charset.proofs.Positions.{by_reading, next-on, row_step}

-- a code that is no accent, or has none after it
first-single : (c : ℕ) (cs : List ℕ) → is_accent c ≡ false → tokens (c ∷ cs) ≡ code_token c ∷ tokens cs
first-single c [] a = unfold tokens in refl
first-single c (d ∷ cs) a = tokens-code c d cs a

first-last : (c : ℕ) (cs : List ℕ) → cs ≡ [] → tokens (c ∷ cs) ≡ code_token c ∷ tokens cs
unfolding tokens
first-last c cs e = rw e

module _ (s : List ℕ) (i : ℕ) where
  pub tokens-end : length s ≤ i → tokens (drop i s) ≡ []
  unfolding tokens
  tokens-end h = rw drop_of_length-le

  -- an accent with a code after it
  tokens_pair :
      i + 1 < length s → is_accent (get_or s i 0) ≡ true
      → tokens (drop i s) ≡ pair_token (get_or s i 0) (get_or s (i + 1) 0) ∷ tokens (drop (i + 2) s)
  tokens_pair h a =
      let here : i < length s = omega arith in
      let two : i + 1 + 1 ≡ i + 2 = omega arith in
      rw (drop_more s i 0 here, drop_more s (i + 1) 0 h, two) (first-pair (get_or s i 0) (get_or s (i + 1) 0) (drop (i + 2) s) a)

  -- any other code, and an accent at the end
  tokens-single : i < length s → is_pair_at s i ≡ false → tokens (drop i s) ≡ code_token (get_or s i 0) ∷ tokens (drop (i + 1) s)
  unfolding is_pair_at
  tokens-single h p =
      rw (drop_more s i 0 h)
      (by_test (is_accent (get_or s i 0))
      (λ a. first-last (get_or s i 0) (drop (i + 1) s) (drop_of_length-le s (ltb-false (i + 1) (length s) (rw a at p))))
      (λ a. first-single (get_or s i 0) (drop (i + 1) s) a))

  -- the bytes that they take
  size-two : i + 1 < length s → is_accent (get_or s i 0) ≡ true → first_size (drop i s) ≡ 2
  size-two h a =
      let here : i < length s = omega arith in
      rw (drop_more s i 0 here, drop_more s (i + 1) 0 h) (size_pair (get_or s i 0) (get_or s (i + 1) 0) (drop (i + 1 + 1) s) a)

  size-one : i < length s → is_pair_at s i ≡ false → first_size (drop i s) ≡ 1
  unfolding is_pair_at
  size-one h p =
      rw (drop_more s i 0 h)
      (by_test (is_accent (get_or s i 0))
      (λ a. size-last (get_or s i 0) (drop (i + 1) s) (drop_of_length-le s (ltb-false (i + 1) (length s) (rw a at p))))
      (λ a. size-code (get_or s i 0) (drop (i + 1) s) a))

-- What the reading r at a position i of a text s tells: the first of the tokens from i on, that the others are those from
-- the reading's next position on, where that lies, how many bytes were read, and where the row ends.
pub record ReadOn (s : List ℕ) (i : ℕ) (r : Reading) : Type 0 where
  pub first : tokens (drop i s) ≡ r.token ∷ tokens (drop r.next s)
  pub on : i < r.next
  pub within : r.next ≤ length s
  pub size : r.next ≡ i + first_size (drop i s)
  pub row : after_row_at s i ≡ cond (is_row_end r.token) r.next (after_row_at s r.next)

module _ (s : List ℕ) (i : ℕ) (h : i < length s) where
  first-at : tokens (drop i s) ≡ token_at s i ∷ tokens (drop (next_at s i) s)
  first-at =
      by_reading s i (λ (r : Reading). tokens (drop i s) ≡ r.token ∷ tokens (drop r.next s)) h
      (λ a k. tokens_pair s i k a)
      (λ p. tokens-single s i h p)

  size-at : next_at s i ≡ i + first_size (drop i s)
  size-at =
      by_reading s i (λ (r : Reading). r.next ≡ i + first_size (drop i s)) h
      (λ a k. rw (size-two s i k a))
      (λ p. rw (size-one s i h p))

  -- where the text has a code at i
  pub read_at : ReadOn s i (reading_at s i)
  read_at =
      let o = next-on s i h in
      record { first = first-at; on = o.0; within = o.1; size = size-at; row = row_step s i h }

-- The law for loops over a text, of the result r of a call of `token_at`.
pub read-on : {s : List ℕ} {i : ℕ} {r : Reading} → r ≡ reading_at s i → i < length s → ReadOn s i r
read-on {s} {i} e h = rw e (read_at s i h)

-- a low code is no accent
low-single : (c : ℕ) → c < 160 → is_accent c ≡ false
unfolding is_accent accent
low-single c h = rw (accent, lt-leb 192 c (omega arith))

pub low_reading : (s : List ℕ) (i : ℕ) → i < length s → get_or s i 0 < 160 → reading_at s i ≡ record { token = code_token (get_or s i 0); next = i + 1 }
unfolding reading_at is_pair_at
low_reading s i h l = rw (lt-ltb i (length s) h, low-single (get_or s i 0) l)

-- the tokens of a run are the characters of its codes
tokens-run : (s : List ℕ) → tokens s ≡ map plain_token (take_while is_plain s) ++ tokens (drop (length (take_while is_plain s)) s)
unfolding take_while
tokens-run [] = refl
tokens-run (c ∷ cs) =
    by_test (is_plain c)
    (λ p.
    let r = plain-range c p in
    rw (while_on is_plain c cs p, first-single c cs (low-single c (omega (arith, r.1))), plain_code c p)
    (ap (λ ts. plain_token c ∷ ts) (tokens-run cs)))
    (λ p. rw (while_off is_plain c cs p))

-- a run is within its row
row_plain : (s : List ℕ) (i : ℕ) → i < length s → is_plain (get_or s i 0) ≡ true → after_row_at s i ≡ after_row_at s (i + 1)
unfolding is_row_end
row_plain s i h p =
    row_step s i h
    ∙ ap (λ (r : Reading). cond (is_row_end r.token) r.next (after_row_at s r.next))
    (low_reading s i h (omega (arith, (plain-range (get_or s i 0) p).1)))
    ∙ ap (λ (t : Token). cond (is_row_end t) (i + 1) (after_row_at s (i + 1))) (plain_code (get_or s i 0) p)

row-passes : (k : ℕ) (s : List ℕ) (i : ℕ) → length (take_while is_plain (drop i s)) ≡ k → after_row_at s i ≡ after_row_at s (i + k)
row-passes zero s i e = rw add-zero
row-passes (suc k) s i e =
    by_le (length s) i
    (λ l. absurd (omega (arith, while_ends is_plain s i l)))
    (λ h.
    let one : i + suc k ≡ i + 1 + k = omega arith in
    by_test (is_plain (get_or s i 0))
    (λ p. rw one (row_plain s i h p ∙ row-passes k s (i + 1) (omega (arith, while_more is_plain s i 0 h p))))
    (λ p. absurd (omega (arith, while_stops is_plain s i 0 h p))))

-- the codes of a text s from i up to e are a run: the tokens from i on are its characters, and those from e on; the row goes on
pub record RunOn (s : List ℕ) (i e : ℕ) : Type 0 where
  pub first : tokens (drop i s) ≡ map plain_token (take (e - i) (drop i s)) ++ tokens (drop e s)
  pub on : i ≤ e
  pub within : e ≤ length s
  pub row : after_row_at s i ≡ after_row_at s e

-- The law for loops that pass over runs, of the result e of a call of `plain_end`.
pub run_on : {s : List ℕ} {i e : ℕ} → e ≡ plain_end s i → i ≤ length s → RunOn s i e
unfolding plain_end
run_on {s} {i} p h =
    let size : plain_end s i - i ≡ length (take_while is_plain (drop i s)) = omega arith in
    rw p (record { first = rw (size, take_while_lem is_plain (drop i s)) (rw drop-drop at (tokens-run (drop i s))); on = omega arith; within = omega (arith, rw length-drop at (while_short is_plain (drop i s))); row = row-passes (length (take_while is_plain (drop i s))) s i refl })

-- no codes at all are a run
pub no_run : (s : List ℕ) (i : ℕ) → i ≤ length s → RunOn s i i
no_run s i h = let none : i - i ≡ 0 = omega arith in record { first = rw none refl; on = omega arith; within = h; row = refl }

-- a token, and the run after it
pub record TurnOn (s : List ℕ) (i : ℕ) (r : Reading) (e : ℕ) : Type 0 where
  pub read : ReadOn s i r
  pub run : RunOn s r.next e

pub turn_on : {s : List ℕ} {i e : ℕ} {r : Reading} → r ≡ reading_at s i → i < length s → e ≡ plain_end s r.next → TurnOn s i r e
turn_on q h p = let o = read-on q h in record { read = o; run = run_on p o.within }
