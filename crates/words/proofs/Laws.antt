-- The laws of numbers and truth values in bytes: what was written is read, and a reading is told by the bytes that it reads.
-- Assumes nothing.
use Prim.Native.Nat.{ℕ, zero, suc, ◌+◌, ◌*◌, ◌-◌, ◌/◌, ◌^◌, ◌≤◌, ◌<◌, min}
use native.Mathlib.Nat.{not-suc-le-zero, le_of_suc-le-suc}
use native.Mathlib.Omega.{arith}
use mathlib.Core.Path.{◌≡◌, refl, ap, ◌∙◌}
use mathlib.Core.Bool.{Bool, true, false}
use mathlib.Core.List.{List, [], ◌∷◌, ◌++◌, append_assoc, append-nil, flat_map}
use lib.ListN.{length, get_or, take, drop, replicate, length-append, length-replicate, length-map, drop_of_length-le}
use lib.Seq.{length-take-le, take-nil, drop-nil, take_all, take_at, drop_at, drop-drop, sets-eq}
use Rattle.std.specs.Int.{w64, from_le_bytes, to_le_bytes}
use Rattle.std.proofs.lemmas.List.{drop-replicate}
use Rattle.meaning.specs.Lists.{field}
use Rattle.meaning.proofs.ListLaws.{All, nil, cons}
use Rattle.output.specs.Output.{stored}
use Rattle.output.proofs.Laws.{drop_past, stored-fits}
use Rattle.words.specs.Words.{low_bytes, value_of, word_bytes, words_bytes, words, word_at}
use Rattle.words.specs.Flags.{flag_byte, is_set, flags_bytes, flags_in, flags_over}

-- what eight bytes hold
abbrev pub IsWord : ℕ → Type 0
IsWord n = n < 2 ^ 64

-- one byte, and the number of those behind it
value_next : (k i : ℕ) (s : List ℕ) → value_of (take (suc k) (drop i s)) ≡ get_or s i 0 + 256 * value_of (take k (drop (suc i) s))
unfolding value_of
value_next k i [] = rw (drop-nil i, take-nil k)
value_next k zero (x ∷ s) = refl
value_next k (suc i) (x ∷ s) = value_next k i s

-- eight bytes as a number, by std and by the definition
pub le_value : (bs : List ℕ) → from_le_bytes w64 bs ≡ value_of (take 8 bs)
unfolding value_of
le_value bs =
    omega (
      arith,
      value_next 7 0 bs,
      value_next 6 1 bs,
      value_next 5 2 bs,
      value_next 4 3 bs,
      value_next 3 4 bs,
      value_next 2 5 bs,
      value_next 1 6 bs,
      value_next 0 7 bs,
    )

-- a number as eight bytes
pub le_bytes : (n : ℕ) → to_le_bytes w64 n ≡ word_bytes n
unfolding low_bytes
le_bytes n =
    let a : n / 256 / 256 ≡ n / 65536 = omega arith in
    let b : n / 65536 / 256 ≡ n / 16777216 = omega arith in
    let c : n / 16777216 / 256 ≡ n / 4294967296 = omega arith in
    let d : n / 4294967296 / 256 ≡ n / 1099511627776 = omega arith in
    let e : n / 1099511627776 / 256 ≡ n / 281474976710656 = omega arith in
    let f : n / 281474976710656 / 256 ≡ n / 72057594037927936 = omega arith in
    rw (a, b, c, d, e, f)

zeros_add_nothing : (k : ℕ) → value_of (replicate k 0) ≡ 0
unfolding value_of
zeros_add_nothing zero = refl
zeros_add_nothing (suc k) = omega (arith, zeros_add_nothing k)

filled_value : (bs : List ℕ) (k : ℕ) → value_of (bs ++ replicate k 0) ≡ value_of bs
unfolding value_of
filled_value [] k = zeros_add_nothing k
filled_value (b ∷ bs) k = omega (arith, filled_value bs k)

-- bytes of a word that may be cut, filled up with zeros
pub word_filled : (bs : List ℕ) → length bs ≤ 8 → from_le_bytes w64 (bs ++ drop (length bs) (replicate 8 0)) ≡ value_of bs
word_filled bs h =
    let z = drop-replicate {X = ℕ} (length bs) 8 0 in
    let l : length (bs ++ replicate (8 - length bs) 0) ≤ 8 = simp (length-append, length-replicate) (omega arith) in
    rw (z, le_value (bs ++ replicate (8 - length bs) 0), take_all 8 (bs ++ replicate (8 - length bs) 0) l, filled_value bs (8 - length bs))

-- .. and of one that is whole
pub word_whole : (bs ws : List ℕ) → length bs ≤ 8 → ws ≡ take 8 bs → from_le_bytes w64 ws ≡ value_of bs
word_whole bs ws h e =
    let same : ws ≡ bs = e ∙ take_all 8 bs h in
    rw (le_value ws, same, take_all 8 bs h)

pub word_room : (bs : List ℕ) → length bs ≤ 8 → length (take {A = ℕ} (length bs) (replicate 8 0)) ≡ length bs
word_room bs h = length-take-le (length bs) (replicate {A = ℕ} 8 0) (omega (arith, length-replicate {A = ℕ} 8 0))

-- a field too far to count starts past the end
pub field_far : (s : List ℕ) (k : ℕ) → length s < 2 ^ 64 → field (min k 18446744073709551615) 8 s ≡ field k 8 s
unfolding field
field_far s k h = ap (take 8) (drop_past s k h)

-- past the end there is no byte, and a number there is 0
pub word_past : (s : List ℕ) (i : ℕ) → length s ≤ 8 * i → word_at i s ≡ 0
unfolding word_at field value_of
word_past s i h = rw (drop_of_length-le s h)

-- the list of the numbers has each number at its place
pub words-read : (n : ℕ) (s : List ℕ) (i : ℕ) → i < n → get_or (words n s) i 0 ≡ word_at i s
unfolding words word_at field
words-read zero s i h = absurd (not-suc-le-zero h)
words-read (suc n) s zero h = refl
words-read (suc n) s (suc i) h =
    let e : 8 * suc i ≡ 8 + 8 * i = omega arith in
    words-read n (drop 8 s) i (le_of_suc-le-suc h) ∙ rw (drop-drop (8 * i) 8 s, e)

low-length : (k n : ℕ) → length (low_bytes k n) ≡ k
unfolding low_bytes
low-length zero n = refl
low-length (suc k) n = ap suc (low-length k (n / 256))

low_value : (k n : ℕ) → n < 256 ^ k → value_of (low_bytes k n) ≡ n
unfolding low_bytes value_of
low_value zero n h = omega arith
low_value (suc k) n h = omega (arith, low_value k (n / 256) (omega arith))

pub words-length : (ns : List ℕ) → length (words_bytes ns) ≡ 8 * length ns
unfolding flat_map
words-length [] = refl
words-length (n ∷ ns) = omega (arith, length-append (word_bytes n) (words_bytes ns), low-length 8 n, words-length ns)

words-before : (ns rest : List ℕ) → All IsWord ns → words (length ns) (words_bytes ns ++ rest) ≡ ns
unfolding words flat_map
words-before [] rest nil = refl
words-before (n ∷ ns) rest (cons h hs) =
    let later = words_bytes ns ++ rest in
    let l = low-length 8 n in
    rw (
      append_assoc (word_bytes n) (words_bytes ns) rest,
      take_at (word_bytes n) later 8 l,
      drop_at (word_bytes n) later 8 l,
      low_value 8 n h,
      words-before ns rest hs,
    )

-- the numbers that were written are read
pub words-kept : (s ns : List ℕ) → 8 * length ns ≤ length s → All IsWord ns → words (length ns) (stored s 0 (words_bytes ns)) ≡ ns
words-kept s ns h hs =
    rw (stored-fits s 0 (words_bytes ns) (omega (arith, words-length ns)))
    (words-before ns (drop (0 + length (words_bytes ns)) s) hs)

pub flags_length : (on : List Bool) → length (flags_bytes on) ≡ length on
flags_length on = length-map on flag_byte

pub flags_in_length : (s : List ℕ) → length (flags_in s) ≡ length s
flags_in_length s = length-map s is_set

-- the truth values that were written are read
pub flags_kept : (on : List Bool) → flags_in (flags_bytes on) ≡ on
unfolding flag_byte is_set
flags_kept [] = refl
flags_kept (true ∷ on) = ap (λ (l : List Bool). true ∷ l) (flags_kept on)
flags_kept (false ∷ on) = ap (λ (l : List Bool). false ∷ l) (flags_kept on)

-- where there are as many bytes as truth values, nothing of these stays
pub flags_all : (s : List ℕ) (on : List Bool) → length s ≡ length on → flags_over s on ≡ flags_in s
unfolding flags_over
flags_all s on e =
    let k = flags_in_length s in
    sets-eq (flags_in s) on 0 (omega arith) ∙ rw (drop_of_length-le on {i = 0 + length (flags_in s)} (omega arith)) (append-nil (flags_in s))
