-- Numbers as eight bytes each, the lowest byte first.
-- Assumes nothing.
use Rattle.std.specs.Prelude.{ℕ, zero, suc, ◌+◌, ◌*◌, ◌/◌, ◌%◌, take, drop}
use mathlib.Core.List.{List, [], ◌∷◌, flat_map}
use Rattle.meaning.specs.Lists.{field}

abbrev pub word_size : ℕ
word_size = 8

-- the k lowest bytes of a number, and the number of some bytes
unfoldable pub low_bytes : ℕ → ℕ → List ℕ
low_bytes zero n = []
low_bytes (suc k) n = (n % 256) ∷ low_bytes k (n / 256)

unfoldable pub value_of : List ℕ → ℕ
value_of [] = 0
value_of (b ∷ bs) = b + 256 * value_of bs

abbrev pub word_bytes : ℕ → List ℕ
word_bytes n = low_bytes word_size n

abbrev pub words_bytes : List ℕ → List ℕ
words_bytes ns = flat_map word_bytes ns

-- the first n numbers of some bytes; what is past the end reads as 0
unfoldable pub words : ℕ → List ℕ → List ℕ
words zero s = []
words (suc n) s = value_of (take word_size s) ∷ words n (drop word_size s)

-- number i of some bytes
unfoldable pub word_at : ℕ → List ℕ → ℕ
word_at i s = value_of (field (word_size * i) word_size s)
