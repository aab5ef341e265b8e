-- Where a text ends: at the first 8Fh, or with its last byte.
-- Assumes nothing.
use Prim.Native.Nat.{ℕ, ◌+◌}
use native.Mathlib.Omega.{arith}
use mathlib.Core.Path.{◌≡◌, refl, sym, ◌∙◌}
use mathlib.Core.Bool.{Bool, cond}
use mathlib.Core.List.{List, ◌∷◌}
use lib.Dec.{eqb}
use lib.ListN.{length}
use Rattle.std.proofs.lemmas.Bool.{false_from_ne_true}
use Rattle.std.specs.Prelude.{Option, Some, None, unwrap_or}
use Rattle.std.specs.List.{position_or_len}
use Rattle.std.proofs.lemmas.List.Recursion.{is_position_or_len}
use Rattle.std.proofs.lemmas.List.Sums.{position_or_len_is}
use Rattle.memchr.specs.Find.{IsFirstByte}
use Rattle.meaning.specs.Lists.{take_while}
use Rattle.meaning.specs.Blocks.{in_text}
use Rattle.meaning.proofs.Logic.{by_test}

-- 8Fh
abbrev pub ends_text : ℕ → Bool
ends_text c = eqb c 143

count_next : (x : ℕ) (xs : List ℕ) → length (take_while in_text (x ∷ xs)) ≡ cond (ends_text x) 0 (1 + length (take_while in_text xs))
unfolding take_while in_text
count_next x xs = by_test (ends_text x) (λ e. rw (e, take_while)) (λ e. rw (e, take_while) (omega arith))

pub text_length : (s : List ℕ) → length (take_while in_text s) ≡ position_or_len ends_text s
unfolding take_while
text_length = is_position_or_len (λ s. length (take_while in_text s)) ends_text refl count_next

-- what a search for 8Fh answers
pub text_end : (s : List ℕ) (o : Option ℕ) → IsFirstByte ends_text s o → unwrap_or o (length s) ≡ length (take_while in_text s)
text_end s None h =
    sym (text_length s ∙ position_or_len_is ends_text s (length s) 0 (omega arith) (λ k a. false_from_ne_true _ (h k (omega arith) a)) (λ a. absurd (omega (arith, a))))
text_end s (Some k) h =
    sym (text_length s ∙ position_or_len_is ends_text s k 0 (omega (arith, h.0.high)) (λ j a. false_from_ne_true _ (h.0.before j (omega arith) a)) (λ a. h.1))
