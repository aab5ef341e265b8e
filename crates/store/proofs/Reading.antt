-- The numbers of a store, read one by one.
-- Assumes nothing.
use Prim.Native.Nat.{ℕ, suc, ◌+◌, ◌<◌, ◌≤◌}
use native.Mathlib.Omega.{arith}
use mathlib.Core.Path.{◌≡◌, sym, ◌∙◌}
use mathlib.Core.List.{List}
use lib.ListN.{length, get_or, set, length-set}
use Rattle.std.proofs.lemmas.List.{get_or-set_other}
use Rattle.std.proofs.lemmas.Grind.{same_number_lists, get_or-set_at}
use Rattle.meaning.proofs.Logic.{by_le}
use Rattle.words.specs.Words.{words, word_at}
use Rattle.words.proofs.Laws.{words-read}
use Rattle.store.specs.Layout.{number_count, numbers_in}

-- the first j are read
pub record Loaded (store numbers : List ℕ) (j : ℕ) : Type 0 where
  pub long : length numbers ≡ number_count
  pub each : (k : ℕ) → k < j → get_or numbers k 0 ≡ word_at k store

module _ {store numbers : List ℕ} {j : ℕ} (a : Loaded store numbers j) where
  pub loaded_more : {x : ℕ} → j < number_count → x ≡ word_at j store → Loaded store (set numbers j x) (j + 1)
  loaded_more {x} h e =
      record {
        long = length-set numbers j x ∙ a.long;
        each =
            λ k l.
            by_le (suc k) j
            (λ m. get_or-set_other numbers j k x 0 (λ (z : k ≡ j). omega arith) ∙ a.each k m)
            (λ m. let z : k ≡ j = omega arith in get_or-set_at numbers j k x 0 z (omega (arith, a.long)) ∙ rw z e);
      }

  pub loaded_all : number_count ≤ j → numbers ≡ numbers_in store
  unfolding words
  loaded_all h = same_number_lists _ _ a.long (λ k l. a.each k (omega (arith, a.long)) ∙ sym (words-read number_count _ k (omega (arith, a.long))))
