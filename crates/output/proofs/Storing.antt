-- Values stored in an array one by one: what a loop over them keeps.
-- Assumes nothing.
use Prim.Native.Nat.{ℕ, ◌+◌, ◌-◌, ◌<◌, ◌≤◌, min}
use native.Mathlib.Omega.{arith}
use mathlib.Core.Path.{◌≡◌, sym, ◌∙◌}
use mathlib.Core.List.{List}
use lib.ListN.{length, get_or, set, drop, length-set, drop_of_length-le}
use Rattle.meaning.proofs.Logic.{by_le}
use Rattle.output.specs.Output.{stored}
use Rattle.output.proofs.Laws.{stored-out, stored_next}

-- j values are stored: storing the rest gives what storing all gives
pub record Storing {A : Type 0} (array₀ : List A) (k : ℕ) (values array : List A) (j : ℕ) : Type 0 where
  pub most : j ≤ length values
  pub same : length array ≡ length array₀
  pub held : stored array (k + j) (drop j values) ≡ stored array₀ k values

module _ {A : Type 0} {array₀ values array : List A} {k j : ℕ} (a : Storing array₀ k values array j) where
  pub storing_more : (z : A) {x : A} → j < length values → x ≡ get_or values j z → Storing array₀ k values (set array (k + j) x) (j + 1)
  storing_more z h e =
      rw e
      (record { most = omega arith; same = simp length-set a.same; held = stored_next array k values j z h ∙ a.held })

  -- as many are stored as there are or fit
  pub storing_end : j ≡ min (length values) (length array - k) → array ≡ stored array₀ k values
  unfolding stored
  storing_end e =
      by_le (length values) j
      (λ h. rw (drop_of_length-le values h) at a.held)
      (λ h. sym (stored-out array (k + j) (drop j values) (omega arith)) ∙ a.held)
