-- Bytes laid over a lent buffer: they are stored from a position on where the buffer has room, and the position counts on past its end.
-- Assumes nothing.
use Rattle.std.specs.Prelude.{◌≡◌, ℕ, ◌+◌, ◌<◌, ◌^◌, min, List, length}
use Rattle.std.proofs.lemmas.List.Edits.{sets}
use Rattle.output.specs.declared.Writer.{Writer}

-- an array with values stored one by one from an index on; those past its end are cut
unfoldable pub stored : {A : Type 0} → List A → ℕ → List A → List A
stored array at xs = sets array at xs

-- n past a position, and never above the largest usize
unfoldable pub past : ℕ → ℕ → ℕ
past at n = min (at + n) 18446744073709551615

-- xs was written at a position: what the buffer holds then, and the position after. `room` holds of every buffer, and is here for
-- those who add up positions.
pub record Wrote (buf : List ℕ) (at : ℕ) (xs buf' : List ℕ) (r : ℕ) : Type 0 where
  pub held : buf' ≡ stored buf at xs
  pub next : r ≡ past at (length xs)
  pub room : length buf < 2 ^ 64

-- a writer wrote xs, and has the buffer that it had
pub record Put (w : Writer) (xs : List ℕ) (w' : Writer) : Type 0 where
  pub wrote : Wrote w.out.now w.at xs w'.out.now w'.at
  pub same : w'.out.ghost_name ≡ w.out.ghost_name
