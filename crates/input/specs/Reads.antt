-- What is read of the bytes that a reader has left, where those are known.
-- Assumes nothing.
use Rattle.std.specs.Prelude.{◌≡◌, ℕ, ◌<◌, ◌⊎◌, List, [], ◌∷◌, length, take}
use Rattle.std.specs.Io.KnownBytes.{Consumes, Keeps, IsAtEnd}
use Rattle.std.specs.declared.option.Option.{Option}
use Rattle.input.specs.Modes.{mode_of}

-- a digit was read, and the mode is its; or none was left, and the mode is 0
abbrev pub ReadsMode : Option (List ℕ) → Option (List ℕ) → ℕ → Type 0
ReadsMode old new mode = ((digit : ℕ) × Consumes old new (digit ∷ []) × (mode ≡ mode_of digit)) ⊎ (Keeps old new × IsAtEnd new × (mode ≡ 0))

-- what was read stands at the start of the buffer, and did not fill it
abbrev pub ReadsSome : Option (List ℕ) → Option (List ℕ) → List ℕ → Type 0
ReadsSome old new buffer = (k : ℕ) × (k < length buffer) × Consumes old new (take k buffer)

-- n bytes were read and are all, and stand at the start of the buffer, with room behind them
abbrev pub ReadsAll : Option (List ℕ) → Option (List ℕ) → ℕ → List ℕ → Type 0
ReadsAll old new n buffer = (n < length buffer) × Consumes old new (take n buffer) × IsAtEnd new
