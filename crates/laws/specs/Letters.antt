-- What is asked of the composed letters: document 01, "Text to rows", first paragraph.
-- Assumes nothing.
use Rattle.std.specs.Prelude.{ℕ, ◌*◌, ◌≤◌, ◌<◌, ◌≡◌, List, ◌⊎◌, length, get_or}

-- 13 by 52: each entry is 0 or lies from U+00C0 to U+1EF9, and no two that are not 0 are equal
pub record LettersRule (table : List ℕ) : Type 0 where
  pub size : length table ≡ 13 * 52
  pub range : (k : ℕ) → k < 13 * 52 → (get_or table k 0 ≡ 0) ⊎ ((192 ≤ get_or table k 0) × (get_or table k 0 ≤ 7929))
  pub apart : (i j : ℕ) → i < j → j < 13 * 52 → get_or table i 0 ≡ get_or table j 0 → get_or table i 0 ≡ 0
