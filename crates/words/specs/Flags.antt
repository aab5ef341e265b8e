-- Truth values as one byte each: 1 is true, any other byte is false.
-- Assumes nothing.
use Rattle.std.specs.Prelude.{ℕ, Bool, cond, List, map, eqb}
use Rattle.std.proofs.lemmas.List.Edits.{sets}

unfoldable pub flag_byte : Bool → ℕ
flag_byte on = cond on 1 0

unfoldable pub is_set : ℕ → Bool
is_set b = eqb b 1

abbrev pub flags_bytes : List Bool → List ℕ
flags_bytes on = map flag_byte on

abbrev pub flags_in : List ℕ → List Bool
flags_in s = map is_set s

-- `on` with the truth values of some bytes stored from its start; those past its end are cut, and what no byte is for stays
unfoldable pub flags_over : List ℕ → List Bool → List Bool
flags_over s on = sets on 0 (flags_in s)
