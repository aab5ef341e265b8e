-- A check that is fed a file byte by byte: what it keeps of the file: document 02, request 5.
-- Assumes nothing.
use Rattle.std.specs.Prelude.{ℕ, suc, ◌+◌, ◌-◌, min, Bool, true, false, List, [], ◌∷◌, ◌++◌, ltb, length}
use Rattle.meaning.specs.Blocks.{gsi_size, block_size, blocks}
use Rattle.meaning.specs.Gsi.{most_blocks, format_of}
use Rattle.meaning.specs.Walk.{begun, Outcome, step, steps, set_rule}
use Rattle.meaning.specs.Walk.Outcome.{accepted}
use Rattle.closed.specs.Body.{Body, empty_body, lay_set}

-- break mode and room; the bytes of the GSI block so far, and of the block that is not whole yet; how many blocks are whole, one above the most
-- that TNB can count for all that are more; the walk over the first of them, as many as TNB can count; and whether the check is closed
pub record Check : Type 0 where
  pub mode : ℕ
  pub room : ℕ
  pub gsi : List ℕ
  pub part : List ℕ
  pub count : ℕ
  pub outcome : Outcome Body
  pub ended : Bool

unfoldable pub opened : ℕ → ℕ → Check
opened mode room =
    record { mode = mode; room = room; gsi = []; part = []; count = 0; outcome = accepted (begun empty_body); ended = false }

abbrev pub with_gsi : Check → List ℕ → Check
with_gsi c gsi = record { mode = c.mode; room = c.room; gsi = gsi; part = c.part; count = c.count; outcome = c.outcome; ended = c.ended }

abbrev pub with_part : Check → List ℕ → Check
with_part c part = record { mode = c.mode; room = c.room; gsi = c.gsi; part = part; count = c.count; outcome = c.outcome; ended = c.ended }

-- after whole blocks: no other is begun
abbrev pub with_walk : Check → ℕ → Outcome Body → Check
with_walk c count outcome =
    record { mode = c.mode; room = c.room; gsi = c.gsi; part = []; count = count; outcome = outcome; ended = c.ended }

-- closed
abbrev pub close : Check → Check
close c = record { mode = c.mode; room = c.room; gsi = c.gsi; part = c.part; count = c.count; outcome = c.outcome; ended = true }

-- a whole block more
unfoldable pub with_block : Check → List ℕ → Check
with_block c b =
    let f = format_of c.mode c.gsi in
    elim (ltb c.count most_blocks) [
      | true ↦ with_walk c (suc c.count) (step f (set_rule f) (lay_set f) c.count c.outcome b)
      | false ↦ with_walk c (suc most_blocks) c.outcome
    ]

-- one byte more of a block
unfoldable pub with_bytes : Check → List ℕ → Check
with_bytes c part = elim (ltb (length part) block_size) [ true ↦ with_part c part | false ↦ with_block c part ]

-- one byte more of the file
unfoldable pub with_byte : Check → ℕ → Check
with_byte c b =
    elim (ltb (length c.gsi) gsi_size) [
      | true ↦ with_gsi c (c.gsi ++ (b ∷ []))
      | false ↦ with_bytes c (c.part ++ (b ∷ []))
    ]

unfoldable pub fed : Check → List ℕ → Check
fed c [] = c
fed c (b ∷ bs) = fed (with_byte c b) bs

-- a check after n whole blocks more
abbrev pub walked : Check → ℕ → List ℕ → Check
walked c n xs =
    let f = format_of c.mode c.gsi in
    with_walk c (min (c.count + n) (suc most_blocks))
    (steps f (set_rule f) (lay_set f) c.count c.outcome (blocks (min n (most_blocks - c.count)) xs))
