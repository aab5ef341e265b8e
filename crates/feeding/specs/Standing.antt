-- What a check keeps of a file, and nothing else.
-- Assumes nothing.
use Rattle.std.specs.Prelude.{ℕ, suc, min, ◌≡◌, false, List, take, drop}
use Rattle.meaning.specs.Blocks.{gsi_size, block_start}
use Rattle.meaning.specs.Gsi.{most_blocks, format_of, block_count}
use Rattle.meaning.specs.Walk.{walk, set_rule}
use Rattle.closed.specs.Body.{empty_body, lay_set}
use Rattle.feeding.specs.Feeding.{Check, opened, fed}

-- the check that was fed a file
unfoldable pub standing : ℕ → ℕ → List ℕ → Check
standing mode room file =
    let f = format_of mode (take gsi_size file) in
    record {
      mode = mode;
      room = room;
      gsi = take gsi_size file;
      part = drop (block_start (block_count file)) file;
      count = min (block_count file) (suc most_blocks);
      outcome = walk f (set_rule f) (lay_set f) empty_body file (min (block_count file) most_blocks);
      ended = false;
    }

-- whatever it is fed, byte by byte
abbrev pub Stands : Type 0
Stands = (mode room : ℕ) (file : List ℕ) → fed (opened mode room) file ≡ standing mode room file
