-- What is promised of a check that is fed in lumps: document 02, request 5.
-- Assumes nothing.
use Rattle.std.specs.Prelude.{ℕ, ◌≡◌, List}
use Rattle.meaning.specs.Lists.{joined}
use Rattle.meaning.specs.Conversion.{answer}
use Rattle.feeding.specs.Feeding.{Check, opened, close}
use Rattle.lumps.specs.Lumps.{answer_now, feed, feed_all}

-- however a file is cut, the answer is the converter's own on the joined file
abbrev pub AnyCutting : Type 0
AnyCutting = (mode room : ℕ) (lumps : List (List ℕ)) → answer_now (feed_all (opened mode room) lumps) ≡ answer mode (joined lumps) room

-- after the close, lumps and closes change nothing, and the answer stays
pub record Over (c : Check) : Type 0 where
  pub repeats : answer_now (close c) ≡ answer_now c
  pub again : close (close c) ≡ close c
  pub unfed : (lump : List ℕ) → feed (close c) lump ≡ close c

abbrev pub AfterClose : Type 0
AfterClose = (c : Check) → Over c
