-- A packed look holds the look of each pen and cell: unpacked it is the same. A pen's is below the count of looks.
-- Assumes nothing.
use Prim.Native.Nat.{ℕ, ◌<◌}
use mathlib.Core.Path.{◌≡◌}
use mathlib.Core.Bool.{Bool}
use Rattle.meaning.specs.declared.Token.{Token}
use Rattle.meaning.specs.declared.Look.{Look}
use Rattle.meaning.specs.Looks.{look_count, white_on_black, start_look, pack, unpack}
use Rattle.meaning.specs.Cells.{Pen, look_here, look_next, hidden_next, pen_after}
use Rattle.meaning.proofs.LookLaws.{white-bits, start-bits, unpack-pack, pack-small, unpack-bits}
use Rattle.laws.proofs.CellFacts.{next-bits}
use Rattle.laws.proofs.Boxes.{same-height}

pub unpack_next : (t : Token) (n : ℕ) → unpack (pack (look_next t (unpack n))) ≡ look_next t (unpack n)
unpack_next t n = unpack-pack _ (next-bits t (unpack n) (unpack-bits n))

pub next_small : (t : Token) (n : ℕ) → pack (look_next t (unpack n)) < look_count
next_small t n = pack-small _ (next-bits t (unpack n) (unpack-bits n))

pub unpack_start : (n : ℕ) → unpack (pack (start_look (unpack n))) ≡ start_look (unpack n)
unpack_start n = unpack-pack _ (start-bits (unpack n))

pub start_small : (n : ℕ) → pack (start_look (unpack n)) < look_count
start_small n = pack-small _ (start-bits (unpack n))

pub unpack_hidden : (double : Bool) → unpack (pack (white_on_black double)) ≡ white_on_black double
unpack_hidden double = unpack-pack _ (white-bits double)

pub same_height : (t : Token) (l : Look) → (look_here t l).double ≡ l.double
same_height t l = (same-height t l).0

-- A pen from a packed look and whether it hides: packed again after a token it is the pen after that token. `PackedPen::after` says the same of the type; this
-- law is of any packed look, and no proof needs it.
abbrev pub pen_from : ℕ → Bool → Pen
pen_from n hidden = record { look = unpack n; hidden = hidden }

pub next-pen : (t : Token) (pen : ℕ) (hidden : Bool) → pen_from (pack (look_next t (unpack pen))) (hidden_next t hidden) ≡ pen_after t (pen_from pen hidden)
unfolding pen_after
next-pen t pen hidden = λ i. record { look = unpack_next t pen i; hidden = hidden_next t hidden }
