-- All that is asked of looks elsewhere: what blends share and leave open, what equal shared parts say, and that looks survive packing.
-- Assumes nothing.
use Prim.Native.Nat.{ℕ, ◌+◌, ◌*◌, ◌/◌, ◌%◌, ◌≤◌, ◌<◌}
use native.Mathlib.Omega.{arith}
use mathlib.Core.Path.{◌≡◌, refl, sym, ap, ◌∙◌}
use mathlib.Core.Bool.{Bool, beq, true, false, ◌&&◌, and_assoc}
use lib.Dec.{eqb}
use borrow.Author.Tests.{eq-eqb, ne_eqb, eqb-true, eqb-false}
use Rattle.meaning.specs.declared.Look.{Look}
use Rattle.meaning.specs.Looks.{look_count, black, white_on_black, bit, pack, unpack, shared, free, blend, on_black, start_look}
use Rattle.meaning.specs.Cells.{Cell, is_blank}
use Rattle.meaning.proofs.Logic.{by_test}

pub blend-shared : (l m : Look) → shared (blend l m) ≡ shared l
unfolding shared blend
blend-shared l m = refl

pub blend-free : (l m : Look) → free (blend l m) ≡ free m
unfolding free blend
blend-free l m = refl

pub bit_le : (b : Bool) → bit b ≤ 1
bit_le true = omega arith
bit_le false = omega arith

bit-same : (a b : Bool) → bit a ≡ bit b → a ≡ b
bit-same true true e = refl
bit-same true false e = absurd (omega arith)
bit-same false true e = absurd (omega arith)
bit-same false false e = refl

bit_back : (n : ℕ) (b : Bool) → n ≡ bit b → eqb n 1 ≡ b
bit_back n true e = eq-eqb n 1 e
bit_back n false e = ne_eqb n 1 (λ z. omega arith)

-- parts are equal as numbers if they are equal field by field
same_bit : (c a b : ℕ) → c ≤ 1 → eqb (c + 2 * a) (c + 2 * b) ≡ eqb a b
same_bit c a b h =
    by_test (eqb a b)
    (λ e. rw e (eq-eqb (c + 2 * a) (c + 2 * b) (omega (arith, eqb-true a b e))))
    (λ e. rw e (ne_eqb (c + 2 * a) (c + 2 * b) (λ z. eqb-false a b e (omega arith))))

bit-more : (p q : Bool) (a b : ℕ) → eqb (bit p + 2 * a) (bit q + 2 * b) ≡ (beq p q && eqb a b)
bit-more true true a b = same_bit 1 a b (omega arith)
bit-more true false a b = ne_eqb (1 + 2 * a) (0 + 2 * b) (λ z. omega arith)
bit-more false true a b = ne_eqb (0 + 2 * a) (1 + 2 * b) (λ z. omega arith)
bit-more false false a b = same_bit 0 a b (omega arith)

pub shares_by :
    (l m : Look)
    → (beq l.underline m.underline && beq l.double m.double && eqb l.background m.background) ≡ eqb (shared l) (shared m)
unfolding shared
shares_by l m =
    and_assoc (beq l.underline m.underline) _ _
    ∙ sym (bit-more l.underline m.underline _ _ ∙ ap (λ (x : Bool). beq l.underline m.underline && x) (bit-more l.double m.double _ _))

pub agrees_by : (l m : Look) → (beq l.italics m.italics && eqb l.colour m.colour) ≡ eqb (free l) (free m)
unfolding free
agrees_by l m = sym (bit-more l.italics m.italics l.colour m.colour)

-- equal shared parts
module _ (l m : Look) (e : shared l ≡ shared m) where
  same-background : l.background ≡ m.background
  unfolding shared
  same-background = omega (arith, e, bit_le l.underline, bit_le m.underline, bit_le l.double, bit_le m.double)

  same_underline : l.underline ≡ m.underline
  unfolding shared
  same_underline = bit-same _ _ (omega (arith, e, bit_le l.underline, bit_le m.underline))

  pub same-on-black : on_black l ≡ on_black m
  unfolding on_black
  same-on-black = ap (λ (n : ℕ). eqb n black) same-background

-- whether a cell is a blank, its character and the shared part of its look tell
pub same_blank : (c d : Cell) → c.character ≡ d.character → shared c.look ≡ shared d.look → is_blank c ≡ is_blank d
unfolding is_blank
same_blank c d e s = rw (e, same_underline c.look d.look s)

-- colours of three bits
pub record ThreeBits (l : Look) : Type 0 where
  pub background : l.background < 8
  pub colour : l.colour < 8

pub white-bits : (double : Bool) → ThreeBits (white_on_black double)
unfolding white_on_black
white-bits double = record { background = omega arith; colour = omega arith }

pub start-bits : (l : Look) → ThreeBits (start_look l)
start-bits l = record { background = omega arith; colour = omega arith }

pub blend-bits : (l m : Look) → ThreeBits l → ThreeBits m → ThreeBits (blend l m)
unfolding blend
blend-bits l m h k = record { background = h.background; colour = k.colour }

-- packing, and unpacking what was packed
module _ (l : Look) (h : ThreeBits l) where
  abbrev bits : (bit l.italics ≤ 1) × (bit l.underline ≤ 1) × (bit l.double ≤ 1)
  bits = (bit_le l.italics, bit_le l.underline, bit_le l.double)

  pub pack-small : pack l < look_count
  unfolding pack
  pack-small = omega (arith, bits, h.background, h.colour)

  back_italics : (unpack (pack l)).italics ≡ l.italics
  unfolding unpack pack
  back_italics = bit_back (pack l / 256 % 2) l.italics (omega (arith, bits, h.background, h.colour))

  back_underline : (unpack (pack l)).underline ≡ l.underline
  unfolding unpack pack
  back_underline = bit_back (pack l / 128 % 2) l.underline (omega (arith, bits, h.background, h.colour))

  back_double : (unpack (pack l)).double ≡ l.double
  unfolding unpack pack
  back_double = bit_back (pack l / 64 % 2) l.double (omega (arith, bits, h.background, h.colour))

  back_background : (unpack (pack l)).background ≡ l.background
  unfolding unpack pack
  back_background = omega (arith, bits, h.background, h.colour)

  back_colour : (unpack (pack l)).colour ≡ l.colour
  unfolding unpack pack
  back_colour = omega (arith, bits, h.background, h.colour)

  pub unpack-pack : unpack (pack l) ≡ l
  unpack-pack =
      λ i.
      record {
        italics = back_italics i;
        underline = back_underline i;
        double = back_double i;
        background = back_background i;
        colour = back_colour i;
      }

-- a number below the count of looks is what it unpacks to, packed again
bit_of : (n : ℕ) → n ≤ 1 → bit (eqb n 1) ≡ n
bit_of n h = by_test (eqb n 1) (λ e. rw e (sym (eqb-true n 1 e))) (λ e. rw e (omega (arith, eqb-false n 1 e)))

sum_of_bits :
    (n a b c i u d p q : ℕ) → n ≡ 64 * a + 8 * p + q → a ≡ 2 * b + d → b ≡ 2 * c + u → c ≡ i → 256 * i + 128 * u + 64 * d + 8 * p + q ≡ n
sum_of_bits n a b c i u d p q h k l m = omega arith

pub packed_again : (n : ℕ) → n < look_count → pack (unpack n) ≡ n
unfolding pack unpack
packed_again n h =
    rw (bit_of (n / 256 % 2) (omega arith), bit_of (n / 128 % 2) (omega arith), bit_of (n / 64 % 2) (omega arith))
    (sum_of_bits n (n / 64) (n / 128) (n / 256) _ _ _ _ _ (omega arith) (omega arith) (omega arith) (omega arith))

pub unpack-bits : (n : ℕ) → ThreeBits (unpack n)
unfolding unpack
unpack-bits n = record { background = omega arith; colour = omega arith }
