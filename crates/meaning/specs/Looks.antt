-- A look is a number of packed bits, most significant first: italics 1 bit, underline 1, double height 1, background 3, colour 3:
-- document 01, "Text to rows"; document 02, request 1.
-- Assumes nothing.
use Rattle.std.specs.Prelude.{ℕ, ◌+◌, ◌*◌, ◌/◌, ◌%◌, Bool, false, cond, eqb}
use Rattle.meaning.specs.declared.Look.{Look}

-- a packed look is below it, if its colours have three bits
abbrev pub look_count : ℕ
look_count = 512

abbrev pub black : ℕ
black = 0

abbrev pub white : ℕ
white = 7

-- upright, with no underline
unfoldable pub white_on_black : Bool → Look
white_on_black double = record { italics = false; underline = false; double = double; background = black; colour = white }

-- a look with another background, and with another colour
abbrev pub with_background : ℕ → Look → Look
with_background n l = record { italics = l.italics; underline = l.underline; double = l.double; background = n; colour = l.colour }

abbrev pub with_colour : ℕ → Look → Look
with_colour n l = record { italics = l.italics; underline = l.underline; double = l.double; background = l.background; colour = n }

-- each row starts white on black; the height is the subtitle's, italics and underline hold on
abbrev pub start_look : Look → Look
start_look l = with_colour white (with_background black l)

abbrev pub bit : Bool → ℕ
bit b = cond b 1 0

unfoldable pub pack : Look → ℕ
pack l = 256 * bit l.italics + 128 * bit l.underline + 64 * bit l.double + 8 * l.background + l.colour

unfoldable pub unpack : ℕ → Look
unpack n =
    record {
      italics = eqb (n / 256 % 2) 1;
      underline = eqb (n / 128 % 2) 1;
      double = eqb (n / 64 % 2) 1;
      background = n / 8 % 8;
      colour = n % 8;
    }

-- what all cells of a span share, as one number: underline, height and background
unfoldable pub shared : Look → ℕ
shared l = bit l.underline + 2 * (bit l.double + 2 * l.background)

-- what a blank leaves open, as one number: italics and colour
unfoldable pub free : Look → ℕ
free l = bit l.italics + 2 * l.colour

-- underline, height and background of one look, italics and colour of another
unfoldable pub blend : Look → Look → Look
blend l m = record { italics = m.italics; underline = l.underline; double = l.double; background = l.background; colour = m.colour }

unfoldable pub on_black : Look → Bool
on_black l = eqb l.background black
