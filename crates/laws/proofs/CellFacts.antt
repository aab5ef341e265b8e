-- What holds of every cell of a text: a character whose code points are read back, and colours of three bits.
-- Assumes nothing.
use Prim.Native.Nat.{ℕ}
use native.Mathlib.Omega.{arith}
use mathlib.Core.Path.{◌≡◌, refl, sym, ap, subst, ◌∙◌}
use mathlib.Core.Bool.{Bool, true, false}
use mathlib.Core.List.{List, [], ◌∷◌, ◌++◌, map, append_assoc, flat_map, flatten}
use lib.Dec.{eqb, ltb}
use borrow.Author.Tests.{ltb-true}
use Rattle.meaning.specs.declared.Glyph.{Glyph}
use Rattle.meaning.specs.declared.Token.{Token}
use Rattle.meaning.specs.declared.Token.TheVariants.{Character, Control, Switch, RowEnd, Unlisted}
use Rattle.meaning.specs.declared.Look.{Look}
use Rattle.meaning.specs.Lists.{all}
use Rattle.meaning.specs.Characters.{accent}
use Rattle.meaning.specs.Glyphs.{spelling}
use Rattle.meaning.specs.Codes.{is_control, is_switch, character_of, code_token, pair_token, is_accent, tokens, takes_cell}
use Rattle.meaning.specs.Rows.{breaks_paired, rows}
use Rattle.meaning.specs.Cells.{Cell, Pen, points, cell_character, control_here, control_next, switched, look_here, look_next, hidden_if, cell_of, pen_after, cells_of, cells_from, pen_end, row_start, look_after_row, cell_rows, is_blank}
use Rattle.meaning.specs.Spans.{foreground_of, look_of, uniform, spans_from, spans}
use Rattle.meaning.proofs.Logic.{by_test}
use Rattle.meaning.proofs.ListLaws.{All, all_append, all_left, all_right, all_map, test-all, test_split}
use Rattle.meaning.proofs.ListLaws.All.{nil, cons}
use Rattle.meaning.proofs.LookLaws.{ThreeBits, white-bits, start-bits, blend-bits}
use Rattle.meaning.proofs.RowLaws.{rows-tested}
use Rattle.meaning.proofs.Tokens.{tokens_pair, tokens-code}
use Rattle.laws.proofs.Spelling.{is_spelled, Spelled, space-spelled, latin-spelled, accented-spelled}

-- a property `Of` of every cell of a text whose tokens pass a test: `Within` holds of the looks in a row, for each token keeps it;
-- `Before` is all that the start of a row needs of the look before it, and the looks in a row have it
pub record Keeping (token : Token → Bool) (Before Within : Look → Type 0) (Of : Cell → Type 0) : Type 0 where
  pub ends : token RowEnd ≡ true
  pub cell : (t : Token) (p : Pen) → token t ≡ true → Within p.look → Of (cell_of t p)
  pub next : (t : Token) (l : Look) → token t ≡ true → Within l → Within (look_next t l)
  pub start : (row : List Token) (l : Look) → Before l → Within (row_start row l).look
  pub left : (l : Look) → Within l → Before l

module _ {token : Token → Bool} {Before Within : Look → Type 0} {Of : Cell → Type 0} (k : Keeping token Before Within Of) where
  cell_keeps : (t : Token) (p : Pen) → token t ≡ true → Within p.look → All Of (cells_of t p)
  unfolding cells_of
  cell_keeps t p v h = by_test (takes_cell t) (λ e. rw e (cons (k.cell t p v h) nil)) (λ e. rw e nil)

  cells-keep : (p : Pen) (ts : List Token) → all token ts ≡ true → Within p.look → All Of (cells_from p ts) × Within (pen_end p ts).look
  unfolding cells_from pen_end pen_after
  cells-keep p [] e h = (nil, h)
  cells-keep p (t ∷ ts) e h =
      let s = test_split token t ts e in
      let later = cells-keep (pen_after t p) ts s.1 (k.next t p.look s.0 h) in
      (all_append (cell_keeps t p s.0 h) later.0, later.1)

  rows-keep : (l : Look) (rs : List (List Token)) → all (all token) rs ≡ true → Before l → All (All Of) (cell_rows l rs)
  unfolding cell_rows
  rows-keep l [] e h = nil
  rows-keep l (r ∷ rs) e h =
      let s = test_split (all token) r rs e in
      let row = cells-keep (row_start r l) r s.0 (k.start r l h) in
      cons row.0 (rows-keep (look_after_row l r) rs s.1 (k.left _ row.1))

  pub text_keeps : (mode : ℕ) (l : Look) (ts : List Token) → Before l → all token ts ≡ true → All (All Of) (cell_rows l (rows mode ts))
  text_keeps mode l ts h e = rows-keep l (rows mode ts) (rows-tested token k.ends (breaks_paired mode ts) ts ∙ e) h

abbrev is_writable : Token → Bool
is_writable (Character g) = is_spelled g
is_writable (Control c) = true
is_writable (Switch c) = true
is_writable RowEnd = true
is_writable Unlisted = true

abbrev Writable : Token → Type 0
Writable t = is_writable t ≡ true

character_writable : (g : Glyph) → Spelled g → Writable (character_of g)
unfolding character_of
character_writable g h = by_test (eqb g.point 0) (λ e. rw e) (λ e. rw e h)

code_writable : (c : ℕ) → Writable (code_token c)
unfolding code_token
code_writable c =
    by_test (eqb c 138)
    (λ e. rw (e, code_token))
    (λ e.
    by_test (is_control c)
    (λ f. rw (e, f, code_token))
    (λ f.
    by_test (is_switch c)
    (λ g. rw (e, f, g, code_token))
    (λ g. rw (e, f, g, code_token) (character_writable _ (latin-spelled c)))))

pair_writable : (a c : ℕ) → Writable (pair_token a c)
unfolding pair_token
pair_writable a c = character_writable _ (accented-spelled (accent a) c)

tokens_writable : (cs : List ℕ) → All Writable (tokens cs)
tokens_writable [] = unfold tokens in nil
tokens_writable (c ∷ []) = unfold tokens in cons (code_writable c) nil
tokens_writable (c ∷ d ∷ cs) =
    by_test (is_accent c)
    (λ e. rw (tokens_pair c d cs e) (cons (pair_writable c d) (tokens_writable cs)))
    (λ e. rw (tokens-code c d cs e) (cons (code_writable c) (tokens_writable (d ∷ cs))))

pub here-bits : (t : Token) (l : Look) → ThreeBits l → ThreeBits (look_here t l)
unfolding look_here control_here
here-bits (Character g) l h = h
here-bits (Control c) l h =
    record {
      background =
          by_test (eqb c 28)
          (λ e. rw e (omega arith))
          (λ e. by_test (eqb c 29) (λ f. rw (e, f) h.colour) (λ f. rw (e, f) h.background));
      colour = h.colour;
    }
here-bits (Switch c) l h = h
here-bits RowEnd l h = h
here-bits Unlisted l h = h

control_bits : (c : ℕ) (l : Look) → ThreeBits l → ThreeBits (control_next c l)
unfolding control_next
control_bits c l h =
    record {
      background = h.background;
      colour = by_test (ltb c 8) (λ e. rw e (ltb-true c 8 e)) (λ e. rw e h.colour);
    }

pub next-bits : (t : Token) (l : Look) → ThreeBits l → ThreeBits (look_next t l)
unfolding look_next switched
next-bits (Character g) l h = h
next-bits (Control c) l h = control_bits c (control_here c l) (unfold look_here in here-bits (Control c) l h)
next-bits (Switch c) l h = record { background = h.background; colour = h.colour }
next-bits RowEnd l h = h
next-bits Unlisted l h = h

pub record Sound (c : Cell) : Type 0 where
  pub character : Spelled c.character
  pub look : ThreeBits c.look

cell-spelled : (t : Token) → Writable t → Spelled (cell_character t)
unfolding cell_character
cell-spelled (Character g) h = h
cell-spelled (Control c) h = space-spelled
cell-spelled (Switch c) h = space-spelled
cell-spelled RowEnd h = space-spelled
cell-spelled Unlisted h = space-spelled

-- the characters of cells, and their code points
unfoldable pub characters : List Cell → List Glyph
characters cs = map (λ (c : Cell). c.character) cs

pub characters-spelled : {cs : List Cell} → All Sound cs → All Spelled (characters cs)
unfolding characters
characters-spelled h = all_map _ (λ c s. s.character) h

pub points_of : (cs : List Cell) → flat_map points cs ≡ flat_map spelling (characters cs)
unfolding points flat_map characters
points_of [] = refl
points_of (c ∷ cs) = ap (λ (l : List ℕ). spelling c.character ++ l) (points_of cs)

shown-sound : (hidden : Bool) (c : Cell) → Sound c → Sound (hidden_if hidden c)
unfolding hidden_if
shown-sound true c s = record { character = space-spelled; look = white-bits c.look.double }
shown-sound false c s = s

-- a row may start from any look
sound : Keeping is_writable (λ l. Unit {0}) ThreeBits Sound
unfolding cell_of row_start
sound =
    record {
      ends = refl;
      cell = λ t p v h. shown-sound p.hidden _ (record { character = cell-spelled t v; look = here-bits t p.look h });
      next = λ t l v h. next-bits t l h;
      start = λ r l h. start-bits l;
      left = λ l h. tt;
    }

-- the cells of every row of a text
pub rows-sound : (mode : ℕ) (l : Look) (text : List ℕ) → All (All Sound) (cell_rows l (rows mode (tokens text)))
rows-sound mode l text = text_keeps sound mode l (tokens text) tt (test-all is_writable (tokens_writable text))

-- spans together are the cells
from_flat : (cur cs : List Cell) → flatten (spans_from cur cs) ≡ cur ++ cs
unfolding flatten spans_from
from_flat cur [] = refl
from_flat cur (c ∷ cs) =
    by_test (uniform (cur ++ (c ∷ [])))
    (λ e. rw (e, spans_from) (from_flat (cur ++ (c ∷ [])) cs ∙ append_assoc cur (c ∷ []) cs))
    (λ e. rw (e, spans_from) (ap (λ (l : List Cell). cur ++ l) (from_flat (c ∷ []) cs)))

pub spans_flat : (cs : List Cell) → flatten (spans cs) ≡ cs
unfolding spans flatten
spans_flat [] = refl
spans_flat (c ∷ cs) = from_flat (c ∷ []) cs

-- so a property of all cells holds in every span
all-parts : {A : Type 0} {P : A → Type 0} (xss : List (List A)) → All P (flatten xss) → All (All P) xss
unfolding flatten
all-parts [] h = nil
all-parts (xs ∷ xss) h = cons (all_left xs (flatten xss) h) (all-parts xss (all_right xs (flatten xss) h))

pub spans_all : {P : Cell → Type 0} (cs : List Cell) → All P cs → All (All P) (spans cs)
spans_all {P} cs h = all-parts (spans cs) (subst (All P) (sym (spans_flat cs)) h)

-- the look of a span
foreground_bits : (cs : List Cell) → All Sound cs → ThreeBits (foreground_of cs)
unfolding foreground_of
foreground_bits [] h = white-bits false
foreground_bits (c ∷ cs) (cons p h) =
    by_test (is_blank c) (λ e. rw (e, foreground_of) (foreground_bits cs h)) (λ e. rw (e, foreground_of) p.look)

pub span-bits : (cs : List Cell) → All Sound cs → ThreeBits (look_of cs)
unfolding look_of
span-bits [] h = white-bits false
span-bits (c ∷ cs) (cons p h) = blend-bits c.look (foreground_of (c ∷ cs)) p.look (foreground_bits (c ∷ cs) (cons p h))
