-- How long the document of an accepted file can get: TNB has five digits, MNR has two, and rule 15 bounds what each block can add.
-- Assumes nothing.
use Prim.Native.Nat.{ℕ, zero, suc, ◌+◌, ◌*◌, ◌-◌, ◌/◌, ◌%◌, ◌≤◌, ◌<◌}
use native.Mathlib.Omega.{arith}
use native.Mathlib.Nat.{not-suc-le-zero}
use mathlib.Core.Path.{◌≡◌, refl, ap, ◌∙◌}
use mathlib.Core.Bool.{Bool, true, false, cond}
use mathlib.Core.List.{List, [], ◌∷◌, ◌++◌, map, flat_map}
use lib.Dec.{eqb, ltb}
use lib.ListN.{length, replicate, length-append, length-map, length-take, length-replicate}
use borrow.Author.Tests.{leb-true}
use Rattle.std.specs.Prelude.{Option, Some, None, option_to_list}
use Rattle.meaning.specs.declared.Token.{Token}
use Rattle.meaning.specs.Lists.{all, keep, joined, up_from, bytes, field}
use Rattle.meaning.specs.declared.Look.{Look}
use Rattle.meaning.specs.Looks.{look_count, white_on_black, pack, unpack}
use Rattle.meaning.specs.Refusals.{is_good}
use Rattle.meaning.specs.Codes.{tokens, takes_cell}
use Rattle.meaning.specs.Rows.{is_double, rows, lines_of, row_count, row_limit, is_short, rows_fit}
use Rattle.meaning.specs.TextRules.{text_rules, text_rule}
use Rattle.meaning.specs.Glyphs.{spelling}
use Rattle.meaning.specs.Cells.{Cell, Pen, points, pen_after, cells_of, cells_from, row_start, cells_of_row, look_after_row, cell_rows, shown}
use Rattle.meaning.specs.Spans.{look_of, uniform, spans_from, spans}
use Rattle.meaning.specs.Gsi.{format_of, block_count, is_digit, value_from, number_in, tnb, mnr, is_teletext, screen_of, file_rule, tnb_at, most_blocks}
use Rattle.meaning.specs.declared.Time.{Time}
use Rattle.meaning.specs.declared.Header.{Header}
use Rattle.meaning.specs.declared.Screen.{Screen}
use Rattle.meaning.specs.declared.Format.{Format}
use Rattle.meaning.specs.Walk.{Subtitle, Progress, outcome, subtitle_of}
use Rattle.meaning.specs.Walk.Outcome.{accepted}
use Rattle.meaning.specs.Document.{Piece, Alignment, Paragraph, Document, digits, without_zeros, decimal, utf8, escaped, style_name, write_span, write_piece, write_time, alignment_name, write_paragraph, channel, colour_name, size_name, font_style_name, decoration_name, style_end, write_style, is_used, looks_used, before_rate, before_styles, before_paragraphs, after_paragraphs, render, document_spans}
use Rattle.meaning.specs.Document.Piece.{span, br}
use Rattle.meaning.specs.Document.Alignment.{left, centre, right}
use Rattle.meaning.specs.Conversion.{span_of, row_spans, later_rows, row_pieces, fillers, paragraph_of, document_of}
use Rattle.meaning.specs.Profile.{starts_with, span_elements}
use Rattle.meaning.proofs.DigitLaws.{digits-length}
use Rattle.std.proofs.lemmas.Bool.{and_parts}
use Rattle.meaning.proofs.Logic.{by_test, by_cond, between}
use Rattle.meaning.proofs.ListLaws.{All, Any, any-blocks, all_of, all_copies, all_map, join_append, test-nil, test_split}
use Rattle.meaning.proofs.RefusalLaws.{unbroken}
use Rattle.meaning.proofs.ListLaws.All.{nil, cons}
use Rattle.laws.proofs.Trimming.{shown_bound}
use Rattle.laws.proofs.Pieces.{fillers_of, pieces_are}
use Rattle.laws.proofs.Elements.{elements_are_spans}
use Rattle.laws.proofs.Walk.{Made, Held}
use Rattle.laws.proofs.Accepted.{outcome-kept, rule-kept, tnb-right}

-- after a number below b, n digits more write one below b times ten to the n
abbrev tens : ℕ → ℕ → ℕ
tens zero b = b
tens (suc n) b = tens n (10 * b)

digit_bound : (c : ℕ) → is_digit c ≡ true → c - 48 ≤ 9
unfolding is_digit
digit_bound c e = omega (arith, between 48 57 c e)

value_bound : (n v b : ℕ) (cs : List ℕ) → length cs ≤ n → all is_digit cs ≡ true → v < b → value_from v cs < tens n b
unfolding value_from
value_bound zero v b [] l t h = h
value_bound zero v b (c ∷ cs) l t h = absurd (not-suc-le-zero l)
value_bound (suc n) v b [] l t h = value_bound n v (10 * b) [] (omega arith) t (omega arith)
value_bound (suc n) v b (c ∷ cs) l t h =
    let d = test_split is_digit c cs t in
    value_bound n (10 * v + (c - 48)) (10 * b) cs (omega arith) d.1 (omega (arith, digit_bound c d.0))

-- so the number in a field of n bytes is below ten to the n
field_bound : (from n : ℕ) (file : List ℕ) → number_in (field from n file) < tens n 1
unfolding number_in field value_from
field_bound from n file =
    by_test (all is_digit (field from n file))
    (λ e. rw e (value_bound n 0 1 _ (simp length-take (omega arith)) e (omega arith)))
    (λ e. rw e (value_bound n 0 1 [] (omega arith) (test-nil is_digit) (omega arith)))

-- TNB has five digits
pub tnb-low : (file : List ℕ) → tnb file ≤ most_blocks
unfolding tnb
tnb-low file = omega (arith, field_bound tnb_at 5 file)

-- rule 6
pub tnb_bound : (mode : ℕ) (file : List ℕ) → is_good (file_rule mode file) ≡ true → block_count file ≤ most_blocks
tnb_bound mode file e = omega (arith, (tnb-right mode file e).1, tnb-low file)

-- what is joined, by a bound on each part
join_bound : {A : Type 0} (f : A → List ℕ) (n : ℕ) {xs : List A} → All (λ (x : A). length (f x) ≤ n) xs → length (flat_map f xs) ≤ n * length xs
unfolding flat_map
join_bound f n nil = omega arith
join_bound f n (cons h k) = simp length-append (omega (arith, join_bound f n k))

either_bound : (n : ℕ) (b : Bool) (x y : List ℕ) → length x ≤ n → length y ≤ n → length (cond b x y) ≤ n
either_bound n = by_cond (λ (l : List ℕ). length l ≤ n)

-- numbers and characters
zeros_bound : (ds : List ℕ) → length (without_zeros ds) ≤ length ds
unfolding without_zeros
zeros_bound [] = omega arith
zeros_bound (d ∷ []) = omega arith
zeros_bound (d ∷ e ∷ ds) =
    by_test (eqb d 48)
    (λ f. rw (f, without_zeros) (omega (arith, zeros_bound (e ∷ ds))))
    (λ f. rw (f, without_zeros) (omega arith))

decimal_bound : (n : ℕ) → length (decimal n) ≤ 5
unfolding decimal
decimal_bound n = omega (arith, zeros_bound (digits 5 n), digits-length 5 n)

utf8_bound : (p : ℕ) → length (utf8 p) ≤ 5
unfolding utf8
utf8_bound p =
    either_bound 5 (ltb p 128) _ _ (omega arith)
    (either_bound 5 (ltb p 2048) _ _ (omega arith) (either_bound 5 (ltb p 65536) _ _ (omega arith) (omega arith)))

escaped_bound : (p : ℕ) → length (escaped p) ≤ 5
unfolding escaped bytes
escaped_bound p =
    either_bound 5 (eqb p 38) _ _ (omega arith)
    (either_bound 5 (eqb p 60) _ _ (omega arith) (either_bound 5 (eqb p 62) _ _ (omega arith) (utf8_bound p)))

-- a span
mark_bound : (m : Option ℕ) → length (option_to_list m) ≤ 1
mark_bound None = omega arith
mark_bound (Some m) = omega arith

points_bound : (c : Cell) → length (points c) ≤ 2
unfolding points spelling
points_bound c = omega (arith, mark_bound c.character.mark)

span_bound : (g : List Cell) → length (write_piece (span (span_of g))) ≤ 32 + 10 * length g
unfolding write_piece write_span span_of style_name joined bytes
span_bound g =
    let ps = flat_map points g in
    simp length-append
    (omega (
      arith,
      digits-length 3 (pack (look_of g)),
      join_bound escaped 5 (all_of escaped_bound ps),
      join_bound points 2 (all_of points_bound g),
    ))

-- the bytes of pieces
abbrev size : List Piece → ℕ
size ps = length (flat_map write_piece ps)

size-append : (ps qs : List Piece) → size (ps ++ qs) ≡ size ps + size qs
size-append ps qs = ap length (join_append write_piece ps qs) ∙ length-append (flat_map write_piece ps) (flat_map write_piece qs)

-- a row: its cells are as many as its tokens that take one, those shown are no more, and each is at worst a span by itself
pub cells-length : (p : Pen) (ts : List Token) → length (cells_from p ts) ≡ length (keep takes_cell ts)
unfolding cells_from cells_of keep
cells-length p [] = refl
cells-length p (t ∷ ts) =
    by_test (takes_cell t)
    (λ e. rw (e, keep) (ap suc (cells-length (pen_after t p) ts)))
    (λ e. rw (e, keep) (cells-length (pen_after t p) ts))

from_bound : (cur cs : List Cell) → size (map span (map span_of (spans_from cur cs))) ≤ 32 + 10 * length cur + 42 * length cs
unfolding spans_from flat_map
from_bound cur [] = simp length-append (omega (arith, span_bound cur))
from_bound cur (c ∷ cs) =
    by_test (uniform (cur ++ (c ∷ [])))
    (λ e. rw (e, spans_from) (omega (arith, from_bound (cur ++ (c ∷ [])) cs, length-append cur (c ∷ []))))
    (λ e. rw (e, spans_from) (simp length-append (omega (arith, span_bound cur, from_bound (c ∷ []) cs))))

spans-size : (cs : List Cell) → size (map span (map span_of (spans cs))) ≤ 42 * length cs
unfolding spans flat_map
spans-size [] = omega arith
spans-size (c ∷ cs) = omega (arith, from_bound (c ∷ []) cs)

row_bound : (l : Look) (r : List Token) → is_short r ≡ true → size (map span (row_spans (cells_of_row l r))) ≤ 2688
unfolding is_short row_spans
row_bound l r e =
    let cs = cells_of_row l r in
    omega (
      arith,
      leb-true (length (keep takes_cell r)) row_limit e,
      cells-length (row_start r l) r,
      shown_bound cs,
      spans-size (shown cs),
    )

-- the rows of a subtitle, each with a tt:br
later_bound : (l : Look) (rs : List (List Token)) → all is_short rs ≡ true → size (later_rows (cell_rows l rs)) ≤ 2696 * length rs
unfolding cell_rows later_rows flat_map write_piece bytes
later_bound l [] e = omega arith
later_bound l (r ∷ rs) e =
    let s = test_split is_short r rs e in
    omega (
      arith,
      size-append (map span (row_spans (cells_of_row l r))) (later_rows (cell_rows (look_after_row l r) rs)),
      row_bound l r s.0,
      later_bound (look_after_row l r) rs s.1,
    )

rows-later : (rs : List (List Cell)) → size (row_pieces rs) ≤ size (later_rows rs)
unfolding row_pieces later_rows flat_map write_piece bytes
rows-later [] = omega arith
rows-later (r ∷ rs) = omega arith

fillers_bound : (n : ℕ) → size (replicate n br) ≤ 8 * n
unfolding write_piece bytes
fillers_bound n = omega (arith, join_bound write_piece 8 (all_copies n br (omega arith)), length-replicate n br)

-- a paragraph: beside its pieces, fixed text and numbers
time_length : (t : Time) → length (write_time t) ≡ 11
unfolding write_time joined bytes
time_length t =
    simp length-append
    (omega (arith, digits-length 2 t.hours, digits-length 2 t.minutes, digits-length 2 t.seconds, digits-length 2 t.frames))

alignment_bound : (a : Alignment) → length (alignment_name a) ≤ 11
unfolding alignment_name bytes
alignment_bound left = omega arith
alignment_bound centre = omega arith
alignment_bound right = omega arith

paragraph_bound : (p : Paragraph) → length (write_paragraph p) ≤ 100 + size p.pieces
unfolding write_paragraph joined bytes
paragraph_bound p =
    simp length-append
    (omega (arith, decimal_bound p.number, alignment_bound p.alignment, time_length p.begin, time_length p.end))

-- rule 15 on a screen that ends at 99 at the latest: at most 99 rows, each of them short, and at most 99 filler lines
lines_least : (double : Bool) (n : ℕ) → n ≤ (lines_of double (record { 0 = n })).0
unfolding lines_of
lines_least true n = omega arith
lines_least false n = omega arith

pub rows_fit_lem :
    (f : Format) (place vp : ℕ) (text : List ℕ) → is_good (text_rule f place vp text) ≡ true
    → (all is_short (rows f.mode (tokens text)) ≡ true) × (vp + (lines_of (is_double (tokens text)) (row_count (rows f.mode (tokens text)))).0 ≤ f.screen.end)
unfolding text_rule text_rules rows_fit
rows_fit_lem f place vp text e =
    let r = and_parts _ _ (unbroken _ _ _ _ _ (unbroken _ _ _ _ _ (unbroken _ _ _ _ _ e).1).1).0 in
    (r.0, leb-true _ f.screen.end r.1)

pieces_bound :
    (f : Format) (first : Header) (text : List ℕ) (place : ℕ) → is_good (text_rule f place first.vp text) ≡ true → f.screen.end ≤ 99
    → size (paragraph_of f (subtitle_of f.mode first (tokens text))).pieces ≤ 269900
unfolding subtitle_of row_count fillers
pieces_bound f first text place e h =
    let ts = tokens text in
    let s = subtitle_of f.mode first ts in
    let fit = rows_fit_lem f place first.vp text e in
    rw (pieces_are f s)
    (omega (
      arith,
      fit,
      size-append (row_pieces s.rows) (replicate (fillers_of f s) br),
      rows-later s.rows,
      later_bound (white_on_black (is_double ts)) (rows f.mode ts) fit.0,
      fillers_bound (fillers_of f s),
      lines_least (is_double ts) (length (rows f.mode ts)),
    ))

made_bound :
    {Block : List ℕ → Type 0} {f : Format} → f.screen.end ≤ 99 → (s : Subtitle) → Made Block f s
    → length (write_paragraph (paragraph_of f s)) ≤ 270000
made_bound {f = f} h s m =
    rw m.made
    (let t = subtitle_of f.mode s.first (tokens m.text) in
    omega (arith, paragraph_bound (paragraph_of f t), pieces_bound f s.first m.text m.place m.rule h))

-- the style lines: one for each look at most
keep_bound : {A : Type 0} (p : A → Bool) (xs : List A) → length (keep p xs) ≤ length xs
unfolding keep
keep_bound p [] = omega arith
keep_bound p (x ∷ xs) =
    by_test (p x) (λ e. rw (e, keep) (omega (arith, keep_bound p xs))) (λ e. rw (e, keep) (omega (arith, keep_bound p xs)))

looks_bound : (ps : List Paragraph) → length (looks_used ps) ≤ look_count
unfolding looks_used up_from
looks_bound ps = keep_bound (is_used ps) (up_from look_count 0)

channel_bound : (bit : ℕ) → length (channel bit) ≤ 2
unfolding channel bytes
channel_bound bit = either_bound 2 (eqb bit 0) _ _ (omega arith) (omega arith)

colour_bound : (c : ℕ) → length (colour_name c) ≤ 7
unfolding colour_name joined bytes
colour_bound c = simp length-append (omega (arith, channel_bound (c % 2), channel_bound (c / 2 % 2), channel_bound (c / 4 % 2)))

height_bound : (double : Bool) → length (size_name double) ≤ 5
unfolding size_name bytes
height_bound double = either_bound 5 double _ _ (omega arith) (omega arith)

font_style_bound : (italics : Bool) → length (font_style_name italics) ≤ 6
unfolding font_style_name bytes
font_style_bound italics = either_bound 6 italics _ _ (omega arith) (omega arith)

decoration_bound : (underline : Bool) → length (decoration_name underline) ≤ 9
unfolding decoration_name bytes
decoration_bound underline = either_bound 9 underline _ _ (omega arith) (omega arith)

style_bound : (look : ℕ) → length (write_style look) ≤ 160
unfolding write_style style_end style_name joined bytes
style_bound look =
    let l = unpack look in
    simp length-append
    (omega (
      arith,
      digits-length 3 look,
      colour_bound l.colour,
      colour_bound l.background,
      height_bound l.double,
      font_style_bound l.italics,
      decoration_bound l.underline,
    ))

-- a document: beside its paragraphs, fixed text and the style lines
render_bound : (d : Document) → length (render d) ≤ 100000 + length (flat_map write_paragraph d.paragraphs)
unfolding render joined before_rate before_styles before_paragraphs after_paragraphs bytes
render_bound d =
    let looks = looks_used d.paragraphs in
    simp length-append
    (omega (arith, digits-length 2 d.rate, join_bound write_style 160 (all_of style_bound looks), looks_bound d.paragraphs))

-- a tt:span element begins at a byte of its own
elements_bound : (s : List ℕ) → span_elements s ≤ length s
unfolding span_elements
elements_bound [] = omega arith
elements_bound (b ∷ s) =
    by_test (starts_with (bytes "<tt:span ") (b ∷ s))
    (λ e. rw (e, span_elements) (omega (arith, elements_bound s)))
    (λ e. rw (e, span_elements) (omega (arith, elements_bound s)))

-- an accepted file
module _ (mode : ℕ) (file : List ℕ) (p : Progress (List Subtitle)) (c : outcome mode file ≡ accepted p) where
  held : Held Any (format_of mode file) (block_count file) p
  held = rw c at (outcome-kept Any mode file (any-blocks _))

  -- a teletext screen ends at 24, that of open subtitles at MNR
  screen_end : (format_of mode file).screen.end ≤ 99
  unfolding format_of screen_of mnr
  screen_end = by_cond (λ (s : Screen). s.end ≤ 99) (is_teletext file) _ _ (omega arith) (omega (arith, field_bound 253 2 file))

  pub subtitles_bound : length p.gathered ≤ most_blocks
  subtitles_bound = omega (arith, held.few, tnb_bound mode file (rule-kept mode file p c))

  pub paragraphs_bound : length (flat_map write_paragraph (map (paragraph_of (format_of mode file)) p.gathered)) ≤ 27000000000
  paragraphs_bound =
      omega (
        arith,
        subtitles_bound,
        join_bound write_paragraph 270000 (all_map (paragraph_of (format_of mode file)) (made_bound screen_end) held.made),
        length-map p.gathered (paragraph_of (format_of mode file)),
      )

  length_bound : length (render (document_of (format_of mode file) p.gathered)) ≤ 27000100000
  unfolding document_of
  length_bound = omega (arith, paragraphs_bound, render_bound (document_of (format_of mode file) p.gathered))

  pub spans_bound : document_spans (map (paragraph_of (format_of mode file)) p.gathered) ≤ 27000100000
  unfolding document_of
  spans_bound =
      let d = document_of (format_of mode file) p.gathered in
      omega (arith, length_bound, elements_bound (render d), elements_are_spans d)

  -- below 2 ^ 40
  pub document_bound : length (render (document_of (format_of mode file) p.gathered)) < 1099511627776
  document_bound = omega (arith, length_bound)
