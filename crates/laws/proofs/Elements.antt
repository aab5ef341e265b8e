-- The tt:span elements that stand in a document's bytes are its spans, whatever the document is.
-- Assumes nothing.
use Prim.Native.Nat.{ℕ, zero, suc, ◌+◌, ◌/◌}
use native.Mathlib.Omega.{arith}
use native.Mathlib.Nat.{zero-add}
use mathlib.Core.Path.{◌≡◌, refl, sym, ap, ◌∙◌}
use mathlib.Core.Bool.{Bool}
use mathlib.Core.List.{List, [], ◌∷◌, ◌++◌, append_assoc, append-nil, flat_map}
use lib.Dec.{ltb, eqb}
use lib.ListN.{length, length-append}
use borrow.Author.Tests.{ne_eqb, eqb-false}
use Rattle.meaning.specs.Lists.{joined, bytes}
use Rattle.meaning.specs.declared.Time.{Time}
use Rattle.meaning.specs.Document.{Span, Piece, Alignment, Paragraph, Document, digits, without_zeros, decimal, utf8, escaped, style_name, write_span, write_piece, write_time, alignment_name, write_paragraph, channel, colour_name, size_name, font_style_name, decoration_name, style_end, write_style, looks_used, before_rate, before_styles, before_paragraphs, after_paragraphs, render, looks_of, document_looks, document_spans}
use Rattle.meaning.specs.Document.Piece.{span, br}
use Rattle.meaning.specs.Document.Alignment.{left, centre, right}
use Rattle.meaning.specs.Profile.{starts_with, span_elements}
use Rattle.meaning.proofs.Logic.{by_test, by_cond}
use Rattle.meaning.proofs.ListLaws.{All, all_append}
use Rattle.meaning.proofs.ListLaws.All.{nil, cons}

-- the number of spans among pieces
unfoldable pub count_spans : List Piece → ℕ
count_spans ps = length (looks_of ps)

-- bytes that hold n elements, whatever follows
record HasSpans (n : ℕ) (x : List ℕ) : Type 0 where
  law : (s : List ℕ) → span_elements (x ++ s) ≡ n + span_elements s

infixr 65 ◌&◌
◌&◌ : {m n : ℕ} {x y : List ℕ} → HasSpans m x → HasSpans n y → HasSpans (m + n) (x ++ y)
◌&◌ {m} {n} {x} {y} p q =
    record { law = λ s. ap span_elements (append_assoc x y s) ∙ p.law (y ++ s) ∙ omega (arith, q.law s) }

num : {m n : ℕ} {x : List ℕ} → m ≡ n → HasSpans m x → HasSpans n x
num e t = rw e at t

nothing : HasSpans 0 []
nothing = record { law = λ s. sym (zero-add _) }

-- a fixed text, by computing
fixed : (x : List ℕ) → ((s : List ℕ) → span_elements (x ++ s) ≡ span_elements s) → HasSpans 0 x
fixed x h = record { law = λ s. h s ∙ sym (zero-add _) }

-- bytes other than <
abbrev Plain : ℕ → Type 0
Plain b = 60 ≡ b → ⊥

byte : (b : ℕ) → Plain b → HasSpans 0 (b ∷ [])
unfolding span_elements starts_with bytes
byte b h = record { law = λ s. rw (ne_eqb 60 b h, span_elements, starts_with) (sym (zero-add _)) }

plain : {x : List ℕ} → All Plain x → HasSpans 0 x
plain nil = nothing
plain (cons h k) = byte _ h & plain k

plain-digits : (k n : ℕ) → All Plain (digits k n)
unfolding digits
plain-digits zero n = nil
plain-digits (suc k) n = all_append (plain-digits k (n / 10)) (cons (λ e. omega arith) nil)

plain_zeros : {ds : List ℕ} → All Plain ds → All Plain (without_zeros ds)
unfolding without_zeros
plain_zeros nil = nil
plain_zeros (cons h nil) = cons h nil
plain_zeros (cons {x = d} h (cons {x = e} k l)) =
    by_test (eqb d 48)
    (λ f. rw (f, without_zeros) (plain_zeros (cons k l)))
    (λ f. rw (f, without_zeros) (cons h (cons k l)))

plain-utf8 : (p : ℕ) → Plain p → All Plain (utf8 p)
unfolding utf8
plain-utf8 p h =
    by_cond (All Plain) (ltb p 128) _ _ (cons h nil)
    (by_cond (All Plain) (ltb p 2048) _ _ (cons (λ z. omega arith) (cons (λ z. omega arith) nil))
    (by_cond (All Plain) (ltb p 65536) _ _
    (cons (λ z. omega arith) (cons (λ z. omega arith) (cons (λ z. omega arith) nil)))
    (cons (λ z. omega arith) (cons (λ z. omega arith) (cons (λ z. omega arith) (cons (λ z. omega arith) nil))))))

in_digits : (k n : ℕ) → HasSpans 0 (digits k n)
in_digits k n = plain (plain-digits k n)

in_escaped : (p : ℕ) → HasSpans 0 (escaped p)
unfolding escaped span_elements starts_with bytes
in_escaped p =
    by_test (eqb p 38)
    (λ e. rw e (fixed (bytes "&amp;") (λ s. refl)))
    (λ e.
    by_test (eqb p 60)
    (λ f. rw (e, f) (fixed (bytes "&lt;") (λ s. refl)))
    (λ f.
    by_test (eqb p 62)
    (λ g. rw (e, f, g) (fixed (bytes "&gt;") (λ s. refl)))
    (λ g. rw (e, f, g) (plain (plain-utf8 p (λ z. eqb-false p 60 f (sym z)))))))

in_each : {A : Type 0} (f : A → List ℕ) (xs : List A) → ((x : A) → HasSpans 0 (f x)) → HasSpans 0 (flat_map f xs)
unfolding flat_map
in_each f [] h = nothing
in_each f (x ∷ xs) h = h x & in_each f xs h

in_style_name : (look : ℕ) → HasSpans 0 (style_name look)
unfolding style_name span_elements starts_with bytes
in_style_name look = fixed (bytes "s") (λ s. refl) & in_digits 3 look

opening : HasSpans 1 (bytes "<tt:span style=\"")
unfolding span_elements starts_with bytes
opening = record { law = λ s. omega arith }

in_span : (s : Span) → HasSpans 1 (write_span s)
unfolding write_span joined span_elements starts_with bytes
in_span s =
    opening & in_style_name s.look & fixed (bytes "\">") (λ s. refl) & in_each escaped s.characters in_escaped
    & fixed (bytes "</tt:span>") (λ s. refl)

in_pieces : (ps : List Piece) → HasSpans (count_spans ps) (flat_map write_piece ps)
unfolding flat_map count_spans looks_of write_piece span_elements starts_with bytes
in_pieces [] = nothing
in_pieces (span s ∷ ps) = num (omega arith) (in_span s & in_pieces ps)
in_pieces (br ∷ ps) = num (omega arith) (fixed (bytes "<tt:br/>") (λ s. refl) & in_pieces ps)

in_time : (t : Time) → HasSpans 0 (write_time t)
unfolding write_time joined span_elements starts_with bytes
in_time t =
    let colon = fixed (bytes ":") (λ s. refl) in
    in_digits 2 t.hours & colon & in_digits 2 t.minutes & colon & in_digits 2 t.seconds & colon & in_digits 2 t.frames

in_alignment : (a : Alignment) → HasSpans 0 (alignment_name a)
unfolding alignment_name span_elements starts_with bytes
in_alignment left = fixed _ (λ s. refl)
in_alignment centre = fixed _ (λ s. refl)
in_alignment right = fixed _ (λ s. refl)

in_paragraph : (p : Paragraph) → HasSpans (count_spans p.pieces) (write_paragraph p)
unfolding write_paragraph joined decimal span_elements starts_with bytes
in_paragraph p =
    num (omega arith)
    (fixed (bytes "<tt:p xml:id=\"sub") (λ s. refl) & plain (plain_zeros (plain-digits 5 p.number))
    & fixed (bytes "\" style=\"") (λ s. refl) & in_alignment p.alignment
    & fixed (bytes "\" begin=\"") (λ s. refl) & in_time p.begin & fixed (bytes "\" end=\"") (λ s. refl) & in_time p.end
    & fixed (bytes "\">") (λ s. refl) & in_pieces p.pieces & fixed (bytes "</tt:p>\n") (λ s. refl))

in_paragraphs : (ps : List Paragraph) → HasSpans (document_spans ps) (flat_map write_paragraph ps)
unfolding flat_map document_spans document_looks count_spans
in_paragraphs [] = nothing
in_paragraphs (p ∷ ps) = num (sym (length-append (looks_of p.pieces) (document_looks ps))) (in_paragraph p & in_paragraphs ps)

in_channel : (bit : ℕ) → HasSpans 0 (channel bit)
unfolding channel span_elements starts_with bytes
in_channel bit = by_cond (HasSpans 0) (eqb bit 0) _ _ (fixed _ (λ s. refl)) (fixed _ (λ s. refl))

in_colour : (c : ℕ) → HasSpans 0 (colour_name c)
unfolding colour_name joined span_elements starts_with bytes
in_colour c = fixed (bytes "#") (λ s. refl) & in_channel _ & in_channel _ & in_channel _

in_size : (double : Bool) → HasSpans 0 (size_name double)
unfolding size_name span_elements starts_with bytes
in_size double = by_cond (HasSpans 0) double _ _ (fixed _ (λ s. refl)) (fixed _ (λ s. refl))

in_font_style : (italics : Bool) → HasSpans 0 (font_style_name italics)
unfolding font_style_name span_elements starts_with bytes
in_font_style italics = by_cond (HasSpans 0) italics _ _ (fixed _ (λ s. refl)) (fixed _ (λ s. refl))

in_decoration : (underline : Bool) → HasSpans 0 (decoration_name underline)
unfolding decoration_name span_elements starts_with bytes
in_decoration underline = by_cond (HasSpans 0) underline _ _ (fixed _ (λ s. refl)) (fixed _ (λ s. refl))

in_style : (look : ℕ) → HasSpans 0 (write_style look)
unfolding write_style style_end joined span_elements starts_with bytes
in_style look =
    fixed (bytes "<tt:style xml:id=\"") (λ s. refl) & in_style_name look & fixed (bytes "\" tts:color=\"") (λ s. refl)
    & in_colour _ & fixed (bytes "\" tts:backgroundColor=\"") (λ s. refl) & in_colour _
    & fixed (bytes "\" tts:fontSize=\"") (λ s. refl) & in_size _
    & fixed (bytes "\" tts:fontStyle=\"") (λ s. refl) & in_font_style _
    & fixed (bytes "\" tts:textDecoration=\"") (λ s. refl) & in_decoration _ & fixed (bytes "\"/>\n") (λ s. refl)

in_fixed : HasSpans 0 before_rate × HasSpans 0 before_styles × HasSpans 0 before_paragraphs × HasSpans 0 after_paragraphs
unfolding before_rate before_styles before_paragraphs after_paragraphs span_elements starts_with bytes
in_fixed = (fixed _ (λ s. refl), fixed _ (λ s. refl), fixed _ (λ s. refl), fixed _ (λ s. refl))

in_document : (d : Document) → HasSpans (document_spans d.paragraphs) (render d)
unfolding render joined
in_document d =
    num (omega arith)
    (in_fixed.0 & in_digits 2 d.rate & in_fixed.1 & in_each write_style (looks_used d.paragraphs) in_style
    & in_fixed.2 & in_paragraphs d.paragraphs & in_fixed.3)

pub elements_are_spans : (d : Document) → span_elements (render d) ≡ document_spans d.paragraphs
unfolding span_elements
elements_are_spans d = ap span_elements (sym (append-nil (render d))) ∙ omega (arith, (in_document d).law [])
