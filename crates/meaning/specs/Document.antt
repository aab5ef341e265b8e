-- A document of our profile, as what varies in it and as bytes: document 01, "The document, whole"; document 02, request 1.
-- Assumes nothing.
use Rattle.std.specs.Prelude.{ℕ, zero, suc, ◌+◌, ◌/◌, ◌%◌, Bool, true, false, cond, ltb, eqb, length}
use mathlib.Core.List.{List, [], ◌∷◌, ◌++◌, flat_map}
use Rattle.meaning.specs.Lists.{any, keep, joined, up_from, bytes}
use Rattle.meaning.specs.Looks.{look_count, unpack}
use Rattle.meaning.specs.declared.Look.{Look}
use Rattle.meaning.specs.declared.Time.{Time}

-- a tt:span: the number of its look, and its characters' code points
pub record Span : Type 0 where
  pub look : ℕ
  pub characters : List ℕ

-- what stands in a paragraph: a tt:span or a tt:br
pub data Piece : Type 0 where
  span : Span → Piece
  br : Piece

pub data Alignment : Type 0 where
  left : Alignment
  centre : Alignment
  right : Alignment

pub record Paragraph : Type 0 where
  pub number : ℕ
  pub begin : Time
  pub end : Time
  pub alignment : Alignment
  pub pieces : List Piece

pub record Document : Type 0 where
  pub rate : ℕ
  pub paragraphs : List Paragraph

-- the last k decimal digits of a number
unfoldable pub digits : ℕ → ℕ → List ℕ
digits zero n = []
digits (suc k) n = digits k (n / 10) ++ ((48 + n % 10) ∷ [])

unfoldable pub without_zeros : List ℕ → List ℕ
without_zeros [] = []
without_zeros (d ∷ []) = d ∷ []
without_zeros (d ∷ e ∷ ds) = elim (eqb d 48) [ true ↦ without_zeros (e ∷ ds) | false ↦ d ∷ e ∷ ds ]

-- SN without leading zeros; it is below 65,536
unfoldable pub decimal : ℕ → List ℕ
decimal n = without_zeros (digits 5 n)

unfoldable pub utf8 : ℕ → List ℕ
utf8 p =
    cond (ltb p 128) (p ∷ [])
    (cond (ltb p 2048) ((192 + p / 64) ∷ (128 + p % 64) ∷ [])
    (cond (ltb p 65536) ((224 + p / 4096) ∷ (128 + p / 64 % 64) ∷ (128 + p % 64) ∷ [])
    ((240 + p / 262144) ∷ (128 + p / 4096 % 64) ∷ (128 + p / 64 % 64) ∷ (128 + p % 64) ∷ [])))

-- a character of the text
unfoldable pub escaped : ℕ → List ℕ
escaped p =
    cond (eqb p 38) (bytes "&amp;") (cond (eqb p 60) (bytes "&lt;") (cond (eqb p 62) (bytes "&gt;") (utf8 p)))

-- "s" and the look in three decimal digits
unfoldable pub style_name : ℕ → List ℕ
style_name look = bytes "s" ++ digits 3 look

unfoldable pub write_span : Span → List ℕ
write_span s =
    joined
    (bytes "<tt:span style=\"" ∷ style_name s.look ∷ bytes "\">" ∷ flat_map escaped s.characters ∷ bytes "</tt:span>" ∷ [])

unfoldable pub write_piece : Piece → List ℕ
write_piece (span s) = write_span s
write_piece br = bytes "<tt:br/>"

unfoldable pub write_time : Time → List ℕ
write_time t =
    joined
    (digits 2 t.hours ∷ bytes ":" ∷ digits 2 t.minutes ∷ bytes ":" ∷ digits 2 t.seconds ∷ bytes ":" ∷ digits 2 t.frames ∷ [])

unfoldable pub alignment_name : Alignment → List ℕ
alignment_name left = bytes "alignLeft"
alignment_name centre = bytes "alignCentre"
alignment_name right = bytes "alignRight"

unfoldable pub write_paragraph : Paragraph → List ℕ
write_paragraph p =
    joined
    (bytes "<tt:p xml:id=\"sub" ∷ decimal p.number ∷ bytes "\" style=\"" ∷ alignment_name p.alignment
    ∷ bytes "\" begin=\"" ∷ write_time p.begin ∷ bytes "\" end=\"" ∷ write_time p.end ∷ bytes "\">"
    ∷ flat_map write_piece p.pieces ∷ bytes "</tt:p>\n" ∷ [])

unfoldable pub channel : ℕ → List ℕ
channel bit = cond (eqb bit 0) (bytes "00") (bytes "ff")

-- colour bits from the lowest are red, green, blue
unfoldable pub colour_name : ℕ → List ℕ
colour_name c = joined (bytes "#" ∷ channel (c % 2) ∷ channel (c / 2 % 2) ∷ channel (c / 4 % 2) ∷ [])

unfoldable pub size_name : Bool → List ℕ
size_name double = cond double (bytes "1c 2c") (bytes "1c 1c")

unfoldable pub font_style_name : Bool → List ℕ
font_style_name italics = cond italics (bytes "italic") (bytes "normal")

unfoldable pub decoration_name : Bool → List ℕ
decoration_name underline = cond underline (bytes "underline") (bytes "none")

-- the end of a style's line, after the colours: size, italics and underline
unfoldable pub style_end : Look → List ℕ
style_end l =
    joined
    (bytes "\" tts:fontSize=\"" ∷ size_name l.double ∷ bytes "\" tts:fontStyle=\"" ∷ font_style_name l.italics
    ∷ bytes "\" tts:textDecoration=\"" ∷ decoration_name l.underline ∷ bytes "\"/>\n" ∷ [])

unfoldable pub write_style : ℕ → List ℕ
write_style look =
    joined
    (bytes "<tt:style xml:id=\"" ∷ style_name look ∷ bytes "\" tts:color=\"" ∷ colour_name (unpack look).colour
    ∷ bytes "\" tts:backgroundColor=\"" ∷ colour_name (unpack look).background ∷ style_end (unpack look) ∷ [])

-- the looks of the spans of a paragraph, and of a document, in order
unfoldable pub looks_of : List Piece → List ℕ
looks_of [] = []
looks_of (span s ∷ ps) = s.look ∷ looks_of ps
looks_of (br ∷ ps) = looks_of ps

abbrev pub paragraph_looks : Paragraph → List ℕ
paragraph_looks p = looks_of p.pieces

unfoldable pub document_looks : List Paragraph → List ℕ
document_looks ps = flat_map paragraph_looks ps

unfoldable pub is_used : List Paragraph → ℕ → Bool
is_used ps look = any (eqb look) (document_looks ps)

-- the looks in use: each that a span uses, once, ascending
unfoldable pub looks_used : List Paragraph → List ℕ
looks_used ps = keep (is_used ps) (up_from look_count 0)

-- the fixed text up to the frame rate, up to the s-styles, up to the paragraphs, and after them
unfoldable pub before_rate : List ℕ
before_rate = bytes "<?xml version=\"1.0\" encoding=\"UTF-8\"?>\n<tt:tt xmlns:tt=\"http://www.w3.org/ns/ttml\" xmlns:ttp=\"http://www.w3.org/ns/ttml#parameter\" xmlns:tts=\"http://www.w3.org/ns/ttml#styling\" xmlns:ebuttm=\"urn:ebu:tt:metadata\" xml:lang=\"\" xml:space=\"preserve\" ttp:timeBase=\"smpte\" ttp:frameRate=\""

unfoldable pub before_styles : List ℕ
before_styles = bytes "\" ttp:frameRateMultiplier=\"1 1\" ttp:markerMode=\"discontinuous\" ttp:dropMode=\"nonDrop\" ttp:cellResolution=\"50 30\">\n<tt:head><tt:metadata><ebuttm:documentMetadata><ebuttm:documentEbuttVersion>v1.0</ebuttm:documentEbuttVersion></ebuttm:documentMetadata></tt:metadata><tt:styling>\n<tt:style xml:id=\"defaultStyle\" tts:fontSize=\"1c 1c\" tts:fontFamily=\"monospaceSansSerif\" tts:textAlign=\"left\" tts:lineHeight=\"normal\" tts:color=\"#ffffff\" tts:backgroundColor=\"#000000\" tts:fontWeight=\"normal\" tts:fontStyle=\"normal\" tts:textDecoration=\"none\"/>\n<tt:style xml:id=\"alignLeft\" tts:textAlign=\"left\"/>\n<tt:style xml:id=\"alignCentre\" tts:textAlign=\"center\"/>\n<tt:style xml:id=\"alignRight\" tts:textAlign=\"right\"/>\n"

unfoldable pub before_paragraphs : List ℕ
before_paragraphs = bytes "</tt:styling><tt:layout>\n<tt:region xml:id=\"bottom\" tts:origin=\"0% 0%\" tts:extent=\"100% 100%\" tts:displayAlign=\"after\"/>\n</tt:layout></tt:head><tt:body><tt:div style=\"defaultStyle\" region=\"bottom\">\n"

unfoldable pub after_paragraphs : List ℕ
after_paragraphs = bytes "</tt:div></tt:body></tt:tt>\n"

-- all that stands before the paragraphs, by the frame rate and the looks in use
abbrev pub head_parts : ℕ → List ℕ → List (List ℕ)
head_parts rate looks = before_rate ∷ digits 2 rate ∷ before_styles ∷ flat_map write_style looks ∷ before_paragraphs ∷ []

unfoldable pub render : Document → List ℕ
render d = joined (head_parts d.rate (looks_used d.paragraphs) ++ (flat_map write_paragraph d.paragraphs ∷ after_paragraphs ∷ []))

-- the number of a document's spans
unfoldable pub document_spans : List Paragraph → ℕ
document_spans ps = length (document_looks ps)
