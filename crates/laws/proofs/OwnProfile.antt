-- The document made of an accepted file's subtitles is one of the profile, for a file of bytes.
-- Assumes nothing.
use Prim.Native.Nat.{ℕ, zero, suc, ◌+◌, ◌<◌}
use native.Mathlib.Omega.{arith}
use mathlib.Core.Path.{◌≡◌, refl}
use mathlib.Core.Bool.{true, false}
use mathlib.Core.List.{List, [], ◌∷◌, map}
use lib.ListN.{get_or, take, drop}
use lib.Seq.{get_or-drop}
use borrow.Author.Tests.{lt-ltb, le-leb}
use Rattle.meaning.specs.Lists.{all}
use Rattle.meaning.specs.Looks.{look_count, white_on_black, pack}
use Rattle.meaning.specs.Codes.{tokens}
use Rattle.meaning.specs.Rows.{is_double}
use Rattle.meaning.specs.Cells.{Cell, shown}
use Rattle.meaning.specs.Spans.{look_of}
use Rattle.meaning.specs.Blocks.{block_size, blocks, header_of, times_rules, times_right, is_comment, subtitle_rules, first_block_rules}
use Rattle.meaning.specs.declared.Header.{Header}
use Rattle.meaning.specs.declared.Format.{Format}
use Rattle.meaning.specs.Walk.{Subtitle, subtitle_of}
use Rattle.meaning.specs.Document.{Piece}
use Rattle.meaning.specs.Document.Piece.{span, br}
use Rattle.meaning.specs.Conversion.{span_of, row_spans, later_rows, row_pieces, paragraph_of}
use Rattle.meaning.specs.Profile.{is_scalar, piece_in_profile, paragraphs_in_profile}
use Rattle.std.proofs.lemmas.Bool.{and_from}
use Rattle.meaning.proofs.ListLaws.{All, all_append, all_copies, all_map, test-all}
use Rattle.meaning.proofs.RefusalLaws.{Holds, times_numbered, unbroken, unbroken-all}
use Rattle.meaning.proofs.ListLaws.All.{nil, cons}
use Rattle.laws.proofs.Pieces.{fillers_of, pieces_are}
use Rattle.laws.proofs.Trimming.{all_shown}
use Rattle.laws.proofs.CodePoints.{points_scalar, marks_stand_lem}
use Rattle.laws.proofs.CellFacts.{Sound, characters-spelled, points_of, rows-sound, spans_all, span-bits}
use Rattle.meaning.proofs.LookLaws.{pack-small}
use Rattle.laws.proofs.OwnRows.{SoundRows}
use Rattle.laws.proofs.Walk.{Opened, Made, Ascends}

-- a list of bytes
abbrev pub Bytes : List ℕ → Type 0
Bytes s = (i : ℕ) → get_or s i 0 < 256

-- blocks of a file of bytes are of bytes
drop-bytes : (n : ℕ) (s : List ℕ) → Bytes s → Bytes (drop n s)
drop-bytes n s h i = rw (get_or-drop n s i 0) (h (n + i))

take-bytes : (n : ℕ) (s : List ℕ) → Bytes s → Bytes (take n s)
take-bytes zero s h i = omega arith
take-bytes (suc n) [] h i = h i
take-bytes (suc n) (x ∷ s) h zero = h 0
take-bytes (suc n) (x ∷ s) h (suc i) = take-bytes n s (λ k. h (suc k)) i

pub blocks-bytes : (n : ℕ) (s : List ℕ) → Bytes s → All Bytes (blocks n s)
unfolding blocks
blocks-bytes zero s h = nil
blocks-bytes (suc n) s h = cons (take-bytes block_size s h) (blocks-bytes n (drop block_size s) (drop-bytes block_size s h))

pub file-bytes : (n k : ℕ) (s : List ℕ) → Bytes s → All Bytes (blocks n (drop k s))
file-bytes n k s h = blocks-bytes n (drop k s) (drop-bytes k s h)

-- the pieces of a paragraph
abbrev InProfile : Piece → Type 0
InProfile p = piece_in_profile p ≡ true

span_right : (g : List Cell) → All Sound g → InProfile (span (span_of g))
unfolding piece_in_profile span_of
span_right g h =
    let k = characters-spelled h in
    rw (points_of g)
    (and_from _ _
    (and_from _ _ (lt-ltb (pack (look_of g)) look_count (pack-small (look_of g) (span-bits g h))) (test-all is_scalar (points_scalar k)))
    (marks_stand_lem false k))

row-right : (row : List Cell) → All Sound row → All InProfile (map span (row_spans row))
unfolding row_spans
row-right row h = all_map span (λ s e. e) (all_map span_of (λ g k. span_right g k) (spans_all (shown row) (all_shown row h)))

later-right : {rs : List (List Cell)} → All (All Sound) rs → All InProfile (later_rows rs)
unfolding later_rows piece_in_profile
later-right nil = nil
later-right (cons p h) = cons refl (all_append (row-right _ p) (later-right h))

rows_right : {rs : List (List Cell)} → All (All Sound) rs → All InProfile (row_pieces rs)
unfolding row_pieces
rows_right nil = nil
rows_right (cons p h) = all_append (row-right _ p) (later-right h)

br-right : InProfile br
unfolding piece_in_profile
br-right = refl

pieces-right : (f : Format) (s : Subtitle) → SoundRows s → all piece_in_profile (paragraph_of f s).pieces ≡ true
pieces-right f s h = rw (pieces_are f s) (test-all piece_in_profile (all_append (rows_right h) (all_copies (fillers_of f s) br br-right)))

-- rule 11
times-right :
    (f : Format) (place least : ℕ) (h : Header) → is_comment h ≡ false → Holds place (first_block_rules f least h) → times_right f.rate h.tci h.tco ≡ true
unfolding first_block_rules subtitle_rules times_right
times-right f place least h c e =
    let r = rw c at (unbroken _ _ _ _ _ (unbroken _ _ _ _ _ e).1).1 in
    (unbroken-all _ (times_rules _ _ _) _ (times_numbered _ _ _) (unbroken _ _ _ _ _ r).1).0

sn-right : (b : List ℕ) → Bytes b → (header_of b).sn < 65536
unfolding header_of
sn-right b h = omega (arith, h 1, h 2)

opened-sn : {f : Format} {h : Header} → Opened Bytes f h → h.sn < 65536
opened-sn o = rw o.header (sn-right o.bytes o.block)

pub made-sound : (f : Format) (s : Subtitle) → Made Bytes f s → SoundRows s
unfolding subtitle_of
made-sound f s m = rw m.made (rows-sound f.mode (white_on_black (is_double (tokens m.text))) m.text)

pub own-paragraphs :
    (f : Format) (lo hi : ℕ) (ss : List Subtitle) → All (Made Bytes f) ss → Ascends lo ss hi
    → paragraphs_in_profile f.rate lo (map (paragraph_of f) ss) ≡ true
unfolding paragraphs_in_profile paragraph_of
own-paragraphs f lo hi [] k a = refl
own-paragraphs f lo hi (s ∷ ss) (cons m k) a =
    and_from _ _
    (and_from _ _
    (and_from _ _
    (and_from _ _ (le-leb lo s.first.sn a.0) (lt-ltb s.first.sn 65536 (opened-sn m.opened)))
    (times-right f m.opened.place m.opened.least s.first m.subtitle m.opened.rules))
    (pieces-right f s (made-sound f s m)))
    (own-paragraphs f _ hi ss k a.1)
