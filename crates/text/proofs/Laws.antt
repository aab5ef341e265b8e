-- Laying pieces one after another: two layings are one, and a loop seen from the pieces that are left.
-- Assumes nothing.
use Prim.Native.Nat.{ℕ, zero, suc, ◌+◌, ◌<◌, ◌^◌}
use native.Mathlib.Numerals.{add-one}
use native.Mathlib.Omega.{arith}
use mathlib.Core.Path.{◌≡◌, refl, sym, ap, ◌∙◌}
use mathlib.Core.Bool.{Bool, true}
use mathlib.Core.List.{List, [], ◌∷◌, ◌++◌, append-nil, flat_map}
use lib.ListN.{length, set, take, get_or, replicate, length-append, length-set}
use lib.Seq.{take-suc}
use Rattle.std.specs.Prelude.{Some, None}
use Rattle.std.proofs.lemmas.List.{map-append}
use Rattle.meaning.specs.declared.Glyph.{Glyph}
use Rattle.meaning.specs.Glyphs.{spelling}
use Rattle.meaning.specs.Cells.{points}
use Rattle.meaning.specs.Document.{Piece, escaped, write_piece, looks_of}
use Rattle.meaning.specs.Document.Piece.{br}
use Rattle.meaning.proofs.ListLaws.{join_append}
use Rattle.laws.proofs.FewestInAll.{looks-append}
use Rattle.output.specs.declared.Writer.{Writer}
use Rattle.output.specs.Output.{past, Put}
use Rattle.output.proofs.Laws.{◌▸◌, put_as, put_nothing, put-more, wrote-length}
use Rattle.cells.specs.declared.PackedCell.{PackedCell}
use Rattle.cells.specs.Packed.{cell_of, cells_in}
use Rattle.spans.specs.declared.Span.{Span}
use Rattle.text.specs.declared.BodyWriter.{BodyWriter}
use Rattle.text.specs.Laid.{marked_with, Laid, PiecesLaid, RowPut, piece_of}

pub marked_append : (on : List Bool) (ls ms : List ℕ) → marked_with on (ls ++ ms) ≡ marked_with (marked_with on ls) ms
unfolding marked_with
marked_append on [] ms = refl
marked_append on (l ∷ ls) ms = marked_append (set on l true) ls ms

pub past-append : (n : ℕ) (ls ms : List ℕ) → past (past n (length ls)) (length ms) ≡ past n (length (ls ++ ms))
unfolding past
past-append n ls ms = omega (arith, length-append ls ms)

past-twice : (n k : ℕ) → past n (past 0 k) ≡ past n k
unfolding past
past-twice n k = omega arith

-- two layings are one
infixr 50 ◌then◌
pub ◌then◌ : {a b c : BodyWriter} {xs ys ls ms : List ℕ} → Laid a xs ls b → Laid b ys ms c → Laid a (xs ++ ys) (ls ++ ms) c
◌then◌ {a} {ls = ls} {ms} p q =
    record {
      wrote = p.wrote ▸ q.wrote;
      spans = q.spans ∙ rw p.spans (past-append a.spans ls ms);
      marks = q.marks ∙ rw p.marks (sym (marked_append a.marks.now ls ms));
      writer = q.writer ∙ p.writer;
      same = q.same ∙ p.same;
    }

-- what was lent keeps its length: a caller's buffer and marks are as long as they were. The functions here say more, that they are the same ones (`writer`,
-- `same`), so no proof needs it.
marked-length : (on : List Bool) (ls : List ℕ) → length (marked_with on ls) ≡ length on
unfolding marked_with
marked-length on [] = refl
marked-length on (l ∷ ls) = marked-length (set on l true) ls ∙ length-set on l true

pub laid_lengths :
    {a b : BodyWriter} {xs ls : List ℕ} → Laid a xs ls b → (length b.writer.now.out.now ≡ length a.writer.now.out.now) × (length b.marks.now ≡ length a.marks.now)
laid_lengths {a} {ls = ls} p = (wrote-length p.wrote.wrote, ap length p.marks ∙ marked-length a.marks.now ls)

-- bytes put after what is laid, without a span
pub record Keeps (a b : BodyWriter) : Type 0 where
  pub spans : b.spans ≡ a.spans
  pub marks : b.marks.now ≡ a.marks.now
  pub writer : b.writer.ghost_name ≡ a.writer.ghost_name
  pub same : b.marks.ghost_name ≡ a.marks.ghost_name

pub laid-put : {a b : BodyWriter} {xs : List ℕ} → a.spans < 2 ^ 64 → Put a.writer.now xs b.writer.now → Keeps a b → Laid a xs [] b
unfolding past marked_with
laid-put h w k = record { wrote = w; spans = omega (arith, k.spans); marks = k.marks; writer = k.writer; same = k.same }

-- nothing laid
pub laid-nothing : (a : BodyWriter) → length a.writer.now.out.now < 2 ^ 64 → a.writer.now.at < 2 ^ 64 → a.spans < 2 ^ 64 → Laid a [] [] a
laid-nothing a h i j = laid-put j (put_nothing a.writer.now h i) (record { spans = refl; marks = refl; writer = refl; same = refl })

pub laid-spans : {a b : BodyWriter} {xs ls : List ℕ} → Laid a xs ls b → b.spans < 2 ^ 64
unfolding past
laid-spans p = omega (arith, p.spans)

pub laid-here : {a b : BodyWriter} {xs ls : List ℕ} → Laid a xs ls b → Laid b [] [] b
unfolding past
laid-here {b = b} p = laid-nothing b (omega (arith, wrote-length p.wrote.wrote, p.wrote.wrote.room)) (omega (arith, p.wrote.wrote.next)) (laid-spans p)

-- pieces laid after others; the breaks among them have no looks
pub pieces_then : {a b c : BodyWriter} (ps qs : List Piece) → PiecesLaid a ps b → PiecesLaid b qs c → PiecesLaid a (ps ++ qs) c
pieces_then ps qs p q = rw (join_append write_piece ps qs, looks-append ps qs) (p then q)

-- whoever lays the rest from here on has laid the whole
pub record LaidLeft (a : BodyWriter) (whole : List Piece) (b : BodyWriter) (rest : List Piece) : Type 0 where
  pub here : Laid b [] [] b
  pub onward : {c : BodyWriter} → PiecesLaid b rest c → PiecesLaid a whole c

pub left-all : {a : BodyWriter} (whole : List Piece) → Laid a [] [] a → LaidLeft a whole a whole
left-all whole h = record { here = h; onward = λ {c} l. l }

pub left_less :
    {a b c : BodyWriter} {whole : List Piece} (ps rest : List Piece) → LaidLeft a whole b (ps ++ rest) → PiecesLaid b ps c → LaidLeft a whole c rest
left_less ps rest l p = record { here = laid-here p; onward = λ {c} q. l.onward (pieces_then ps rest p q) }

pub left-none : {a b : BodyWriter} {whole : List Piece} → LaidLeft a whole b [] → PiecesLaid a whole b
unfolding flat_map looks_of
left-none l = l.onward l.here

of_breaks : (n : ℕ) → looks_of (replicate n br) ≡ []
unfolding looks_of
of_breaks zero = refl
of_breaks (suc n) = of_breaks n

pub breaks_laid : {a b : BodyWriter} (n : ℕ) → a.spans < 2 ^ 64 → Put a.writer.now (flat_map write_piece (replicate n br)) b.writer.now → Keeps a b → PiecesLaid a (replicate n br) b
breaks_laid n h w k = rw (of_breaks n) (laid-put h w k)

pub break_laid : {a b : BodyWriter} → a.spans < 2 ^ 64 → Put a.writer.now (write_piece br) b.writer.now → Keeps a b → PiecesLaid a (br ∷ []) b
unfolding flat_map looks_of
break_laid h w k = laid-put h (put_as (append-nil (write_piece br)) w) k

-- the code points of a character: one, or with its mark two
module _ (g : Glyph) {w w1 : Writer} (p : Put w (escaped g.point) w1) where
  pub character_bare : g.mark ≡ None → Put w (flat_map escaped (spelling g)) w1
  unfolding spelling flat_map
  character_bare e = rw e (put_as (append-nil (escaped g.point)) p)

  pub character-marked : {m : ℕ} → g.mark ≡ Some m → {w2 : Writer} → Put w1 (escaped m) w2 → Put w (flat_map escaped (spelling g)) w2
  unfolding spelling flat_map
  character-marked {m} e q = rw e (p ▸ put_as (append-nil (escaped m)) q)

-- those of one more cell
pub character-more :
    (cs : List PackedCell) (i : ℕ) (d : PackedCell) {w w1 w2 : Writer} → i < length cs → Put w (flat_map escaped (flat_map points (cells_in (take i cs)))) w1
    → Put w1 (flat_map escaped (spelling (get_or cs i d).character)) w2 → Put w (flat_map escaped (flat_map points (cells_in (take (i + 1) cs)))) w2
unfolding flat_map points
character-more cs i d h p q =
    let c = get_or cs i d in
    rw (
      add-one,
      take-suc cs i d h,
      map-append cell_of (take i cs) (c ∷ []),
      join_append points (cells_in (take i cs)) (cell_of c ∷ []),
      append-nil (spelling c.character),
      join_append escaped (flat_map points (cells_in (take i cs))) (spelling c.character),
    )
    (p ▸ q)

-- a row's spans put one by one
pub put-none : (w : Writer) (on : List Bool) → length w.out.now < 2 ^ 64 → w.at < 2 ^ 64 → RowPut w on [] w on 0
unfolding flat_map looks_of marked_with past
put-none w on h k = record { wrote = put_nothing w h k; marks = refl; count = refl }

pub put_one :
    (ps : List Piece) (s : Span) {w w1 w2 : Writer} {on on1 on2 : List Bool} {n m : ℕ} → RowPut w on ps w1 on1 n → Put w1 (write_piece (piece_of s)) w2
    → on2 ≡ set on1 s.look true → m ≡ past n 1 → RowPut w on (ps ++ piece_of s ∷ []) w2 on2 m
unfolding looks_of marked_with
put_one ps s {on = on} r p e f =
    let looks = looks-append ps (piece_of s ∷ []) in
    record {
      wrote = put-more write_piece ps (piece_of s) r.wrote p;
      marks = rw looks (e ∙ rw r.marks (sym (marked_append on (looks_of ps) (s.look ∷ []))));
      count = rw looks (f ∙ rw r.count (past-append 0 (looks_of ps) (s.look ∷ [])));
    }

pub row_laid :
    {a b : BodyWriter} {ps : List Piece} {n : ℕ} → RowPut a.writer.now a.marks.now ps b.writer.now b.marks.now n → b.spans ≡ past a.spans n
    → b.writer.ghost_name ≡ a.writer.ghost_name → b.marks.ghost_name ≡ a.marks.ghost_name → PiecesLaid a ps b
row_laid {a} r e g h = record { wrote = r.wrote; spans = e ∙ rw r.count (past-twice a.spans _); marks = r.marks; writer = g; same = h }
