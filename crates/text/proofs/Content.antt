-- Rows and filler lines together are the content of a text; a text within the rules is not cut.
-- Assumes nothing.
use Prim.Native.Nat.{ℕ, suc, ◌-◌, ◌≤◌, ◌<◌, min}
use native.Mathlib.Omega.{arith}
use mathlib.Core.Path.{◌≡◌, refl, ap, ◌∙◌}
use mathlib.Core.Bool.{Bool, true, false, ◌&&◌}
use mathlib.Core.List.{List, [], ◌∷◌, map}
use lib.Dec.{eqb}
use lib.ListN.{length, replicate, length-map}
use lib.Seq.{take_all}
use borrow.Author.Tests.{leb-true}
use Rattle.meaning.specs.declared.Format.{Format}
use Rattle.meaning.specs.declared.Lines.{Lines}
use Rattle.meaning.specs.declared.Rows.{Rows}
use Rattle.meaning.specs.declared.Token.{Token}
use Rattle.meaning.specs.Lists.{all, keep}
use Rattle.meaning.specs.Refusals.{is_good}
use Rattle.meaning.specs.Codes.{tokens, takes_cell}
use Rattle.meaning.specs.Rows.{is_double, breaks_paired, rows, lines_of, row_count, row_limit, is_short, rows_of}
use Rattle.meaning.specs.TextRules.{text_rule}
use Rattle.meaning.specs.declared.Look.{Look}
use Rattle.meaning.specs.Looks.{white_on_black, pack, unpack}
use Rattle.meaning.proofs.LookLaws.{white-bits, unpack-pack}
use Rattle.meaning.specs.Cells.{Cell, row_start, cells_of_row, look_after_row, cell_rows}
use Rattle.meaning.specs.Document.Piece.{br}
use Rattle.meaning.specs.Conversion.{row_pieces, fillers, pieces}
use Rattle.laws.proofs.Bounds.{cells-length, rows_fit_lem}
use Rattle.meaning.proofs.ListLaws.{test_split}
use Rattle.rows.specs.Scanning.{count_limit}
use Rattle.text.specs.declared.BodyWriter.{BodyWriter}
use Rattle.text.specs.Laid.{cut_row, content_of, PiecesLaid, RowsDone}
use Rattle.text.proofs.Laws.{pieces_then}

-- Where rows cover all lines there are none to fill. `filler_lines` needs it no more, since it subtracts down to 0 at once; this stands for a caller that
-- asks by a test.
pub no_fillers : (end vp : ℕ) (covered : Lines) → end - vp ≤ covered.0 → record { 0 = 0 } ≡ fillers end vp covered
unfolding fillers
no_fillers end vp covered h = let z : 0 ≡ end - vp - covered.0 = omega arith in ap (λ (n : ℕ). record { 0 = n }) z

-- rows beyond the limit leave no filler line
fillers-capped : (end vp : ℕ) → end < count_limit → (double : Bool) (n : ℕ) → (fillers end vp (lines_of double (record { 0 = min n count_limit }))).0 ≡ (fillers end vp (lines_of double (record { 0 = n }))).0
unfolding fillers lines_of
fillers-capped end vp h true n = omega arith
fillers-capped end vp h false n = omega arith

rows-length : (l : Look) (rs : List (List Token)) → length (cell_rows l rs) ≡ length rs
unfolding cell_rows
rows-length l [] = refl
rows-length l (r ∷ rs) = ap suc (rows-length (look_after_row l r) rs)

-- the look at the start, packed
pub start-look : (double : Bool) {look : Look} {n : ℕ} → look ≡ white_on_black double → n ≡ pack look → unpack n ≡ white_on_black double
start-look double e k = rw (k, e) (unpack-pack (white_on_black double) (white-bits double))

pub content_laid :
    {text : List ℕ} (f : Format) (vp : ℕ) {double : Bool} {a b c : BodyWriter} {laid : Rows} {lines fill : Lines} {before : ℕ} → f.screen.end < count_limit
    → double ≡ is_double (tokens text) → unpack before ≡ white_on_black double → RowsDone text before (eqb f.mode 2 && double) a b laid
    → lines ≡ lines_of double laid → fill ≡ fillers f.screen.end vp lines → PiecesLaid b (replicate fill.0 br) c → PiecesLaid a (content_of f vp text) c
unfolding content_of pieces row_count breaks_paired
content_laid {text} f vp {double} {laid = laid} {fill = fill} short e h d g k p =
    let ts = tokens text in
    let rs = rows_of (eqb f.mode 2 && double) ts in
    let cs = cell_rows (white_on_black double) rs in
    let n : laid ≡ record { 0 = min (length rs) count_limit } = ap (λ (n : ℕ). record { 0 = n }) d.count in
    let m : fill.0 ≡ (fillers f.screen.end vp (lines_of double (record { 0 = length (map cut_row cs) }))).0 =
    ap (λ (x : Lines). x.0) k ∙ rw (g, n, length-map cs cut_row, rows-length (white_on_black double) rs) (fillers-capped f.screen.end vp short double (length rs)) in
    rw (← e, ← m) (pieces_then (row_pieces (map cut_row cs)) (replicate fill.0 br) (rw h at d.laid) p)

uncut : (l : Look) (r : List Token) → is_short r ≡ true → cut_row (cells_of_row l r) ≡ cells_of_row l r
unfolding cut_row is_short
uncut l r e = take_all row_limit (cells_of_row l r) (omega (arith, cells-length (row_start r l) r, leb-true (length (keep takes_cell r)) row_limit e))

uncut-rows : (l : Look) (rs : List (List Token)) → all is_short rs ≡ true → map cut_row (cell_rows l rs) ≡ cell_rows l rs
unfolding cell_rows
uncut-rows l [] e = refl
uncut-rows l (r ∷ rs) e =
    let s = test_split is_short r rs e in
    rw (uncut l r s.0) (ap (λ (cs : List (List Cell)). cells_of_row l r ∷ cs) (uncut-rows (look_after_row l r) rs s.1))

-- the content of a text within the rules 13 to 15 is that of its subtitle
pub content_whole :
    (f : Format) (place vp : ℕ) (text : List ℕ) → is_good (text_rule f place vp text) ≡ true
    → content_of f vp text ≡ pieces f.screen.end vp (is_double (tokens text)) (cell_rows (white_on_black (is_double (tokens text))) (rows f.mode (tokens text)))
unfolding content_of
content_whole f place vp text e =
    ap (pieces f.screen.end vp (is_double (tokens text)))
    (uncut-rows (white_on_black (is_double (tokens text))) (rows f.mode (tokens text)) (rows_fit_lem f place vp text e).0)
