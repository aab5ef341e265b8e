-- A row drawn so far, and what is left of it.
-- Assumes nothing.
use Prim.Native.Nat.{ℕ, ◌+◌, ◌-◌, ◌≤◌}
use native.Mathlib.Omega.{arith}
use mathlib.Core.Path.{◌≡◌, refl, sym, ap, subst, ◌∙◌}
use mathlib.Core.Bool.{true, false}
use mathlib.Core.List.{List, [], ◌∷◌, ◌++◌, map, append_assoc, append-nil}
use Rattle.std.specs.Prelude.{Some, None}
use lib.ListN.{length, take, drop, length-take, length-drop}
use Rattle.meaning.specs.declared.Token.{Token}
use Rattle.meaning.specs.Codes.{is_row_end, takes_cell}
use Rattle.meaning.specs.Looks.{bit}
use Rattle.meaning.specs.Cells.{Pen, cells_of, cells_from}
use Rattle.meaning.specs.Rows.{first_row}
use Rattle.meaning.proofs.Logic.{by_test}
use Rattle.charset.specs.declared.Reading.{Reading}
use Rattle.charset.specs.Plain.{plain_token}
use Rattle.charset.proofs.Laws.{ReadOn, tokens-end, RunOn}
use Rattle.rows.specs.Scanned.{row_end_after}
use Rattle.rows.proofs.Laws.{first-end, first_more, first_run, first-none}
use Rattle.rows.proofs.RowEnds.{end-over, end-here, end_later, end_run}
use Rattle.cells.specs.declared.drawing.Drawing.{Drawing}
use Rattle.cells.specs.Packed.{pen_of}
use Rattle.cells.specs.Drawing.{Draws}
use Rattle.cells.specs.Decoded.{tokens_from, row_tokens}
use Rattle.cells.proofs.Drawn.{cells-size, run-size, draws_none, draws_then}

-- the row that starts at a position, drawn up to position i
pub record RowLeft (text : List ℕ) (start : ℕ) (d₀ d : Drawing) (i : ℕ) : Type 0 where
  past : List Token
  drawn : Draws d₀ past d
  row : past ++ first_row (tokens_from text i) ≡ row_tokens text start
  after : row_end_after text i ≡ row_end_after text start
  pub few : d.count ≤ i

pub left-all : (text : List ℕ) (start : ℕ) (d : Drawing) → d.count ≤ start → RowLeft text start d d start
left-all text start d h = record { past = []; drawn = draws_none d; row = refl; after = refl; few = h }

pub part-size : (text : List ℕ) (from n : ℕ) → from + n ≤ length text → length (take n (drop from text)) ≡ n
part-size text from n h = simp (length-take, length-drop) (omega arith)

token-size : (p : Pen) (t : Token) → length (cells_from p (t ∷ [])) ≤ 1
unfolding cells_from
token-size p t =
    let one = append-nil (cells_of t p) in
    by_test (takes_cell t)
    (λ e. omega (arith, ap length one, cells-size t p, ap bit e))
    (λ e. omega (arith, ap length one, cells-size t p, ap bit e))

-- after a token and the run behind it the cells are no more than they were and the codes that were read
pub run_fits :
    (d : Drawing) (text : List ℕ) {t : Token} {e : Drawing} {i j : ℕ} → Draws d (t ∷ []) e → RunOn text i j → e.count + length (take (j - i) (drop i text)) ≤ d.count + 1 + (j - i)
run_fits d text {t} {e} {i} {j} w u =
    omega (arith, w.count, token-size (pen_of d.pen) t, part-size text i (j - i) (omega (arith, u.on, u.within)))

module _ {text : List ℕ} {start : ℕ} {d₀ d : Drawing} {i : ℕ} (l : RowLeft text start d₀ d i) where
  -- where no token of the row is left
  left-none : first_row (tokens_from text i) ≡ [] → Draws d₀ (row_tokens text start) d
  left-none e = subst (λ (ts : List Token). Draws d₀ ts d) (sym (append-nil l.past) ∙ ap (λ (ts : List Token). l.past ++ ts) (sym e) ∙ l.row) l.drawn

  pub left_text_end : length text ≤ i → Draws d₀ (row_tokens text start) d
  left_text_end h = left-none (ap first_row (tokens-end text i h) ∙ first-none)

  pub after_text_end : length text ≤ i → None ≡ row_end_after text start
  after_text_end h = sym (end-over text i h) ∙ l.after

  -- at a token that was read
  module _ {r : Reading} (o : ReadOn text i r) where
    pub left_row_end : is_row_end r.token ≡ true → Draws d₀ (row_tokens text start) d
    left_row_end e = left-none (ap first_row o.first ∙ first-end r.token _ e)

    pub after_row_end : is_row_end r.token ≡ true → Some r.next ≡ row_end_after text start
    after_row_end e = sym (end-here o e) ∙ l.after

    -- the token and the run after it
    pub left_more :
        is_row_end r.token ≡ false → {e f : Drawing} {j : ℕ} → Draws d (r.token ∷ []) e → RunOn text r.next j
        → Draws e (map plain_token (take (j - r.next) (drop r.next text))) f → RowLeft text start d₀ f j
    left_more n {e} {f} {j} w u v =
        let t = r.token in
        let cs = take (j - r.next) (drop r.next text) in
        let run = map plain_token cs in
        let later = tokens_from text j in
        let row : t ∷ (run ++ first_row later) ≡ first_row (tokens_from text i) =
        sym (ap first_row o.first ∙ first_more t _ n ∙ ap (λ (ts : List Token). t ∷ ts) (ap first_row u.first ∙ first_run later cs)) in
        record {
          past = (l.past ++ t ∷ []) ++ run;
          drawn = draws_then (draws_then l.drawn w) v;
          row = append_assoc (l.past ++ t ∷ []) run (first_row later) ∙ append_assoc l.past (t ∷ []) _ ∙ ap (λ (ts : List Token). l.past ++ ts) row ∙ l.row;
          after = sym (end_later o n ∙ end_run u) ∙ l.after;
          few = omega (arith, l.few, o.on, u.on, v.count, run-size (pen_of e.pen) cs, run_fits d text w u);
        }
