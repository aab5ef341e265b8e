-- A row drawn token by token: drawing some tokens and then others is drawing all of them.
-- Assumes nothing.
use Prim.Native.Nat.{ℕ, zero, suc, ◌+◌, ◌-◌, ◌<◌, ◌≤◌, min}
use native.Mathlib.Nat.{add-zero}
use native.Mathlib.Omega.{arith}
use native.Mathlib.Numerals.{add-one}
use mathlib.Core.Path.{◌≡◌, refl, sym, ap, subst, ◌∙◌}
use mathlib.Core.Bool.{true, false}
use mathlib.Core.List.{List, [], ◌∷◌, ◌++◌, map, append_assoc, append-nil, map-append}
use lib.ListN.{length, get_or, set, take, length-append, length-map}
use lib.Seq.{sets, take-suc, take_all}
use Rattle.meaning.specs.declared.Token.{Token}
use Rattle.meaning.specs.Codes.{takes_cell, is_control_of, is_box_code}
use Rattle.meaning.specs.Looks.{bit}
use Rattle.meaning.specs.Cells.{Cell, Pen, cell_of, look_next, hidden_next, pen_after, cells_of, cells_from, pen_end}
use Rattle.meaning.proofs.Logic.{by_test}
use Rattle.charset.specs.Plain.{plain_token}
use Rattle.cells.specs.declared.PackedCell.{PackedCell}
use Rattle.cells.specs.declared.pen.PackedPen.{PackedPen}
use Rattle.cells.specs.declared.drawing.Drawing.{Drawing}
use Rattle.cells.specs.Fronts.{front_after, front_from}
use Rattle.std.proofs.lemmas.List.{take-map}
use Rattle.cells.specs.Packed.{pen_of, packed_cell, packed_cells}
use Rattle.cells.specs.Drawing.{Puts, Draws}
use Rattle.output.specs.Output.{stored}
use Rattle.output.proofs.Laws.{stored-append, stored-cut}

pub cells-size : (t : Token) (pen : Pen) → length (cells_of t pen) ≡ bit (takes_cell t)
unfolding cells_of
cells-size t pen = by_test (takes_cell t) (λ e. rw e) (λ e. rw e)

cells-append : (p : Pen) (xs ys : List Token) → cells_from p (xs ++ ys) ≡ cells_from p xs ++ cells_from (pen_end p xs) ys
unfolding cells_from pen_end
cells-append p [] ys = refl
cells-append p (x ∷ xs) ys =
    ap (λ (cs : List _). cells_of x p ++ cs) (cells-append (pen_after x p) xs ys) ∙ sym (append_assoc (cells_of x p) _ _)

end-append : (p : Pen) (xs ys : List Token) → pen_end p (xs ++ ys) ≡ pen_end (pen_end p xs) ys
unfolding pen_end
end-append p [] ys = refl
end-append p (x ∷ xs) ys = end-append (pen_after x p) xs ys

front-append : (p : Pen) (front n : ℕ) (xs ys : List Token) → front_from front n (xs ++ ys) ≡ front_from (front_from front n xs) (n + length (cells_from p xs)) ys
unfolding front_from cells_from
front-append p front n [] ys = rw add-zero
front-append p front n (x ∷ xs) ys =
    let m : n + bit (takes_cell x) + length (cells_from (pen_after x p) xs) ≡ n + length (cells_of x p ++ cells_from (pen_after x p) xs) =
    omega (arith, cells-size x p, length-append (cells_of x p) (cells_from (pen_after x p) xs)) in
    rw (← m) (front-append (pen_after x p) (front_after x front (n + bit (takes_cell x))) (n + bit (takes_cell x)) xs ys)

packed-append : (l : List PackedCell) (k : ℕ) (xs ys : List Cell) → sets l k (packed_cells (xs ++ ys)) ≡ sets (sets l k (packed_cells xs)) (k + length xs) (packed_cells ys)
unfolding stored
packed-append l k xs ys =
    ap (sets l k) (map-append packed_cell xs ys) ∙ stored-append l k (packed_cells xs) (packed_cells ys)
    ∙ ap (λ (n : ℕ). sets (sets l k (packed_cells xs)) (k + n) (packed_cells ys)) (length-map xs packed_cell)

pub draws_none : (d : Drawing) → Draws d [] d
unfolding cells_from pen_end front_from
draws_none d = record { held = refl; count = rw add-zero; front = refl; pen = refl; same = refl }

module _ {d e f : Drawing} {xs ys : List Token} (w : Draws d xs e) (v : Draws e ys f) where
  pub draws_then : Draws d (xs ++ ys) f
  draws_then =
      let p = pen_of d.pen in
      let cs = cells_from p xs in
      record {
        held =
            v.held ∙ (λ i. sets (w.held i) (w.count i) (packed_cells (cells_from (w.pen i) ys)))
            ∙ sym (ap (λ (l : List Cell). sets d.cells.now d.count (packed_cells l)) (cells-append p xs ys) ∙ packed-append d.cells.now d.count cs (cells_from (pen_end p xs) ys));
        count =
            v.count ∙ (λ i. w.count i + length (cells_from (w.pen i) ys))
            ∙ omega (arith, ap length (cells-append p xs ys), length-append cs (cells_from (pen_end p xs) ys));
        front = v.front ∙ (λ i. front_from (w.front i) (w.count i) ys) ∙ sym (front-append p d.front d.count xs ys);
        pen = v.pen ∙ (λ i. pen_end (w.pen i) ys) ∙ sym (end-append p xs ys);
        same = v.same ∙ w.same;
      }

-- plain codes: a cell for each, and the pen stays
module _ (p : Pen) where
  pub run-size : (cs : List ℕ) → length (cells_from p (map plain_token cs)) ≡ length cs
  unfolding cells_from cells_of takes_cell pen_after look_next hidden_next is_control_of
  run-size [] = refl
  run-size (c ∷ cs) = ap suc (run-size cs)

  run-end : (cs : List ℕ) → pen_end p (map plain_token cs) ≡ p
  unfolding pen_end pen_after look_next hidden_next is_control_of
  run-end [] = refl
  run-end (c ∷ cs) = run-end cs

  run-take : (n : ℕ) (cs : List ℕ) → cells_from p (map plain_token (take n cs)) ≡ take n (cells_from p (map plain_token cs))
  unfolding cells_from cells_of takes_cell pen_after look_next hidden_next is_control_of
  run-take zero cs = refl
  run-take (suc n) [] = refl
  run-take (suc n) (c ∷ cs) = ap (λ (l : List Cell). cell_of (plain_token c) p ∷ l) (run-take n cs)

-- .. before other tokens too, in the words of the cell of one code. The proofs above need only the run itself; this stands for a loop that has the rest at hand.
unfoldable pub run_cell : Pen → ℕ → Cell
run_cell p c = cell_of (plain_token c) p

unfoldable pub run_cells : Pen → List ℕ → List Cell
run_cells p cs = map (run_cell p) cs

pub run-from : (pen : Pen) (cs : List ℕ) (ts : List Token) → cells_from pen (map plain_token cs ++ ts) ≡ run_cells pen cs ++ cells_from pen ts
unfolding run_cells run_cell cells_from cells_of takes_cell pen_after look_next hidden_next is_control_of
run-from pen [] ts = refl
run-from pen (c ∷ cs) ts = ap (λ (l : List Cell). cell_of (plain_token c) pen ∷ l) (run-from pen cs ts)

run-front : (front n : ℕ) (cs : List ℕ) → front_from front n (map plain_token cs) ≡ front
unfolding front_from front_after is_box_code is_control_of
run-front front n [] = refl
run-front front n (c ∷ cs) = run-front front (n + bit (takes_cell (plain_token c))) cs

-- the cell of a token, or none where it takes none
module _ (t : Token) (p : Pen) where
  pub puts_cell : {d e : Drawing} → takes_cell t ≡ true → (x : PackedCell) → x ≡ packed_cell (cell_of t p) → Puts d (x ∷ []) e → Puts d (packed_cells (cells_of t p)) e
  unfolding cells_of
  puts_cell {d} {e} takes x h w = rw takes (subst (λ (c : PackedCell). Puts d (c ∷ []) e) h w)

  pub puts_none : {d : Drawing} → takes_cell t ≡ false → Puts d (packed_cells (cells_of t p)) d
  unfolding cells_of
  puts_none n = rw n (record { held = refl; count = rw add-zero; front = refl; pen = refl; same = refl })

-- a token, of which the cell was stored
pub drawn_token :
    {d e : Drawing} {t : Token} {pen : PackedPen} {front : ℕ} → Puts d (packed_cells (cells_of t (pen_of d.pen))) e → pen_of pen ≡ pen_after t (pen_of e.pen)
    → front ≡ front_after t e.front e.count → Draws d (t ∷ []) (record { cells = e.cells; count = e.count; front = front; pen = pen })
unfolding cells_from pen_end front_from
drawn_token {d} {e} {t} w p f =
    let one = append-nil (cells_of t (pen_of d.pen)) in
    let size = length-map (cells_of t (pen_of d.pen)) packed_cell in
    record {
      held = w.held ∙ ap (λ (cs : List Cell). sets d.cells.now d.count (packed_cells cs)) (sym one);
      count = w.count ∙ ap (λ (n : ℕ). d.count + n) size ∙ ap (λ (cs : List Cell). d.count + length cs) (sym one);
      front = f ∙ (λ i. front_after t (w.front i) ((w.count ∙ ap (λ (n : ℕ). d.count + n) (size ∙ cells-size t (pen_of d.pen))) i));
      pen = p ∙ (λ i. pen_after t (pen_of (w.pen i)));
      same = w.same;
    }

-- a run of which j codes were drawn, and one more
abbrev pub with_cells : Drawing → List PackedCell → ℕ → Drawing
with_cells d xs n = record { cells = record { ref_ptr = d.cells.ref_ptr; ghost_name = d.cells.ghost_name; now = xs }; count = n; front = d.front; pen = d.pen }

drawn_code : (d : Drawing) (c : ℕ) (x : PackedCell) → x ≡ packed_cell (cell_of (plain_token c) (pen_of d.pen)) → Draws d (plain_token c ∷ []) (with_cells d (set d.cells.now d.count x) (d.count + 1))
unfolding cells_from cells_of takes_cell pen_end pen_after look_next hidden_next front_from front_after is_box_code is_control_of
drawn_code d c x h =
    record {
      held = ap (set d.cells.now d.count) h;
      count = refl;
      front = refl;
      pen = refl;
      same = refl;
    }

pub draws_begun : (d : Drawing) → Draws d [] (with_cells d d.cells.now (d.count + 0))
unfolding cells_from pen_end front_from
draws_begun d = record { held = refl; count = refl; front = refl; pen = refl; same = refl }

module _ {d : Drawing} (e : Drawing) (n j : ℕ) (cs : List ℕ) (w : Draws d (map plain_token (take j cs)) (with_cells e e.cells.now (n + j))) where
  pub run_more : j < length cs → (x : PackedCell) → x ≡ packed_cell (cell_of (plain_token (get_or cs j 0)) (pen_of e.pen))
      → Draws d (map plain_token (take (j + 1) cs)) (with_cells e (set e.cells.now (n + j) x) (n + (j + 1)))
  run_more h x s =
      let m : n + j + 1 ≡ n + (j + 1) = omega arith in
      let more : map plain_token (take j cs) ++ plain_token (get_or cs j 0) ∷ [] ≡ map plain_token (take (j + 1) cs) =
      sym (map-append plain_token (take j cs) (get_or cs j 0 ∷ [])) ∙ ap (map plain_token) (sym (rw add-one (take-suc cs j 0 h))) in
      rw (← more) (subst (λ (k : ℕ). Draws d (map plain_token (take j cs) ++ plain_token (get_or cs j 0) ∷ []) (with_cells e (set e.cells.now (n + j) x) k)) m (draws_then w (drawn_code (with_cells e e.cells.now (n + j)) (get_or cs j 0) x s)))

-- of a run as many codes as there are places for were drawn
pub drawn_run :
    {d : Drawing} (e : Drawing) (k j : ℕ) {n : ℕ} (cs : List ℕ) → Draws d (map plain_token (take j (take n cs))) (with_cells e e.cells.now (k + j))
    → length (take n cs) ≤ j → n ≡ min (length cs) (length d.cells.now - d.count) → Draws d (map plain_token cs) (with_cells e e.cells.now (d.count + length cs))
unfolding stored
drawn_run {d} e k j {n} cs w h m =
    let p = pen_of d.pen in
    let all = cells_from p (map plain_token cs) in
    let fits : n ≡ min (length (packed_cells all)) (length d.cells.now - d.count) = rw (length-map, run-size p cs) m in
    let v = rw (take_all j (take n cs) h) at w in
    record {
      held =
          v.held
          ∙ ap (λ (l : List Cell). sets d.cells.now d.count (packed_cells l)) (run-take p n cs)
          ∙ ap (sets d.cells.now d.count) (sym (take-map packed_cell n all))
          ∙ stored-cut d.cells.now d.count n (packed_cells all) fits;
      count = ap (λ (k : ℕ). d.count + k) (sym (run-size p cs));
      front = v.front ∙ run-front d.front d.count (take n cs) ∙ sym (run-front d.front d.count cs);
      pen = v.pen ∙ run-end p (take n cs) ∙ sym (run-end p cs);
      same = v.same;
    }
