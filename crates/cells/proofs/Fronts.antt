-- A row in hindsight: what is read as if a box were open at its start becomes the row when the cells up to and with that of its first
-- box code are hidden.
-- Assumes nothing.
use Prim.Native.Nat.{ℕ, suc, ◌+◌, ◌≤◌}
use native.Mathlib.Omega.{arith}
use mathlib.Core.Path.{◌≡◌, refl, sym, ap, ◌∙◌}
use mathlib.Core.Bool.{Bool, true, false, and-false}
use mathlib.Core.List.{List, [], ◌∷◌, ◌++◌}
use lib.Dec.{eqb}
use lib.ListN.{length, drop, replicate}
use borrow.Author.Tests.{ne_eqb}
use Rattle.meaning.specs.declared.Token.{Token}
use Rattle.meaning.specs.declared.Token.TheVariants.{Character, Control, Switch, RowEnd, Unlisted}
use Rattle.meaning.specs.declared.Look.{Look}
use Rattle.meaning.specs.Lists.{any}
use Rattle.meaning.specs.Codes.{takes_cell, is_control_of, is_box_start, is_box_end, is_box_code}
use Rattle.meaning.specs.Looks.{bit}
use Rattle.meaning.specs.Cells.{Pen, look_next, hidden_next, hidden_cell, pen_after, cells_of, cells_from, pen_end, row_start, cells_of_row, look_after_row}
use Rattle.std.proofs.lemmas.Bool.{false≢true, or_parts}
use Rattle.meaning.proofs.Logic.{by_test, or_second}
use Rattle.meaning.proofs.ListLaws.{any-cons, none_split}
use Rattle.laws.proofs.Boxes.{same-height, hidden-cell}
use Rattle.cells.specs.Fronts.{boxed_start, front_after, front_from}

-- after a box code cells are hidden or not, whatever they were before; every other token leaves it as it is
box_next : (t : Token) (h g : Bool) → is_box_code t ≡ true → hidden_next t h ≡ hidden_next t g
unfolding is_box_code hidden_next
box_next t h g e =
    by_test (is_box_start t)
    (λ s. rw s)
    (λ s. rw (or_second _ _ e s))

other-next : (t : Token) (h : Bool) → is_box_code t ≡ false → hidden_next t h ≡ h
unfolding is_box_code hidden_next
other-next t h e = let n = or_parts (is_box_start t) (is_box_end t) e in rw (n.0, n.1)

-- a box code takes a cell
box_takes : (t : Token) → is_box_code t ≡ true → takes_cell t ≡ true
unfolding is_box_code is_control_of takes_cell
box_takes (Character p) e = refl
box_takes (Control c) e = refl
box_takes (Switch c) e = absurd (false≢true e)
box_takes RowEnd e = refl
box_takes Unlisted e = refl

-- so what takes none leaves the front as it is
pub front-stays : (t : Token) (front n : ℕ) → takes_cell t ≡ false → front ≡ front_after t front n
unfolding takes_cell front_after is_box_code is_control_of
front-stays (Character p) front n e = cc
front-stays (Control c) front n e = cc
front-stays (Switch c) front n e = refl
front-stays RowEnd front n e = cc
front-stays Unlisted front n e = cc

abbrev pen : Look → Bool → Pen
pen l hidden = record { look = l; hidden = hidden }

after_box : (t : Token) (l : Look) → is_box_code t ≡ true → pen_after t (pen l true) ≡ pen_after t (pen l false)
unfolding pen_after
after_box t l e = λ i. record { look = look_next t l; hidden = box_next t true false e i }

after-other : (t : Token) (l : Look) (h : Bool) → is_box_code t ≡ false → pen_after t (pen l h) ≡ pen (look_next t l) h
unfolding pen_after
after-other t l h e = λ i. record { look = look_next t l; hidden = other-next t h e i }

-- what was found stays, and nothing is found where there is none
front_kept : (front n : ℕ) (ts : List Token) → eqb front 0 ≡ false → front_from front n ts ≡ front
unfolding front_from front_after
front_kept front n [] e = refl
front_kept front n (t ∷ ts) e = rw (e, and-false (is_box_code t)) (front_kept front (n + bit (takes_cell t)) ts e)

front-none : (n : ℕ) (ts : List Token) → any is_box_code ts ≡ false → front_from 0 n ts ≡ 0
unfolding front_from front_after
front-none n [] e = refl
front-none n (t ∷ ts) e = let h = none_split is_box_code t ts e in rw h.0 (front-none (n + bit (takes_cell t)) ts h.1)

-- tokens with a box code among them, after n cells: how many of their cells stand up to and with that of the first one, and what follows
record Front (l : Look) (n : ℕ) (ts : List Token) : Type 0 where
  count : ℕ
  front : front_from 0 n ts ≡ n + count
  within : count ≤ length (cells_from (pen l false) ts)
  cells : cells_from (pen l true) ts ≡ replicate count (hidden_cell l.double) ++ drop count (cells_from (pen l false) ts)
  after : pen_end (pen l true) ts ≡ pen_end (pen l false) ts

module _ (l : Look) (n : ℕ) (t : Token) (ts : List Token) where
  -- at the box code
  front-here : is_box_code t ≡ true → Front l n (t ∷ ts)
  unfolding front_from front_after cells_from cells_of pen_end
  front-here e =
      let takes = box_takes t e in
      record {
        count = 1;
        front = rw (takes, e) (front_kept (n + 1) (n + 1) ts (ne_eqb (n + 1) 0 (λ z. omega (arith, z))));
        within = rw takes (omega arith);
        cells = rw takes (λ i. hidden-cell t l i ∷ cells_from (after_box t l e i) ts);
        after = ap (λ (p : Pen). pen_end p ts) (after_box t l e);
      }

  -- before it
  module _ (e : is_box_code t ≡ false) (later : Front (look_next t l) (n + bit (takes_cell t)) ts) where
    rest : cells_from (pen_after t (pen l true)) ts ≡ replicate later.count (hidden_cell l.double) ++ drop later.count (cells_from (pen_after t (pen l false)) ts)
    rest =
        ap (λ (p : Pen). cells_from p ts) (after-other t l true e) ∙ later.cells
        ∙ (λ i. replicate later.count (hidden_cell ((same-height t l).1 i)) ++ drop later.count (cells_from (sym (after-other t l false e) i) ts))

    few : later.count ≤ length (cells_from (pen_after t (pen l false)) ts)
    few = rw (after-other t l false e) later.within

    same_end : pen_end (pen_after t (pen l true)) ts ≡ pen_end (pen_after t (pen l false)) ts
    same_end = rw (after-other t l true e, after-other t l false e) later.after

    front-later : Front l n (t ∷ ts)
    unfolding front_from front_after cells_from cells_of pen_end
    front-later =
        by_test (takes_cell t)
        (λ takes.
        record {
          count = suc later.count;
          front = rw e (later.front ∙ rw takes (omega arith));
          within = rw takes (omega (arith, few));
          cells = rw takes (λ i. hidden-cell t l i ∷ rest i);
          after = same_end;
        })
        (λ takes.
        record {
          count = later.count;
          front = rw e (later.front ∙ rw takes (omega arith));
          within = rw takes few;
          cells = rw takes rest;
          after = same_end;
        })

front_of : (l : Look) (n : ℕ) (ts : List Token) → any is_box_code ts ≡ true → Front l n ts
unfolding any
front_of l n [] e = absurd (false≢true e)
front_of l n (t ∷ ts) e =
    by_test (is_box_code t)
    (λ b. front-here l n t ts b)
    (λ b. front-later l n t ts b (front_of (look_next t l) (n + bit (takes_cell t)) ts (rw (any-cons is_box_code t ts, b) at e)))

-- the row, of what is read as if a box were open at its start
pub record Hindsight (l : Look) (row : List Token) : Type 0 where
  pub within : front_from 0 0 row ≤ length (cells_from (boxed_start l) row)
  pub cells : cells_of_row l row ≡ replicate (front_from 0 0 row) (hidden_cell l.double) ++ drop (front_from 0 0 row) (cells_from (boxed_start l) row)
  pub after : look_after_row l row ≡ (pen_end (boxed_start l) row).look

pub hindsight : (l : Look) (row : List Token) → Hindsight l row
unfolding row_start
hindsight l row =
    by_test (any is_box_code row)
    (λ e.
    let f = front_of (boxed_start l).look 0 row e in
    let c : front_from 0 0 row ≡ f.count = omega (arith, f.front) in
    record {
      within = rw c f.within;
      cells = rw (e, c) f.cells;
      after = rw (e, look_after_row) (ap (λ (p : Pen). p.look) f.after);
    })
    (λ e.
    let c = front-none 0 row e in
    record { within = rw c (omega arith); cells = rw (e, c); after = rw (e, look_after_row) })
