-- What boxes show: the pen, which goes from token to token, hides what the request says.
-- Assumes nothing.
use mathlib.Core.Path.{◌≡◌, refl, sym, ap, ◌∙◌}
use mathlib.Core.Bool.{Bool, true, false, cond, not, ◌&&◌, ◌||◌, and-true, and-false, or-true}
use mathlib.Core.List.{List, [], ◌∷◌, ◌++◌}
use lib.Dec.{eqb}
use borrow.Author.Tests.{eqb-true}
use Rattle.meaning.specs.declared.Token.{Token}
use Rattle.meaning.specs.declared.Token.TheVariants.{Character, Control, Switch, RowEnd, Unlisted}
use Rattle.meaning.specs.declared.Look.{Look}
use Rattle.meaning.specs.Lists.{any}
use Rattle.meaning.specs.Codes.{is_control_of, is_box_start, is_box_end, is_box_code}
use Rattle.meaning.specs.Looks.{start_look}
use Rattle.meaning.specs.Cells.{Pen, cell_character, control_here, control_next, switched, look_here, look_next, hidden_next, hidden_cell, hidden_if, cell_of, pen_after, pen_end, row_start}
use Rattle.std.proofs.lemmas.Bool.{false≢true, or_parts}
use Rattle.meaning.proofs.Logic.{by_test}
use Rattle.meaning.proofs.ListLaws.{any-cons, none_split}
use Rattle.laws.specs.Boxes.{in_box, look_end, BoxedText}

not-start-and-end : (t : Token) → (is_box_start t && is_box_end t) ≡ false
unfolding is_control_of
not-start-and-end (Character p) = refl
not-start-and-end (Control c) = by_test (eqb c 11) (λ e. rw (eqb-true c 11 e)) (λ e. rw e)
not-start-and-end (Switch c) = refl
not-start-and-end RowEnd = refl
not-start-and-end Unlisted = refl

-- one token: `start` and `end` tell what it is, `ends` and `inside` those after it
one_token : (start end ends inside h : Bool) → (start && end) ≡ false
    → (not inside && (ends || (end || (not start && h)))) ≡ (not ((start && not ends) || inside) && ((end || ends) || h))
one_token false false false false h e = refl
one_token false false false true h e = refl
one_token false false true false h e = refl
one_token false false true true h e = refl
one_token false true false false h e = refl
one_token false true false true h e = refl
one_token false true true false h e = refl
one_token false true true true h e = refl
one_token true false false false h e = refl
one_token true false false true h e = refl
one_token true false true false h e = refl
one_token true false true true h e = refl
one_token true true ends inside h e = absurd (false≢true (sym e))

-- after tokens, from any pen
hidden-end : (p : Pen) (ts : List Token) → (pen_end p ts).hidden ≡ (not (in_box ts) && (any is_box_end ts || p.hidden))
unfolding pen_end pen_after hidden_next in_box
hidden-end p [] = unfold any in refl
hidden-end p (t ∷ ts) =
    hidden-end (pen_after t p) ts
    ∙ rw (any-cons is_box_end t ts) (one_token (is_box_start t) (is_box_end t) (any is_box_end ts) (in_box ts) p.hidden (not-start-and-end t))

-- a row without box codes has no 0Ah
no_end : (before after : List Token) → any is_box_code (before ++ after) ≡ false → any is_box_end before ≡ false
unfolding is_box_code
no_end [] after e = unfold any in refl
no_end (t ∷ ts) after e =
    let h = none_split is_box_code t (ts ++ after) e in
    rw (any-cons is_box_end t ts, (or_parts (is_box_start t) (is_box_end t) h.0).1) (no_end ts after h.1)

hidden_at : (l : Look) (before after : List Token) → (pen_end (row_start (before ++ after) l) before).hidden ≡ (any is_box_code (before ++ after) && not (in_box before))
unfolding row_start
hidden_at l before after =
    by_test (any is_box_code (before ++ after))
    (λ e. rw e (hidden-end _ before ∙ rw (or-true (any is_box_end before)) (and-true (not (in_box before)))))
    (λ e. rw e (hidden-end _ before ∙ rw (no_end before after e) (and-false (not (in_box before)))))

-- the look goes its own way
look-end : (p : Pen) (ts : List Token) → (pen_end p ts).look ≡ look_end p.look ts
unfolding pen_end pen_after look_end
look-end p [] = refl
look-end p (t ∷ ts) = look-end (pen_after t p) ts

-- and no token changes the height
pub same-height : (t : Token) (l : Look) → ((look_here t l).double ≡ l.double) × ((look_next t l).double ≡ l.double)
unfolding look_here look_next control_here control_next switched
same-height (Character p) l = (refl, refl)
same-height (Control c) l = (refl, refl)
same-height (Switch c) l = (refl, refl)
same-height RowEnd l = (refl, refl)
same-height Unlisted l = (refl, refl)

height-end : (l : Look) (ts : List Token) → (look_end l ts).double ≡ l.double
unfolding look_end
height-end l [] = refl
height-end l (t ∷ ts) = height-end (look_next t l) ts ∙ (same-height t l).1

pub hidden-cell : (t : Token) (l : Look) → cell_of t (record { look = l; hidden = true }) ≡ hidden_cell l.double
unfolding cell_of hidden_if
hidden-cell t l = ap hidden_cell (same-height t l).0

cell_at : (hidden : Bool) (t : Token) (l : Look)
    → cell_of t (record { look = l; hidden = hidden }) ≡ cond hidden (hidden_cell l.double) (record { character = cell_character t; look = look_here t l })
unfolding cell_of hidden_if
cell_at true t l = hidden-cell t l
cell_at false t l = refl

pub boxed_text : BoxedText
unfolding row_start
boxed_text l before t after =
    let row = before ++ (t ∷ after) in
    let h = any is_box_code row && not (in_box before) in
    let m = look_end (start_look l) before in
    (λ i. cell_of t (record { look = look-end (row_start row l) before i; hidden = hidden_at l before (t ∷ after) i }))
    ∙ cell_at h t m ∙ ap (λ (d : Bool). cond h (hidden_cell d) (record { character = cell_character t; look = look_here t m })) (height-end (start_look l) before)
