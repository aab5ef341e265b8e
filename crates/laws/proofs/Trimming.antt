-- Shown cells: the trimming clause by clause, what is trimmed stays so, and cells that are the same are trimmed alike.
-- Assumes nothing.
use native.Mathlib.Omega.{arith}
use Prim.Native.Nat.{◌≤◌}
use mathlib.Core.Path.{◌≡◌, refl, sym, ap, subst, ◌∙◌}
use mathlib.Core.Bool.{true, false}
use mathlib.Core.List.{List, [], ◌∷◌, ◌++◌}
use lib.ListN.{length, take, drop, length-append, length-take, take-append-drop}
use Rattle.meaning.specs.Lists.{take_while}
use Rattle.meaning.specs.Cells.{Cell, is_blank, is_blank_on_black, trim_front, before_trimmed, trim_back, shown}
use Rattle.meaning.specs.Profile.{SameCell, SameCells}
use Rattle.meaning.specs.Profile.SameCells.{none, both}
use Rattle.meaning.proofs.Logic.{by_test}
use Rattle.meaning.proofs.LookLaws.{same_blank, same-on-black}
use Rattle.meaning.proofs.ListLaws.{All, all_left, all_right, while_on, while_off}

pub front_cut : (c : Cell) (cs : List Cell) → is_blank_on_black c ≡ true → trim_front (c ∷ cs) ≡ trim_front cs
unfolding trim_front
front_cut c cs e = rw (e, trim_front)

pub front_kept : (c : Cell) (cs : List Cell) → is_blank_on_black c ≡ false → trim_front (c ∷ cs) ≡ c ∷ cs
unfolding trim_front
front_kept c cs e = rw (e, trim_front)

pub last-cut : (c : Cell) → is_blank_on_black c ≡ true → before_trimmed c [] ≡ []
unfolding before_trimmed
last-cut c e = rw (e, before_trimmed)

pub last-kept : (c : Cell) → is_blank_on_black c ≡ false → before_trimmed c [] ≡ c ∷ []
unfolding before_trimmed
last-kept c e = rw (e, before_trimmed)

-- what is trimmed stands at the front, and at the end
pub front_split : (cs : List Cell) → cs ≡ take_while is_blank_on_black cs ++ trim_front cs
front_split [] = unfold take_while trim_front in refl
front_split (c ∷ cs) =
    by_test (is_blank_on_black c)
    (λ e. rw (while_on is_blank_on_black c cs e, front_cut c cs e) (ap (λ (l : List Cell). c ∷ l) (front_split cs)))
    (λ e. rw (while_off is_blank_on_black c cs e, front_kept c cs e))

back_onto : (c : Cell) (cs t : List Cell) → take (length t) cs ≡ t → take (length (before_trimmed c t)) (c ∷ cs) ≡ before_trimmed c t
back_onto c cs [] h = by_test (is_blank_on_black c) (λ e. rw (last-cut c e)) (λ e. rw (last-kept c e))
back_onto c cs (d ∷ ds) h = unfold before_trimmed in ap (λ (l : List Cell). c ∷ l) h

pub back_take : (cs : List Cell) → take (length (trim_back cs)) cs ≡ trim_back cs
unfolding trim_back
back_take [] = refl
back_take (c ∷ cs) = back_onto c cs (trim_back cs) (back_take cs)

-- so those shown are no more, and what holds of all cells holds of them
pub shown_bound : (cs : List Cell) → length (shown cs) ≤ length cs
unfolding shown
shown_bound cs =
    omega (
      arith,
      simp length-append at (ap length (front_split cs)),
      simp length-take at (ap length (back_take (trim_front cs))),
    )

pub all_shown : {P : Cell → Type 0} (cs : List Cell) → All P cs → All P (shown cs)
unfolding shown
all_shown {P} cs h =
    let t = trim_front cs in
    let k = length (trim_back t) in
    let front = all_right (take_while is_blank_on_black cs) t (subst (All P) (front_split cs) h) in
    subst (All P) (back_take t) (all_left (take k t) (drop k t) (subst (All P) (sym (take-append-drop k t)) front))

-- trimming what is trimmed
back_again : (c : Cell) (t : List Cell) → trim_back t ≡ t → trim_back (before_trimmed c t) ≡ before_trimmed c t
unfolding trim_back
back_again c [] e = by_test (is_blank_on_black c) (λ f. rw (last-cut c f)) (λ f. rw (last-kept c f) (last-kept c f))
back_again c (d ∷ ds) e = unfold before_trimmed in ap (before_trimmed c) e

back_twice : (cs : List Cell) → trim_back (trim_back cs) ≡ trim_back cs
unfolding trim_back
back_twice [] = refl
back_twice (c ∷ cs) = back_again c (trim_back cs) (back_twice cs)

front-last : (c : Cell) (t : List Cell) → is_blank_on_black c ≡ false → trim_front (before_trimmed c t) ≡ before_trimmed c t
front-last c [] e = rw (last-kept c e) (front_kept c [] e)
front-last c (d ∷ ds) e = unfold before_trimmed in front_kept c (d ∷ ds) e

front_back : (cs : List Cell) → trim_front (trim_back (trim_front cs)) ≡ trim_back (trim_front cs)
front_back [] = unfold trim_front trim_back in refl
front_back (c ∷ cs) =
    by_test (is_blank_on_black c)
    (λ e. rw (front_cut c cs e) (front_back cs))
    (λ e. rw (front_kept c cs e) (unfold trim_back in front-last c (trim_back cs) e))

pub shown_twice : (cs : List Cell) → shown (shown cs) ≡ shown cs
unfolding shown
shown_twice cs = rw (front_back cs) (back_twice (trim_front cs))

pub shown-nil : shown [] ≡ []
unfolding shown trim_front trim_back
shown-nil = refl

-- cells that are the same are shown alike
pub same-blanks : {c d : Cell} → SameCell c d → is_blank c ≡ is_blank d
same-blanks {c} {d} s = same_blank c d s.character s.shares

same-cut : {c d : Cell} → SameCell c d → is_blank_on_black c ≡ is_blank_on_black d
unfolding is_blank_on_black
same-cut {c} {d} s = rw (same-blanks s, same-on-black c.look d.look s.shares)

same-front : {cs ds : List Cell} → SameCells cs ds → SameCells (trim_front cs) (trim_front ds)
same-front none = unfold trim_front in none
same-front (both {c} {d} {cs} {ds} s r) =
    by_test (is_blank_on_black d)
    (λ e. rw (front_cut c cs (same-cut s ∙ e), front_cut d ds e) (same-front r))
    (λ e. rw (front_kept c cs (same-cut s ∙ e), front_kept d ds e) (both s r))

same-last : {c d : Cell} {cs ds : List Cell} → SameCell c d → SameCells cs ds → SameCells (before_trimmed c cs) (before_trimmed d ds)
same-last {c} {d} s none =
    by_test (is_blank_on_black d)
    (λ e. rw (last-cut c (same-cut s ∙ e), last-cut d e) none)
    (λ e. rw (last-kept c (same-cut s ∙ e), last-kept d e) (both s none))
same-last s (both t r) = unfold before_trimmed in both s (both t r)

same_back : {cs ds : List Cell} → SameCells cs ds → SameCells (trim_back cs) (trim_back ds)
unfolding trim_back
same_back none = none
same_back (both s r) = same-last s (same_back r)

pub same-shown : {cs ds : List Cell} → SameCells cs ds → SameCells (shown cs) (shown ds)
unfolding shown
same-shown r = same_back (same-front r)
