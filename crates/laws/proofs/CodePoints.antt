-- The code points of characters: read back they give the characters, UTF-8 writes them, and each mark among them stands on a character.
-- Assumes nothing.
use Prim.Native.Nat.{ℕ}
use mathlib.Core.Path.{◌≡◌, refl, ap, ◌∙◌}
use mathlib.Core.Bool.{Bool, true, false}
use mathlib.Core.List.{List, [], ◌∷◌, ◌++◌, flat_map}
use Rattle.std.specs.Prelude.{Option, Some, None}
use Rattle.meaning.specs.declared.Glyph.{Glyph}
use Rattle.meaning.specs.Glyphs.{is_mark, single, spelling, glyphs}
use Rattle.meaning.specs.Profile.{is_scalar, marks_stand}
use Rattle.meaning.proofs.Logic.{by_test}
use Rattle.meaning.proofs.ListLaws.{All, all_append}
use Rattle.meaning.proofs.ListLaws.All.{nil, cons}
use Rattle.laws.proofs.Spelling.{Spelled, point_base, point_scalar, mark_is, mark_scalar}

abbrev marked : ℕ → ℕ → Glyph
marked p m = record { point = p; mark = Some m }

-- a character with no mark, and one with a mark
by_mark : (P : Glyph → Type 0) (p : ℕ) (m : Option ℕ) → P (single p) → ((n : ℕ) → P (marked p n)) → P (record { point = p; mark = m })
unfolding single
by_mark P p None h k = h
by_mark P p (Some n) h k = k n

single-spelling : (p : ℕ) → spelling (single p) ≡ p ∷ []
unfolding spelling single
single-spelling p = refl

marked-spelling : (p m : ℕ) → spelling (marked p m) ≡ p ∷ m ∷ []
unfolding spelling
marked-spelling p m = refl

-- the reading back, by whether a mark follows
mark_first : List ℕ → Bool
mark_first [] = false
mark_first (p ∷ ps) = is_mark p

glyphs-more : (p q : ℕ) (ps : List ℕ)
    → glyphs (p ∷ q ∷ ps) ≡ elim (is_mark q) [ true ↦ marked p q ∷ glyphs ps | false ↦ single p ∷ glyphs (q ∷ ps) ]
unfolding glyphs
glyphs-more p q ps = refl

glyphs-one : (p : ℕ) (ps : List ℕ) → mark_first ps ≡ false → glyphs (p ∷ ps) ≡ single p ∷ glyphs ps
unfolding mark_first
glyphs-one p [] e = unfold glyphs in refl
glyphs-one p (q ∷ ps) e = rw e at (glyphs-more p q ps)

glyphs-two : (p m : ℕ) (ps : List ℕ) → is_mark m ≡ true → glyphs (p ∷ m ∷ ps) ≡ marked p m ∷ glyphs ps
glyphs-two p m ps e = rw e at (glyphs-more p m ps)

no_mark_first : {gs : List Glyph} → All Spelled gs → mark_first (flat_map spelling gs) ≡ false
unfolding mark_first flat_map spelling
no_mark_first nil = refl
no_mark_first (cons {x = g} e h) = point_base g e

-- reading back the code points of characters gives them
pub glyphs-points : {gs : List Glyph} → All Spelled gs → glyphs (flat_map spelling gs) ≡ gs
unfolding flat_map
glyphs-points nil = unfold glyphs in refl
glyphs-points (cons {x = g} {xs = gs} e h) =
    by_mark (λ (g : Glyph). Spelled g → glyphs (spelling g ++ flat_map spelling gs) ≡ g ∷ gs) g.point g.mark
    (λ e. rw (single-spelling g.point, glyphs-one g.point _ (no_mark_first h), glyphs-points h))
    (λ m e. rw (marked-spelling g.point m, glyphs-two g.point m _ (mark_is _ e refl), glyphs-points h))
    e

-- and the code points of the characters that any code points spell are these: nothing is normalised, nothing lost
pub points-glyphs : (ps : List ℕ) → flat_map spelling (glyphs ps) ≡ ps
unfolding flat_map
points-glyphs [] = unfold glyphs in refl
points-glyphs (p ∷ []) = unfold glyphs in rw (single-spelling p)
points-glyphs (p ∷ q ∷ ps) =
    by_test (is_mark q)
    (λ e. rw (glyphs-two p q ps e, marked-spelling p q) (ap (λ (l : List ℕ). p ∷ q ∷ l) (points-glyphs ps)))
    (λ e. rw (glyphs-one p (q ∷ ps) (unfold mark_first in e), single-spelling p) (ap (λ (l : List ℕ). p ∷ l) (points-glyphs (q ∷ ps))))

-- the code points of characters are such that UTF-8 writes
spelling_scalar : (g : Glyph) → Spelled g → All (λ (p : ℕ). is_scalar p ≡ true) (spelling g)
unfolding single
spelling_scalar g e =
    by_mark (λ (g : Glyph). Spelled g → All (λ (p : ℕ). is_scalar p ≡ true) (spelling g)) g.point g.mark
    (λ e. rw (single-spelling g.point) (cons (point_scalar _ e) nil))
    (λ m e. rw (marked-spelling g.point m) (cons (point_scalar _ e) (cons (mark_scalar _ e refl) nil)))
    e

pub points_scalar : {gs : List Glyph} → All Spelled gs → All (λ (p : ℕ). is_scalar p ≡ true) (flat_map spelling gs)
unfolding flat_map
points_scalar nil = nil
points_scalar (cons {x = g} e h) = all_append (spelling_scalar g e) (points_scalar h)

-- and no mark opens them or follows a mark
stand_one : (bare : Bool) (p : ℕ) (ps : List ℕ) → is_mark p ≡ false → marks_stand bare (p ∷ ps) ≡ marks_stand true ps
unfolding marks_stand
stand_one bare p ps e = rw (e, marks_stand)

stand_mark : (m : ℕ) (ps : List ℕ) → is_mark m ≡ true → marks_stand true (m ∷ ps) ≡ marks_stand false ps
unfolding marks_stand
stand_mark m ps e = rw (e, marks_stand)

pub marks_stand_lem : (bare : Bool) {gs : List Glyph} → All Spelled gs → marks_stand bare (flat_map spelling gs) ≡ true
unfolding flat_map single
marks_stand_lem bare nil = unfold marks_stand in refl
marks_stand_lem bare (cons {x = g} {xs = gs} e h) =
    by_mark (λ (g : Glyph). Spelled g → marks_stand bare (spelling g ++ flat_map spelling gs) ≡ true) g.point g.mark
    (λ e. rw (single-spelling g.point) (stand_one bare g.point _ (point_base _ e) ∙ marks_stand_lem true h))
    (λ m e.
    rw (marked-spelling g.point m)
    (stand_one bare g.point _ (point_base _ e) ∙ stand_mark m _ (mark_is _ e refl) ∙ marks_stand_lem false h))
    e
