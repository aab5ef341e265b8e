-- When a cell fits a span's look, as facts instead of tests, and when cells are uniform.
-- Assumes nothing.
use mathlib.Core.Path.{◌≡◌, refl, sym, ◌∙◌}
use mathlib.Core.Bool.{true, false}
use mathlib.Core.List.{List, [], ◌∷◌, ◌++◌}
use mathlib.Core.Logic.{◌⊎◌, inl, inr, ⊎_elim}
use lib.Dec.{eqb}
use borrow.Author.Tests.{eq-eqb, eqb-true}
use Rattle.meaning.specs.declared.Look.{Look}
use Rattle.meaning.specs.Lists.{all}
use Rattle.meaning.specs.Cells.{Cell, is_blank}
use Rattle.meaning.specs.Looks.{shared, free}
use Rattle.meaning.specs.Spans.{fits, foreground_of, look_of, uniform}
use Rattle.meaning.proofs.LookLaws.{blend-shared, blend-free}
use Rattle.std.proofs.lemmas.Bool.{and_from, and_parts, false≢true, or_left, or_right}
use Rattle.meaning.proofs.Logic.{by_test, or_second}
use Rattle.meaning.proofs.ListLaws.{All, all_so, all_tested, test-all}
use Rattle.meaning.proofs.ListLaws.All.{nil, cons}

-- what `fits` tests
pub record Fits (l : Look) (c : Cell) : Type 0 where
  pub shares : shared c.look ≡ shared l
  pub agrees : is_blank c ≡ false → free c.look ≡ free l

pub fits_true : {l : Look} {c : Cell} → Fits l c → fits l c ≡ true
unfolding fits
fits_true {l} {c} f =
    and_from _ _ (eq-eqb _ _ f.shares)
    (by_test (is_blank c) (λ e. or_left _ _ e) (λ e. or_right (is_blank c) _ (eq-eqb _ _ (f.agrees e))))

pub fits_says : (l : Look) (c : Cell) → fits l c ≡ true → Fits l c
unfolding fits
fits_says l c e =
    let p = and_parts (eqb (shared c.look) (shared l)) _ e in
    record { shares = eqb-true _ _ p.0; agrees = λ f. eqb-true _ _ (or_second (is_blank c) _ p.1 f) }

pub all_fit : {l : Look} {cs : List Cell} → All (Fits l) cs → all (fits l) cs ≡ true
all_fit {l} h = test-all (fits l) (all_so (λ c f. fits_true f) h)

pub all_say : (l : Look) (cs : List Cell) → all (fits l) cs ≡ true → All (Fits l) cs
all_say l cs e = all_so (fits_says l) (all_tested (fits l) cs e)

abbrev pub Blank : Cell → Type 0
Blank c = is_blank c ≡ true

-- the foreground is that of the look, unless all are blanks
foreground_fits : (l : Look) (cs : List Cell) → All (Fits l) cs → (free (foreground_of cs) ≡ free l) ⊎ All Blank cs
unfolding foreground_of
foreground_fits l [] h = inr nil
foreground_fits l (c ∷ cs) (cons f h) =
    by_test (is_blank c)
    (λ e. ⊎_elim (λ (g : free (foreground_of cs) ≡ free l). inl (rw (e, foreground_of) g)) (λ b. inr (cons e b)) (foreground_fits l cs h))
    (λ e. inl (rw (e, foreground_of) (f.agrees e)))

-- cells that fit one look fit another of the same shared part, if what is left open agrees or all are blanks
module _ (l m : Look) (s : shared m ≡ shared l) where
  refit_free : {cs : List Cell} → free m ≡ free l → All (Fits l) cs → All (Fits m) cs
  refit_free e h = all_so (λ c f. record { shares = f.shares ∙ sym s; agrees = λ g. f.agrees g ∙ sym e }) h

  pub refit_blank : {cs : List Cell} → All Blank cs → All (Fits l) cs → All (Fits m) cs
  refit_blank nil h = nil
  refit_blank (cons e k) (cons f h) =
      cons (record { shares = f.shares ∙ sym s; agrees = λ g. absurd (false≢true (sym g ∙ e)) }) (refit_blank k h)

-- the look of a span shares with its first cell, and is else like its foreground
pub look-shared : (c : Cell) (cs : List Cell) → shared (look_of (c ∷ cs)) ≡ shared c.look
unfolding look_of
look-shared c cs = blend-shared c.look (foreground_of (c ∷ cs))

pub look-free : (c : Cell) (cs : List Cell) → free (look_of (c ∷ cs)) ≡ free (foreground_of (c ∷ cs))
unfolding look_of
look-free c cs = blend-free c.look (foreground_of (c ∷ cs))

-- cells that fit one look are uniform
pub is-uniform : (l : Look) (c : Cell) (cs : List Cell) → All (Fits l) (c ∷ cs) → uniform (c ∷ cs) ≡ true
unfolding uniform
is-uniform l c cs (cons f h) =
    let s = look-shared c cs ∙ f.shares in
    ⊎_elim
    (λ e. all_fit (refit_free l (look_of (c ∷ cs)) s (look-free c cs ∙ e) (cons f h)))
    (λ k. all_fit (refit_blank l (look_of (c ∷ cs)) s k (cons f h)))
    (foreground_fits l (c ∷ cs) (cons f h))

pub uniform-end : (l : Look) (cs : List Cell) (c : Cell) → All (Fits l) (cs ++ (c ∷ [])) → uniform (cs ++ (c ∷ [])) ≡ true
uniform-end l [] c h = is-uniform l c [] h
uniform-end l (b ∷ cs) c h = is-uniform l b (cs ++ (c ∷ [])) h

pub fits-own : (c : Cell) → Fits c.look c
fits-own c = record { shares = refl; agrees = λ e. refl }

pub one-uniform : (c : Cell) → uniform (c ∷ []) ≡ true
one-uniform c = is-uniform c.look c [] (cons (fits-own c) nil)
