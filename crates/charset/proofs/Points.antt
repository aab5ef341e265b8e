-- Code points, accents and letters as Options.
-- Assumes nothing.
use Prim.Native.Nat.{ℕ, zero, suc, ◌+◌, ◌-◌, ◌≤◌, ◌<◌}
use native.Mathlib.Omega.{arith}
use mathlib.Core.Path.{◌≡◌, refl, sym, ap, ◌∙◌}
use mathlib.Core.Bool.{true, false, ◌&&◌}
use lib.Dec.{leb}
use borrow.Author.Tests.{le-leb, eq-eqb, ne_eqb}
use Rattle.std.specs.Prelude.{Option, Some, None, MatchOption, IsSomeAnd}
use Rattle.std.proofs.lemmas.Option.{MatchOption-at_none, MatchOption-at_some}
use Rattle.meaning.specs.declared.Token.{Token}
use Rattle.meaning.specs.declared.Glyph.{Glyph}
use Rattle.meaning.specs.declared.Token.TheVariants.{Character, Unlisted}
use Rattle.meaning.specs.Glyphs.{single}
use Rattle.meaning.specs.Characters.{accent, letter, composed, mark_of, base, accented}
use Rattle.meaning.specs.Codes.{character_of, is_accent, pair_token}
use Rattle.meaning.proofs.Logic.{by_test, by_le, between}
use Rattle.charset.specs.Points.{point_of, index_of, glyph_of}
use Rattle.charset.proofs.Codes.{accent-ranged}

point_some : (n : ℕ) → (n ≡ 0 → ⊥) → point_of n ≡ Some n
unfolding point_of
point_some zero h = absurd (h refl)
point_some (suc n) h = refl

pub point-zero : (n : ℕ) → point_of n ≡ None → n ≡ 0
unfolding point_of
point-zero zero e = refl
point-zero (suc n) e = cc

pub point-is : (n : ℕ) {q : ℕ} → point_of n ≡ Some q → (n ≡ q) × (n ≡ 0 → ⊥)
unfolding point_of
point-is zero e = cc
point-is (suc n) e = (cc, λ z. omega arith)

pub index_zero : (n : ℕ) → index_of n ≡ None → n ≡ 0
unfolding index_of
index_zero zero e = refl
index_zero (suc n) e = cc

pub index_is : (n : ℕ) {k : ℕ} → index_of n ≡ Some k → n ≡ suc k
unfolding index_of
index_is zero e = cc
index_is (suc n) e = cc

index-suc : (n k : ℕ) → n ≡ suc k → index_of n ≡ Some k
unfolding index_of
index-suc n k e = rw e

index-none : (n : ℕ) → n ≡ 0 → index_of n ≡ None
unfolding index_of
index-none n e = rw e

-- the numbers of the accents
module _ (c : ℕ) where
  pub accent_first : 193 ≤ c → c ≤ 200 → Some (c - 193) ≡ index_of (accent c)
  accent_first h k = sym (index-suc _ _ (rw (accent-ranged c, le-leb 193 c h, le-leb c 200 k) (omega arith)))

  pub accent_second : 202 ≤ c → c ≤ 203 → Some (c - 194) ≡ index_of (accent c)
  accent_second h k =
      sym (index-suc _ _ (accent-ranged c ∙ by_test (leb 193 c && leb c 200) (λ e. let b = between 193 200 c e in absurd (omega (arith, b.1))) (λ e. rw (e, le-leb 202 c h, le-leb c 203 k) (omega arith))))

  pub accent_third : 205 ≤ c → c ≤ 207 → Some (c - 195) ≡ index_of (accent c)
  accent_third h k =
      sym (index-suc _ _ (accent-ranged c ∙ by_test (leb 193 c && leb c 200) (λ e. let b = between 193 200 c e in absurd (omega (arith, b.1)))
      (λ e. by_test (leb 202 c && leb c 203) (λ f. let b = between 202 203 c f in absurd (omega (arith, b.1)))
      (λ f. rw (e, f, le-leb 205 c h, le-leb c 207 k) (omega arith)))))

  pub accent_none : (193 ≤ c → 200 < c) → (202 ≤ c → 203 < c) → (205 ≤ c → 207 < c) → None ≡ index_of (accent c)
  accent_none p q r =
      sym (index-none _ (accent-ranged c ∙ by_test (leb 193 c && leb c 200) (λ e. let b = between 193 200 c e in let d = p b.0 in absurd (omega (arith, b.1)))
      (λ e. by_test (leb 202 c && leb c 203) (λ f. let b = between 202 203 c f in let d = q b.0 in absurd (omega (arith, b.1)))
      (λ f. by_test (leb 205 c && leb c 207) (λ g. let b = between 205 207 c g in let d = r b.0 in absurd (omega (arith, b.1)))
      (λ g. rw (e, f, g))))))

  -- and of the letters
  pub letter_upper : 65 ≤ c → c ≤ 90 → Some (c - 65) ≡ index_of (letter c)
  unfolding letter
  letter_upper h k = sym (index-suc _ _ (rw (le-leb 65 c h, le-leb c 90 k) (omega arith)))

  pub letter_lower : 97 ≤ c → c ≤ 122 → Some (c - 97 + 26) ≡ index_of (letter c)
  unfolding letter
  letter_lower h k =
      sym (index-suc _ _ (by_test (leb 65 c && leb c 90) (λ e. let b = between 65 90 c e in absurd (omega (arith, b.1))) (λ e. rw (e, le-leb 97 c h, le-leb c 122 k) (omega arith))))

  pub letter_none : (65 ≤ c → 90 < c) → (97 ≤ c → 122 < c) → None ≡ index_of (letter c)
  unfolding letter
  letter_none p q =
      sym (index-none _ (by_test (leb 65 c && leb c 90) (λ e. let b = between 65 90 c e in let d = p b.0 in absurd (omega (arith, b.1)))
      (λ e. by_test (leb 97 c && leb c 122) (λ f. let b = between 97 122 c f in let d = q b.0 in absurd (omega (arith, b.1))) (λ f. rw (e, f)))))

  -- what a mark stands on
  pub base_letter : {k : ℕ} → (c ≡ 32 → ⊥) → letter c ≡ suc k → Some c ≡ point_of (base c)
  unfolding base letter
  base_letter {k} ne e =
      let some : c ≡ 0 → ⊥ = λ z. absurd (omega (arith, rw z at e)) in
      let no : letter c ≡ 0 → ⊥ = λ z. omega arith in
      sym (ap point_of (rw (ne_eqb c 32 ne, ne_eqb (letter c) 0 no)) ∙ point_some c some)

  pub base_none : (c ≡ 32 → ⊥) → letter c ≡ 0 → None ≡ point_of (base c)
  unfolding base point_of
  base_none ne e = rw (ne_eqb c 32 ne, eq-eqb (letter c) 0 e)

pub base_space : (c : ℕ) → c ≡ 32 → Some 160 ≡ point_of (base c)
unfolding base point_of
base_space c e = rw e

-- a character by its code point
glyph_some : (g : Glyph) → (g.point ≡ 0 → ⊥) → glyph_of g ≡ Some g
unfolding glyph_of
glyph_some g ne = rw (ne_eqb g.point 0 ne, glyph_of)

glyph-none : (g : Glyph) → g.point ≡ 0 → glyph_of g ≡ None
unfolding glyph_of
glyph-none g e = rw (eq-eqb g.point 0 e, glyph_of)

-- the character of an accent and a code
module _ (a c : ℕ) where
  whole : (composed a (letter c) ≡ 0 → ⊥) → accented a c ≡ single (composed a (letter c))
  unfolding accented
  whole ne = rw (ne_eqb (composed a (letter c)) 0 ne)

  marked : composed a (letter c) ≡ 0 → accented a c ≡ record { point = base c; mark = mark_of a }
  unfolding accented
  marked e = rw (eq-eqb (composed a (letter c)) 0 e)

  pub pair_composed : {q : ℕ} → point_of (composed a (letter c)) ≡ Some q → Some (single q) ≡ glyph_of (accented a c)
  pair_composed {q} e =
      let w = point-is _ e in
      sym (ap glyph_of (whole w.1 ∙ ap single w.0) ∙ glyph_some (single q) (unfold single in (λ z. w.1 (w.0 ∙ z))))

  pub pair_marked : {b m : ℕ} → point_of (composed a (letter c)) ≡ None → point_of (base c) ≡ Some b → mark_of a ≡ Some m → Some (record { point = b; mark = Some m }) ≡ glyph_of (accented a c)
  pair_marked {b} {m} e f k =
      let w = point-is _ f in
      sym (ap glyph_of (marked (point-zero _ e) ∙ ap (λ (n : ℕ). record { point = n; mark = mark_of a }) w.0 ∙ ap (λ (o : Option ℕ). record { point = b; mark = o }) k) ∙ glyph_some (record { point = b; mark = Some m }) (λ z. w.1 (w.0 ∙ z)))

  pub pair_none : point_of (composed a (letter c)) ≡ None → point_of (base c) ≡ None → None ≡ glyph_of (accented a c)
  pair_none e f = sym (ap glyph_of (marked (point-zero _ e)) ∙ glyph-none (record { point = base c; mark = mark_of a }) (point-zero _ f))

-- the token of a character that may be missing
pub token_of : (g : Glyph) {o : Option Glyph} {r : Token} → o ≡ glyph_of g → MatchOption o (r ≡ Unlisted) (λ x. r ≡ Character x) → r ≡ character_of g
unfolding character_of
token_of g e m =
    by_le 1 g.point
    (λ p. let ne : g.point ≡ 0 → ⊥ = λ z. omega arith in rw (ne_eqb g.point 0 ne) (MatchOption-at_some _ _ g (e ∙ glyph_some g ne) m))
    (λ p. let z : g.point ≡ 0 = omega arith in rw (eq-eqb g.point 0 z) (MatchOption-at_none _ _ (e ∙ glyph-none g z) m))

-- the character of a code point that may be missing
pub single_of : (n : ℕ) {o : Option ℕ} (r : Option Glyph) → o ≡ point_of n → MatchOption o (r ≡ None) (λ p. IsSomeAnd r (λ g. g ≡ single p)) → r ≡ glyph_of (single n)
unfolding point_of glyph_of single
single_of zero r e m = MatchOption-at_none _ _ e m
single_of (suc n) None e m = absurd (MatchOption-at_some _ _ _ e m)
single_of (suc n) (Some g) e m = ap Some (MatchOption-at_some _ _ _ e m) ∙ sym (glyph_some (single (suc n)) (λ z. omega (arith, z)))

-- whether a code is an accent
pub accent_is : (c : ℕ) {k : ℕ} → index_of (accent c) ≡ Some k → (is_accent c ≡ true) × (accent c ≡ suc k)
unfolding is_accent
accent_is c {k} e = let w = index_is _ e in (rw (ne_eqb (accent c) 0 (λ z. omega (arith, w))), w)

pub accent_not : (c : ℕ) → index_of (accent c) ≡ None → is_accent c ≡ false
unfolding is_accent
accent_not c e = rw (index_zero _ e)

-- the token of an accent by its number
pub pair_of : (c d : ℕ) {k : ℕ} → accent c ≡ suc k → character_of (accented (suc k) d) ≡ pair_token c d
unfolding pair_token
pair_of c d e = rw e

-- an Option that is no value
pub none_else : {A : Type 0} (o : Option A) → ((x : A) → o ≡ Some x → ⊥) → o ≡ None
none_else None h = refl
none_else (Some x) h = absurd (h x refl)
