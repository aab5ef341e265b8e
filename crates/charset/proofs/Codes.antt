-- Single codes and accent pairs, as the functions read them.
-- Assumes nothing.
use Prim.Native.Nat.{ℕ, suc, ◌+◌, ◌-◌, ◌≤◌, ◌<◌}
use native.Mathlib.Omega.{arith}
use mathlib.Core.Path.{◌≡◌, refl, sym, ◌∙◌}
use mathlib.Core.Bool.{true, false, cond, not, ◌&&◌, and-false}
use lib.Dec.{ltb, leb, eqb}
use lib.ListN.{length, get_or, drop, get_or-eq_default}
use borrow.Author.Tests.{lt-ltb, le-ltb, le-leb, lt-leb, ne_eqb, eqb-true, eqb-false, ltb-false, not-true}
use Rattle.std.specs.Prelude.{Some}
use Rattle.std.proofs.lemmas.Option.{slice_get-get_or}
use Rattle.meaning.specs.declared.Glyph.{Glyph}
use Rattle.meaning.specs.declared.Token.TheVariants.{Character, Control, Switch, Unlisted}
use Rattle.meaning.specs.Tables.{latin_table}
use Rattle.meaning.specs.Characters.{latin, accents, accent, mark_of}
use Rattle.meaning.specs.Glyphs.{marks, single}
use Rattle.meaning.specs.Codes.{is_control, is_switch, character_of, code_token}
use Rattle.std.proofs.lemmas.Bool.{and_parts, false≢true}
use Rattle.meaning.proofs.Logic.{by_test, by_le, between}
use Rattle.charset.specs.Plain.{is_plain, plain_token}
use Rattle.charset.proofs.Table.{every, at}

-- the Latin table, by ranges of codes
abbrev pub by_range : ℕ → ℕ
by_range c =
    cond (ltb c 32) 0
    (cond (eqb c 36) 164 (cond (ltb c 127) c (cond (ltb c 160) 0 (get_or (drop 160 latin_table) (c - 160) 0))))

ranged : every (λ c p. eqb p (by_range c)) 0 latin_table ≡ true
unfolding latin_table
ranged = refl

pub by_range_lem : (c : ℕ) → c < 256 → latin c ≡ by_range c
unfolding latin latin_table
by_range_lem c h = eqb-true (latin c) (by_range c) (at (λ k p. eqb p (by_range k)) latin_table ranged c h)

pub character_of_lem : (g : Glyph) → (g.point ≡ 0 → ⊥) → character_of g ≡ Character g
unfolding character_of
character_of_lem g ne = rw (ne_eqb g.point 0 ne)

-- what a plain code is
pub plain-range : (c : ℕ) → is_plain c ≡ true → (32 ≤ c) × (c ≤ 126) × (c ≡ 36 → ⊥)
unfolding is_plain
plain-range c e =
    let w = and_parts (leb 32 c && leb c 126) (not (eqb c 36)) e in
    let v = between 32 126 c w.0 in
    (v.0, v.1, eqb-false c 36 (not-true (eqb c 36) w.1))

pub in_range_plain : (c : ℕ) → 32 ≤ c → c ≤ 126 → (c ≡ 36 → ⊥) → is_plain c ≡ true
unfolding is_plain
in_range_plain c l h ne = rw (le-leb 32 c l, le-leb c 126 h, ne_eqb c 36 ne)

control_below : (c : ℕ) → 32 ≤ c → is_control c ≡ false
unfolding is_control
control_below c h =
    rw (
      le-ltb c 8 (omega arith),
      ne_eqb c 10 (omega arith),
      ne_eqb c 11 (omega arith),
      ne_eqb c 13 (omega arith),
      ne_eqb c 28 (omega arith),
      ne_eqb c 29 (omega arith),
    )

switch_above : (c : ℕ) → c < 128 → is_switch c ≡ false
unfolding is_switch
switch_above c h = rw (lt-leb 128 c h)

switch_below : (c : ℕ) → 132 ≤ c → is_switch c ≡ false
unfolding is_switch
switch_below c h = rw (le-leb 128 c (omega arith), lt-leb c 131 h)

-- a code that is no row end, no control and no switch
as_character : (c : ℕ) → (c ≡ 138 → ⊥) → is_control c ≡ false → is_switch c ≡ false → code_token c ≡ character_of (single (latin c))
unfolding code_token
as_character c ne n s = rw (ne_eqb c 138 ne, n, s, code_token)

-- from A0h on the Latin table tells
pub upper_token : (c : ℕ) → 160 ≤ c → code_token c ≡ character_of (single (latin c))
upper_token c h = as_character c (λ e. omega arith) (control_below c (omega arith)) (switch_below c (omega arith))

module _ (c : ℕ) where
  pub plain_code : is_plain c ≡ true → code_token c ≡ plain_token c
  plain_code e =
      let r = plain-range c e in
      let p : latin c ≡ c = rw (by_range_lem c (omega (arith, r.1)), le-ltb c 32 r.0, ne_eqb c 36 r.2, lt-ltb c 127 (omega (arith, r.1))) in
      as_character c (λ d. omega (arith, r.1)) (control_below c r.0) (switch_above c (omega (arith, r.1))) ∙ (rw p (unfold single in character_of_lem (single c) (λ z. omega (arith, r.0))))

  pub control_token : is_control c ≡ true → code_token c ≡ Control c
  unfolding code_token is_control
  control_token e =
      let ne : c ≡ 138 → ⊥ = λ d. false≢true (rw d at e) in
      rw (ne_eqb c 138 ne, e, code_token)

  pub switch_token : is_switch c ≡ true → code_token c ≡ Switch c
  unfolding code_token is_switch
  switch_token e =
      let w = between 128 131 c e in
      rw (ne_eqb c 138 (λ d. omega (arith, w.1)), control_below c (omega (arith, w.0)), e, code_token)

  -- a low code that is none of these
  pub no_token : c < 160 → is_plain c ≡ false → is_control c ≡ false → is_switch c ≡ false → (c ≡ 36 → ⊥) → (c ≡ 138 → ⊥) → code_token c ≡ Unlisted
  unfolding character_of single
  no_token h p n s d r =
      let high : 32 ≤ c → 127 ≤ c = λ l. by_le c 126 (λ u. absurd (false≢true (sym p ∙ in_range_plain c l u d))) (λ u. u) in
      let none : latin c ≡ 0 = by_range_lem c (omega arith) ∙ by_test (ltb c 32) (λ t. rw t) (λ t. rw (t, ne_eqb c 36 d, le-ltb c 127 (high (ltb-false c 32 t)), lt-ltb c 160 h)) in
      as_character c r n s ∙ rw none

pub mark_at : (a : ℕ) → a < 13 → mark_of (suc a) ≡ Some (get_or marks a 0)
unfolding mark_of marks
mark_at a h = slice_get-get_or marks a 0 h

-- the numbers of the accents, by ranges of codes
abbrev accent_by_range : ℕ → ℕ
accent_by_range c =
    cond (leb 193 c && leb c 200) (c - 192) (cond (leb 202 c && leb c 203) (c - 193) (cond (leb 205 c && leb c 207) (c - 194) 0))

accents-ranged : every (λ k a. eqb a (accent_by_range (192 + k))) 0 accents ≡ true
unfolding accents
accents-ranged = refl

-- of no code from a range on, or before it
above : (c : ℕ) → 208 ≤ c → accent_by_range c ≡ 0
above c h = rw (lt-leb c 200 (omega arith), lt-leb c 203 (omega arith), lt-leb c 207 (omega arith), and-false (leb 193 c), and-false (leb 202 c), and-false (leb 205 c))

below : (c : ℕ) → c < 192 → accent_by_range c ≡ 0
below c h = rw (lt-leb 193 c (omega arith), lt-leb 202 c (omega arith), lt-leb 205 c (omega arith))

accent-from : (c : ℕ) → 192 ≤ c → accent c ≡ get_or accents (c - 192) 0
unfolding accent
accent-from c h = rw (le-leb 192 c h, accent)

accent-before : (c : ℕ) → c < 192 → accent c ≡ 0
unfolding accent
accent-before c h = rw (lt-leb 192 c h, accent)

pub accent-ranged : (c : ℕ) → accent c ≡ accent_by_range c
unfolding accents
accent-ranged c =
    by_le 192 c
    (λ h.
    let e : 192 + (c - 192) ≡ c = omega arith in
    by_le 208 c
    (λ k.
    let past : length accents ≤ c - 192 = omega arith in
    accent-from c h ∙ get_or-eq_default accents 0 past ∙ sym (above c k))
    (λ k. accent-from c h ∙ rw e at (eqb-true (get_or accents (c - 192) 0) (accent_by_range (192 + (c - 192))) (at (λ j a. eqb a (accent_by_range (192 + j))) accents accents-ranged (c - 192) (omega arith)))))
    (λ h. accent-before c h ∙ sym (below c h))
