-- What a store stands for after its numbers or one of its parts was written.
-- Assumes nothing.
use Prim.Native.Nat.{ℕ, ◌+◌, ◌≤◌}
use native.Mathlib.Omega.{arith}
use mathlib.Core.Path.{◌≡◌, refl, sym, ap, ◌∙◌}
use mathlib.Core.Bool.{Bool}
use mathlib.Core.List.{List, [], ◌++◌}
use lib.ListN.{length, take, drop, length-append}
use lib.Seq.{length-take-le}
use Rattle.meaning.specs.Lists.{field}
use Rattle.meaning.specs.Blocks.{gsi_size, block_size}
use Rattle.meaning.specs.Looks.{look_count}
use Rattle.output.specs.Output.{stored}
use Rattle.words.specs.Words.{words_bytes}
use Rattle.words.specs.Flags.{flags_bytes, flags_in}
use Rattle.words.proofs.Laws.{words-length, flags_length, flags_kept}
use Rattle.text.specs.declared.Tally.{Tally}
use Rattle.checking.specs.declared.blocks.Pass.{Pass}
use Rattle.checking.specs.Passing.{outcome_of}
use Rattle.feeding.specs.Feeding.{with_gsi, with_part, with_walk}
use Rattle.store.specs.declared.State.{State}
use Rattle.store.specs.Layout.{number_count, marks_at, gsi_at, part_at, text_at, store_size, marks_in}
use Rattle.store.specs.Numbers.{numbers_of, with_gsi_size, with_part_size, with_pass}
use Rattle.store.specs.Stores.{check_in}
use Rattle.store.proofs.Places.{drop-after, field-after, field-before, field-here, field_grown, changed_behind, changed_before}
use Rattle.store.proofs.Numbers.{numbers_length}

-- the same check, in a store whose parts are the same
check_same :
    (t : State) (a b : List ℕ) → field gsi_at t.gsi a ≡ field gsi_at t.gsi b → field part_at t.part a ≡ field part_at t.part b
    → drop text_at a ≡ drop text_at b → field marks_at look_count a ≡ field marks_at look_count b → check_in t a ≡ check_in t b
unfolding check_in
check_same t a b g p x m = rw (g, p, x, m)

-- numbers written at the front change no other part
pub check_front : (store ns : List ℕ) (t : State) → length ns ≤ number_count → check_in t (stored store 0 (words_bytes ns)) ≡ check_in t store
check_front store ns t h =
    let xs = words_bytes ns in
    let l = words-length ns in
    check_same t (stored store 0 xs) store
    (field-after store 0 xs gsi_at t.gsi (omega arith))
    (field-after store 0 xs part_at t.part (omega arith))
    (drop-after store 0 xs text_at (omega arith))
    (field-after store 0 xs marks_at look_count (omega arith))

pub check_put : (store : List ℕ) (s t : State) → check_in t (stored store 0 (words_bytes (numbers_of s))) ≡ check_in t store
check_put store s t = check_front store (numbers_of s) t (omega (arith, numbers_length s))

-- the looks in use that were written
pub marks-here : (store : List ℕ) (marks : List Bool) → length marks ≡ look_count → marks_at + look_count ≤ length store
    → marks_in (stored store marks_at (flags_bytes marks)) ≡ marks
marks-here store marks l h =
    let k : look_count ≡ length (flags_bytes marks) = sym (flags_length marks ∙ l) in
    ap (λ (n : ℕ). flags_in (field marks_at n (stored store marks_at (flags_bytes marks)))) k
    ∙ ap flags_in (field-here store marks_at (flags_bytes marks) (omega arith))
    ∙ flags_kept marks

field-none : (from : ℕ) (xs : List ℕ) → field from 0 xs ≡ []
unfolding field
field-none from xs = refl

module _ (store : List ℕ) (size : length store ≡ store_size) (s : State) where
  pub check_gsi : (xs : List ℕ) → s.gsi + length xs ≤ gsi_size
      → check_in (with_gsi_size s (s.gsi + length xs)) (stored store (gsi_at + s.gsi) xs) ≡ with_gsi (check_in s store) ((check_in s store).gsi ++ xs)
  unfolding check_in
  check_gsi xs h =
      let at = gsi_at + s.gsi in
      rw (
        field_grown store gsi_at s.gsi xs (omega arith),
        field-after store at xs part_at s.part (omega arith),
        drop-after store at xs text_at (omega arith),
        field-before store at xs marks_at look_count (omega arith),
      )

  pub check_part : (xs : List ℕ) → s.gsi ≤ gsi_size → s.part + length xs ≤ block_size
      → check_in (with_part_size s (s.part + length xs)) (stored store (part_at + s.part) xs) ≡ with_part (check_in s store) ((check_in s store).part ++ xs)
  unfolding check_in
  check_part xs g h =
      let at = part_at + s.part in
      rw (
        field-before store at xs gsi_at s.gsi (omega arith),
        field_grown store part_at s.part xs (omega arith),
        drop-after store at xs text_at (omega arith),
        field-before store at xs marks_at look_count (omega arith),
      )

  -- after whole blocks: the text of the open set was changed in its place, and the looks in use were written
  pub check_walk : (store1 store2 text : List ℕ) (marks : List Bool) (n : ℕ) (w : Pass) (t : Tally) → s.gsi ≤ gsi_size → store1 ≡ take text_at store ++ text
      → store2 ≡ stored store1 marks_at (flags_bytes marks) → length marks ≡ look_count
      → check_in (with_pass s n w t) store2 ≡ with_walk (check_in s store) n (outcome_of w text (record { out = []; marks = marks; tally = t }))
  unfolding check_in
  check_walk store1 store2 text marks n w t g e f l =
      let xs = flags_bytes marks in
      let k : length xs ≡ look_count = flags_length marks ∙ l in
      let h : text_at ≤ length store = omega arith in
      let long : text_at ≤ length store1 = rw e (simp length-append (omega (arith, length-take-le text_at store h))) in
      rw (
        f,
        field-after store1 marks_at xs gsi_at s.gsi (omega arith),
        changed_before store store1 text text_at e h gsi_at s.gsi (omega arith),
        drop-after store1 marks_at xs text_at (omega arith),
        changed_behind store store1 text text_at e h,
        marks-here store1 marks l (omega arith),
        field-none part_at (stored store1 marks_at xs),
      )
