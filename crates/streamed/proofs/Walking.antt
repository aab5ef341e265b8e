-- The converter's own pass over whole blocks of a lump, by the check's definition.
-- Assumes nothing.
use Prim.Native.Nat.{ℕ, suc, ◌+◌, ◌-◌, ◌≤◌, min}
use native.Mathlib.Omega.{arith}
use mathlib.Core.Path.{◌≡◌, refl, sym, ap, ◌∙◌}
use Rattle.std.specs.Prelude.{Result, Ok, Err}
use mathlib.Core.Bool.{Bool, true, false}
use mathlib.Core.List.{List, [], ◌∷◌, ◌++◌, append-nil}
use lib.ListN.{length, length-append, take, drop, replicate, length-drop, length-replicate, drop_of_length-le}
use lib.Seq.{take_all, length-take-le}
use Rattle.std.proofs.lemmas.List.{nil_from_length}
use Rattle.meaning.specs.declared.Format.{Format}
use Rattle.meaning.specs.declared.Counts.{Counts}
use Rattle.meaning.specs.declared.Refusal.{Refusal}
use Rattle.meaning.specs.Refusals.{is_good}
use Rattle.meaning.specs.Blocks.{is_comment}
use Rattle.meaning.specs.Sets.{BlockSet}
use Rattle.text.specs.declared.Tally.{Tally}
use Rattle.sets.specs.declared.Step.{Step}
use Rattle.sets.specs.declared.Step.TheVariants.{NoRoom, Pending, Closed}
use Rattle.sets.specs.Assembling.{set_of}
use Rattle.meaning.specs.Lists.{field}
use Rattle.meaning.specs.Looks.{look_count}
use Rattle.meaning.specs.Blocks.{gsi_size, blocks}
use Rattle.meaning.specs.Gsi.{most_blocks, format_of}
use Rattle.meaning.specs.Walk.{steps, set_rule}
use Rattle.meaning.proofs.Logic.{by_le, by_test}
use Rattle.laws.proofs.Steps.{blocks-length}
use Rattle.output.specs.Output.{stored}
use Rattle.output.proofs.Laws.{length-stored}
use Rattle.words.specs.Flags.{flags_bytes, flags_over}
use Rattle.words.proofs.Laws.{flags_all}
use Rattle.closed.specs.Body.{Body, laid, lay_set}
use Rattle.checking.specs.declared.blocks.Pass.{Pass}
use Rattle.checking.specs.Passing.{Passing, outcome_of, passing_outcome, more, stepped, block_taken, pass_all}
use Rattle.checking.proofs.Stepping.{passes}
use Rattle.feeding.specs.Feeding.{with_walk, walked}
use Rattle.feeding.specs.Sound.{is_sound}
use Rattle.store.specs.declared.State.{State}
use Rattle.store.specs.Layout.{marks_at, gsi_at, text_at, store_size, marks_in, text_in}
use Rattle.store.specs.Numbers.{with_pass}
use Rattle.store.specs.Stores.{check_in}
use Rattle.store.specs.Tests.{is_sound_state}
use Rattle.store.proofs.Checks.{check_walk}
use Rattle.store.proofs.Sound.{sound_state}
use Rattle.streamed.proofs.Sound.{gsi_low, sound, facts, has_gsi, walked-sound}

-- the looks in use, as they are read
pub marks_read :
    (store : List ℕ) {on : List Bool} → length store ≡ store_size → on ≡ flags_over (field marks_at look_count store) (replicate look_count false) → on ≡ marks_in store
unfolding field
marks_read store l o =
    o
    ∙ flags_all (field marks_at look_count store) (replicate look_count false)
    (length-take-le look_count (drop marks_at store) (omega (arith, length-drop marks_at store)) ∙ sym (length-replicate look_count false))

-- over a buffer of no bytes none are laid
stored-none : (s : List ℕ) (at : ℕ) (xs : List ℕ) → s ≡ [] → stored s at xs ≡ []
stored-none s at xs e = nil_from_length (stored s at xs) (length-stored s at xs ∙ ap length e)

lay-none : (f : Format) (s : BlockSet) (b : Body) → b.out ≡ [] → (lay_set f s b).out ≡ []
unfolding lay_set laid
lay-none f s b e =
    by_test (is_comment s.first)
    (λ g. rw (g, lay_set) e)
    (λ g. rw (g, lay_set) (stored-none _ _ _ e))

stepped-none :
    (f : Format) (c : Counts) (text : List ℕ) (p : Passing) (s : Result Step Refusal) → p.body.out ≡ [] → (stepped f c text p s).body.out ≡ []
unfolding stepped
stepped-none f c text p (Err r) e = e
stepped-none f c text p (Ok NoRoom) e = e
stepped-none f c text p (Ok (Pending s)) e = e
stepped-none f c text p (Ok (Closed set s)) e =
    by_test (is_good (set_rule f (set_of set text)))
    (λ g. rw (g, stepped) (lay-none f (set_of set text) p.body e))
    (λ g. rw (g, stepped) e)

all-none : (f : Format) (place : ℕ) (p : Passing) (bs : List (List ℕ)) → p.body.out ≡ [] → (pass_all f place p bs).body.out ≡ []
unfolding pass_all block_taken
all-none f place p [] e = e
all-none f place p (b ∷ bs) e =
    by_test (is_good p.pass.refusal)
    (λ g. rw (g, pass_all) (all-none f (more place) (block_taken f place b p) bs (stepped-none f _ _ p _ e)))
    (λ g. rw (g, pass_all) e)

-- the store keeps its size where its text is changed in its place, and the looks in use are written
pub walk-size :
    (store : List ℕ) → length store ≡ store_size → (k : ℕ) → k ≡ length store - text_at → {store' : List ℕ} (text : List ℕ) (marks : List Bool)
    → store' ≡ stored (take text_at store ++ (text ++ drop k (drop text_at store))) marks_at (flags_bytes marks)
    → length text ≡ length (take k (drop text_at store)) → length store' ≡ store_size
walk-size store l k all text marks t n =
    let d = length-drop text_at store in
    let a : length (take text_at store) ≡ text_at = length-take-le text_at store (omega arith) in
    let b : length (take k (drop text_at store)) ≡ k = length-take-le k (drop text_at store) (omega arith) in
    ap length t ∙ length-stored _ marks_at (flags_bytes marks) ∙ simp length-append (omega (arith, a, b, d, n, length-drop k (drop text_at store)))

module _ (s : State) (store : List ℕ) (l : length store ≡ store_size) (h : is_sound_state s ≡ true) where
  abbrev start : Passing
  start = record { pass = s.pass; text = text_in store; body = record { out = []; marks = marks_in store; tally = s.tally } }

  module _ (f : Format) (bytes : List ℕ) (n : ℕ) {m : ℕ} (e : m ≡ min n (most_blocks - s.count)) where
    abbrev Right : Passing → Type 0
    Right q = passing_outcome q ≡ steps f (set_rule f) (lay_set f) s.count (check_in s store).outcome (blocks m bytes)

    -- more blocks than TNB can count are not walked over
    right-none : suc most_blocks ≤ s.count → Right (pass_all f s.count start (blocks m bytes))
    unfolding pass_all blocks steps check_in
    right-none p = let z : m ≡ 0 = omega arith in rw z refl

    right_some : s.count ≤ most_blocks → Right (pass_all f s.count start (blocks m bytes))
    unfolding check_in
    right_some p =
        let z : min s.count most_blocks ≡ s.count = omega arith in
        passes f (blocks m bytes) s.count start (omega (arith, blocks-length m bytes)) (omega (arith, blocks-length m bytes, length-drop text_at store))
        (rw z at (facts s store l h).within)

    pub walk-right : {q : Passing} → q ≡ pass_all f s.count start (blocks m bytes) → Right q
    walk-right d = rw d (by_le (suc most_blocks) s.count right-none (λ p. right_some (omega arith)))

  pub record Walked (t : State) (after : List ℕ) (n : ℕ) (bytes : List ℕ) : Type 0 where
    pub check : check_in t after ≡ walked (check_in s store) n bytes
    pub size : length after ≡ store_size
    pub sound : is_sound_state t ≡ true

  -- the whole function `walk`, by what its calls promise
  module _ (bytes : List ℕ) (n k : ℕ) (all : k ≡ length store - text_at) (whole : s.gsi ≡ gsi_size) {f : Format} (g : f ≡ format_of s.mode (field gsi_at gsi_size store)) {on : List Bool} (o : on ≡ marks_in store) where
    text-here : take k (drop text_at store) ≡ text_in store
    text-here = take_all k (drop text_at store) (omega (arith, length-drop text_at store))

    nothing_behind : drop k (drop text_at store) ≡ []
    nothing_behind = drop_of_length-le (drop text_at store) {i = k} (omega (arith, length-drop text_at store))

    abbrev from : Passing
    from = record { pass = s.pass; text = take k (drop text_at store); body = record { out = []; marks = on; tally = s.tally } }

    module _ {m : ℕ} {w : Pass} {text : List ℕ} {body : Body} (e : m ≡ min n (most_blocks - s.count)) (d : record { pass = w; text = text; body = body } ≡ pass_all f s.count from (blocks m bytes)) where
      out-none : body.out ≡ []
      out-none = ap (λ (p : Passing). p.body.out) d ∙ all-none f s.count from (blocks m bytes) refl

      told : outcome_of w text (record { out = []; marks = body.marks; tally = body.tally }) ≡ (walked (check_in s store) n bytes).outcome
      unfolding check_in
      told =
          let x = walk-right f bytes n e (rw (text-here, o) at d) in
          ap (λ (b : List ℕ). outcome_of w text (record { out = b; marks = body.marks; tally = body.tally })) (sym out-none) ∙ x ∙ rw (e, g, whole) refl

      -- what it leaves is the check after the blocks, and its numbers are sound
      pub walk_done :
          {count : ℕ} {tally : Tally} {store' : List ℕ} {marks : List Bool} → marks ≡ body.marks → length marks ≡ look_count
          → length text ≡ length (take k (drop text_at store))
          → store' ≡ stored (take text_at store ++ (text ++ drop k (drop text_at store))) marks_at (flags_bytes marks)
          → count ≡ min (s.count + n) (suc most_blocks) → tally ≡ body.tally
          → Walked (with_pass s count w tally) store' n bytes
      unfolding check_in
      walk_done {count} {tally} {store'} {marks} z y x t c a =
          let b : store' ≡ stored (take text_at store ++ text) marks_at (flags_bytes body.marks) = rw (nothing_behind, append-nil text, z) at t in
          let r : check_in (with_pass s count w tally) store' ≡ walked (check_in s store) n bytes =
          rw (c, a)
          (check_walk store l s (take text_at store ++ text) store' text body.marks (min (s.count + n) (suc most_blocks)) w body.tally (gsi_low s h) refl b (ap length (sym z) ∙ y)
          ∙ ap (with_walk (check_in s store) (min (s.count + n) (suc most_blocks))) told)
          in
          let v = walk-size store l k all text marks t x in
          record {
            check = r;
            size = v;
            sound = sym (sound_state store' v (with_pass s count w tally)) ∙ ap is_sound r ∙ walked-sound (check_in s store) n bytes (sound s store l h) (has_gsi s store l h ∙ whole);
          }
