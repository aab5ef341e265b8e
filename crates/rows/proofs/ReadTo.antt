-- A loop over what is met in a text, seen from the position that it has come to.
-- Assumes nothing.
use Prim.Native.Nat.{ℕ, ◌≤◌, ◌<◌}
use mathlib.Core.Path.{◌≡◌, refl, sym, ap, ◌∙◌}
use mathlib.Core.List.{List, [], ◌∷◌}
use lib.ListN.{length}
use Rattle.charset.specs.declared.Reading.{Reading}
use Rattle.charset.specs.declared.Readings.{Readings}
use Rattle.charset.specs.declared.Runs.{Runs}
use Rattle.meaning.specs.Codes.{is_row_end}
use Rattle.meaning.proofs.Logic.{by_test}
use Rattle.charset.specs.Reading.{reading_at, token_at, next_at, readings_from, run_end, runs_from}
use Rattle.charset.specs.Readings.{readings_left}
use Rattle.charset.specs.Runs.{runs_left}
use Rattle.charset.proofs.Positions.{Met, first-met, none-met, readings-met, runs-met}
use Rattle.charset.proofs.Laws.{ReadOn, read-on, TurnOn, turn_on, no_run}

-- what is known at the position, and what is left from there on
pub record MetTo {A : Type 0} (from : List ℕ → ℕ → List A) (Known : ℕ → Type 0) (s : List ℕ) (left : List A) : Type 0 where
  pub at : ℕ
  pub items : left ≡ from s at
  pub known : Known at

module _ {A : Type 0} {from : List ℕ → ℕ → List A} {Known : ℕ → Type 0} {s : List ℕ} where
  -- of an iterator of which `left_of` is left
  met-start : {I : Type 0} (left_of : I → List A) (start : ℕ) {iterator items : I} → iterator ≡ items → left_of items ≡ from s start → Known start
      → MetTo from Known s (left_of iterator)
  met-start left_of start e f k = record { at = start; items = ap left_of e ∙ f; known = k }

  module _ {item : ℕ → A} {end : A → ℕ} (m : Met (from s) item end (length s)) {left : List A} (l : MetTo from Known s left) where
    module _ {x : A} {xs : List A} (e : left ≡ x ∷ xs) where
      first : (x ≡ item l.at) × (l.at < length s) × (xs ≡ from s (end x))
      first = first-met m l.at (sym l.items ∙ e)

      met-turn : {P : Type 0} → ((at : ℕ) → Known at → x ≡ item at → at < length s → P) → P
      met-turn h = h l.at l.known first.0 first.1

      met-next : {After : ℕ → Type 0} → ((at : ℕ) → Known at → x ≡ item at → at < length s → After (end x)) → MetTo from After s xs
      met-next h = record { at = end x; items = first.2; known = met-turn h }

    met-all : left ≡ [] → {P : Type 0} → ((at : ℕ) → Known at → length s ≤ at → P) → P
    met-all e h = h l.at l.known (none-met m l.at (sym l.items ∙ e))

-- a loop over the readings of a text
abbrev pub ReadTo : (ℕ → Type 0) → List ℕ → List (ℕ × Reading) → Type 0
ReadTo Known s left = MetTo readings_from Known s left

pub read-start :
    (start : ℕ) {Known : ℕ → Type 0} {s : List ℕ} {iterator items : Readings} → iterator ≡ items → readings_left items ≡ readings_from s start → Known start
    → ReadTo Known s (readings_left iterator)
read-start start e f k = met-start readings_left start e f k

module _ {Known : ℕ → Type 0} {s : List ℕ} {left : List (ℕ × Reading)} (l : ReadTo Known s left) where
  module _ {x : ℕ × Reading} {xs : List (ℕ × Reading)} (e : left ≡ x ∷ xs) where
    -- what a turn tells where the loop ends in it
    pub read_turn : {P : Type 0} → ((at : ℕ) → x.0 ≡ at → Known at → ReadOn s at x.1 → P) → P
    read_turn h = met-turn (readings-met s) l e (λ at k p w. h at (ap (λ (y : ℕ × Reading). y.0) p) k (read-on (ap (λ (y : ℕ × Reading). y.1) p) w))

    -- and where it goes on
    pub read-next : {After : ℕ → Type 0} → ((at : ℕ) → x.0 ≡ at → Known at → ReadOn s at x.1 → After x.1.next) → ReadTo After s xs
    read-next h = met-next (readings-met s) l e (λ at k p w. h at (ap (λ (y : ℕ × Reading). y.0) p) k (read-on (ap (λ (y : ℕ × Reading). y.1) p) w))

  -- what is known after the last
  pub read_all : left ≡ [] → {P : Type 0} → ((at : ℕ) → Known at → length s ≤ at → P) → P
  read_all e h = met-all (readings-met s) l e h

-- a loop over the readings with the runs after them
abbrev pub RunTo : (ℕ → Type 0) → List ℕ → List (Reading × ℕ) → Type 0
RunTo Known s left = MetTo runs_from Known s left

pub run-start :
    (start : ℕ) {Known : ℕ → Type 0} {s : List ℕ} {iterator items : Runs} → iterator ≡ items → runs_left items ≡ runs_from s start → Known start
    → RunTo Known s (runs_left iterator)
run-start start e f k = met-start runs_left start e f k

turn-of : {s : List ℕ} {i : ℕ} {x : Reading × ℕ} → x ≡ (reading_at s i, run_end s (reading_at s i)) → i < length s → TurnOn s i x.0 x.1
unfolding run_end
turn-of {s} {i} p h =
    rw p
    (by_test (is_row_end (token_at s i))
    (λ e. let o = read-on refl h in rw e (record { read = o; run = no_run s (next_at s i) o.within }))
    (λ e. rw e (turn_on refl h refl)))

module _ {Known : ℕ → Type 0} {s : List ℕ} {left : List (Reading × ℕ)} (l : RunTo Known s left) where
  module _ {x : Reading × ℕ} {xs : List (Reading × ℕ)} (e : left ≡ x ∷ xs) where
    pub run_turn : {P : Type 0} → ((at : ℕ) → Known at → TurnOn s at x.0 x.1 → P) → P
    run_turn h = met-turn (runs-met s) l e (λ at k p w. h at k (turn-of p w))

    pub run-next : {After : ℕ → Type 0} → ((at : ℕ) → Known at → TurnOn s at x.0 x.1 → After x.1) → RunTo After s xs
    run-next h = met-next (runs-met s) l e (λ at k p w. h at k (turn-of p w))

  pub run_all : left ≡ [] → {P : Type 0} → ((at : ℕ) → Known at → length s ≤ at → P) → P
  run_all e h = met-all (runs-met s) l e h
