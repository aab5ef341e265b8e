-- The answer of a check, by what its calls promise.
-- Assumes nothing.
use Prim.Native.Nat.{ℕ}
use mathlib.Core.Path.{◌≡◌, refl, sym, ap, ◌∙◌}
use mathlib.Core.Bool.{Bool, true, false, ◌&&◌}
use mathlib.Core.List.{List, []}
use lib.Dec.{leb, eqb}
use lib.ListN.{length}
use Rattle.std.specs.Prelude.{Result, Ok, Err}
use Rattle.meaning.specs.declared.Answer.{Answer}
use Rattle.meaning.specs.declared.Format.{Format}
use Rattle.meaning.specs.declared.Refusal.{Refusal}
use Rattle.meaning.specs.Refusals.{is_good, first_broken, verdict}
use Rattle.meaning.specs.Lists.{field}
use Rattle.meaning.specs.Blocks.{gsi_size}
use Rattle.meaning.specs.Gsi.{format_of, gsi_rules}
use Rattle.meaning.specs.Walk.{finish}
use Rattle.meaning.specs.Conversion.{refused_answer}
use Rattle.meaning.proofs.Logic.{by_test}
use Rattle.checking.specs.declared.Checked.{Checked}
use Rattle.checking.specs.Passing.{outcome_of, checked_of}
use Rattle.convert.specs.Telling.{answer_of}
use Rattle.lumps.specs.Lumps.{rule_now, answer_now}
use Rattle.store.specs.declared.State.{State}
use Rattle.store.specs.Layout.{gsi_at, store_size, marks_in, text_in}
use Rattle.store.specs.Stores.{check_in}
use Rattle.store.specs.Tests.{is_sound_state}
use Rattle.streamed.proofs.Sound.{has_gsi, has_part}

module _ (s : State) (store : List ℕ) (l : length store ≡ store_size) (h : is_sound_state s ≡ true) {gsi : List ℕ} {whole : Bool} (g : gsi ≡ field gsi_at s.gsi store) (w : whole ≡ (leb gsi_size s.gsi && eqb s.part 0)) where
  rule-here : first_broken 0 (gsi_rules s.mode 0 whole s.count gsi) ≡ rule_now (check_in s store)
  unfolding rule_now check_in
  rule-here = rw (g, w, has_gsi s store l h, has_part s store l h) refl

  abbrev good_here : Bool
  good_here = is_good (first_broken 0 (gsi_rules s.mode 0 whole s.count gsi))

  -- what was told of the rules 1 to 6, and of the walk where they hold
  module _ {v : Result Unit Refusal} (e : v ≡ verdict (first_broken 0 (gsi_rules s.mode 0 whole s.count gsi))) {a : Answer} where
    pub answered-broken : {r : Refusal} → v ≡ Err r → a ≡ refused_answer r 0 → a ≡ answer_now (check_in s store)
    unfolding verdict answer_now
    answered-broken {r} z d =
        by_test good_here
        (λ y. let x = rw (y, verdict) at e in cc)
        (λ y.
        let x = rw (y, verdict) at e in
        let b : is_good (rule_now (check_in s store)) ≡ false = ap is_good (sym rule-here) ∙ y in
        let p : r ≡ first_broken 0 (gsi_rules s.mode 0 whole s.count gsi) = cc in
        let q : r ≡ rule_now (check_in s store) = p ∙ rule-here in
        d ∙ rw (b, answer_now) (ap (λ (n : Refusal). refused_answer n 0) q))

    pub answered-walked :
        {f : Format} {c : Result Checked Refusal} → v ≡ Ok tt → f ≡ format_of s.mode gsi
        → c ≡ checked_of (finish s.count (outcome_of s.pass (text_in store) (record { out = []; marks = marks_in store; tally = s.tally })))
        → a ≡ answer_of f s.room c → a ≡ answer_now (check_in s store)
    unfolding verdict answer_now check_in
    answered-walked z k o d =
        by_test good_here
        (λ y. let b : is_good (rule_now (check_in s store)) ≡ true = ap is_good (sym rule-here) ∙ y in d ∙ rw (b, answer_now, k, g, o) refl)
        (λ y. let x = rw (y, verdict) at e in cc)
