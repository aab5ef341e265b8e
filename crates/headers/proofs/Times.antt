-- The rules 8 to 12 as results in turn. After the bytes of both times, TCO is compared with TCI without a further test.
-- Assumes nothing.
use Prim.Native.Nat.{ℕ}
use native.Mathlib.Omega.{arith}
use mathlib.Core.Path.{◌≡◌, refl, sym, ◌∙◌}
use mathlib.Core.Bool.{Bool, true, cond, not, ◌&&◌, ◌||◌}
use lib.Dec.{eqb, leb, ltb}
use Rattle.std.specs.Prelude.{Result, Ok, Err}
use Rattle.std.specs.Result.{result_and}
use Rattle.meaning.specs.declared.Refusal.{Refusal}
use Rattle.meaning.specs.declared.Time.{Time}
use Rattle.meaning.specs.declared.Header.{Header}
use Rattle.meaning.specs.declared.Format.{Format}
use Rattle.meaning.specs.Lists.{all}
use Rattle.meaning.specs.Refusals.{holds, first_broken, kept, verdict}
use Rattle.meaning.specs.Blocks.{cf_at, sn_at, cs_at, tci_at, tco_at, vp_at, jc_at, time_rules, time_in_range, in_frames, times_rules, on_screen, is_comment, subtitle_rules, first_block_rules}
use Rattle.meaning.proofs.Logic.{by_test}
use Rattle.meaning.proofs.RefusalLaws.{time_numbered, times_numbered, verdict_none, verdict_one, verdict_cons, verdict_append, verdict_holds}

-- where a time stands makes no difference to its range
range_at : (rate at : ℕ) (t : Time) → all holds (time_rules rate at t) ≡ time_in_range rate t
unfolding time_in_range time_rules all
range_at rate at t = refl

-- two results and a test that stands behind both of them
after_both :
    (a b : Result Unit Refusal) (place n o : ℕ) (p q later : Bool) → (a ≡ Ok tt → p ≡ true) → (b ≡ Ok tt → q ≡ true)
    → result_and a (result_and b (kept (not (p && q) || later) n place o)) ≡ result_and a (result_and b (kept later n place o))
after_both (Err e) b place n o p q later f g = refl
after_both (Ok x) (Err e) place n o p q later f g = refl
after_both (Ok x) (Ok y) place n o p q later f g = rw (f refl, g refl)

pub times_verdict :
    (place rate : ℕ) (start stop : Time)
    → verdict (first_broken place (times_rules rate start stop))
    ≡ result_and (verdict (first_broken place (time_rules rate tci_at start)))
    (result_and (verdict (first_broken place (time_rules rate tco_at stop)))
    (kept (ltb (in_frames rate start) (in_frames rate stop)) 11 place tco_at))
unfolding times_rules
times_verdict place rate start stop =
    rw (
      verdict_append place (time_rules rate tci_at start) _ (time_numbered rate tci_at start),
      verdict_append place (time_rules rate tco_at stop) _ (time_numbered rate tco_at stop),
      verdict_one place 11 tco_at _ (omega arith),
    )
    (after_both _ _ place 11 tco_at _ _ _
    (λ e. sym (range_at rate tci_at start) ∙ verdict_holds place _ (time_numbered rate tci_at start) e)
    (λ e. sym (range_at rate tco_at stop) ∙ verdict_holds place _ (time_numbered rate tco_at stop) e))

pub subtitle_verdict :
    (place : ℕ) (f : Format) (h : Header)
    → verdict (first_broken place (subtitle_rules f h))
    ≡ result_and (kept (eqb h.cs 0) 10 place cs_at)
    (result_and (verdict (first_broken place (times_rules f.rate h.tci h.tco)))
    (result_and (kept (on_screen f.screen h.vp) 12 place vp_at) (kept (leb h.jc 3) 12 place jc_at)))
unfolding subtitle_rules
subtitle_verdict place f h =
    rw (
      verdict_cons place 10 cs_at (eqb h.cs 0) _ (omega arith),
      verdict_append place (times_rules f.rate h.tci h.tco) _ (times_numbered f.rate h.tci h.tco),
      verdict_cons place 12 vp_at (on_screen f.screen h.vp) _ (omega arith),
      verdict_one place 12 jc_at (leb h.jc 3) (omega arith),
    )

pub first_block_verdict :
    (place : ℕ) (f : Format) (least : ℕ) (h : Header)
    → verdict (first_broken place (first_block_rules f least h))
    ≡ result_and (kept (leb h.cf 1) 8 place cf_at)
    (result_and (kept (leb least h.sn) 9 place sn_at)
    (cond (is_comment h) (Ok tt) (verdict (first_broken place (subtitle_rules f h)))))
unfolding first_block_rules
first_block_verdict place f least h =
    rw (
      verdict_cons place 8 cf_at (leb h.cf 1) _ (omega arith),
      verdict_cons place 9 sn_at (leb least h.sn) _ (omega arith),
    )
    (by_test (is_comment h) (λ e. rw (e, verdict_none place)) (λ e. rw e))
