-- The rules 1 to 6 as results in turn.
-- Assumes nothing.
use Prim.Native.Nat.{ℕ}
use native.Mathlib.Omega.{arith}
use mathlib.Core.Path.{◌≡◌}
use mathlib.Core.Bool.{Bool, ◌&&◌, ◌||◌}
use mathlib.Core.List.{List}
use lib.Dec.{eqb, leb}
use Rattle.std.specs.Result.{result_and}
use Rattle.meaning.specs.Lists.{all, field, same, bytes}
use Rattle.meaning.specs.Refusals.{first_broken, kept, verdict}
use Rattle.meaning.specs.Gsi.{dfc_at, dsc_at, cct_at, tnb_at, mnr_at, rate_of, is_rate, is_digit, tnb_field, tnb, mnr, dsc, is_teletext, gsi_rules}
use Rattle.meaning.proofs.RefusalLaws.{verdict_cons, verdict_one}

pub gsi_verdict :
    (mode end : ℕ) (whole : Bool) (count : ℕ) (gsi : List ℕ)
    → verdict (first_broken 0 (gsi_rules mode end whole count gsi))
    ≡ result_and (kept (eqb mode 1 || eqb mode 2) 1 0 end)
    (result_and (kept whole 2 0 end)
    (result_and (kept (is_rate (rate_of gsi)) 3 0 dfc_at)
    (result_and (kept (is_teletext gsi || eqb (dsc gsi) 48) 4 0 dsc_at)
    (result_and (kept (same (field cct_at 2 gsi) (bytes "00")) 5 0 cct_at)
    (result_and (kept (all is_digit (tnb_field gsi) && eqb (tnb gsi) count) 6 0 tnb_at)
    (kept (is_teletext gsi || leb 1 (mnr gsi)) 6 0 mnr_at))))))
gsi_verdict mode end whole count gsi =
    rw (
      verdict_cons 0 1 end _ _ (omega arith),
      verdict_cons 0 2 end _ _ (omega arith),
      verdict_cons 0 3 dfc_at _ _ (omega arith),
      verdict_cons 0 4 dsc_at _ _ (omega arith),
      verdict_cons 0 5 cct_at _ _ (omega arith),
      verdict_cons 0 6 tnb_at _ _ (omega arith),
      verdict_one 0 6 mnr_at _ (omega arith),
    )
