-- The facts of a text's rows are those that the rules 13 to 15 ask for.
-- Assumes nothing.
use Prim.Native.Nat.{ℕ, ◌+◌, ◌<◌, min}
use native.Mathlib.Omega.{arith}
use mathlib.Core.Path.{◌≡◌, refl, sym, ap, ◌∙◌}
use mathlib.Core.Bool.{Bool, false, not, ◌&&◌, ◌||◌}
use mathlib.Core.List.{List, tail}
use lib.Dec.{leb, eqb}
use lib.ListN.{length, drop}
use Rattle.meaning.specs.declared.Token.{Token}
use Rattle.meaning.specs.declared.Format.{Format}
use Rattle.meaning.specs.Lists.{all, any, keep}
use Rattle.meaning.specs.Codes.{tokens, is_listed, takes_cell, is_double_height}
use Rattle.meaning.specs.Rows.{is_double, breaks_paired, even_from, heights_right, lines_of, row_count, row_limit, is_short, rows_fit, first_row, rows_of}
use Rattle.meaning.specs.Refusals.{first_broken, no_refusal}
use Rattle.meaning.specs.TextRules.{text_rules, text_rule}
use Rattle.meaning.proofs.Logic.{by_test, same_leb}
use Rattle.meaning.proofs.ListLaws.{any-cons}
use Rattle.meaning.proofs.RowLaws.{rows-tested}
use Rattle.rows.specs.declared.RowFacts.{RowFacts}
use Rattle.rows.specs.declared.RowScan.{RowScan}
use Rattle.rows.specs.declared.TextFacts.{TextFacts}
use Rattle.rows.specs.declared.TextScan.{TextScan}
use Rattle.rows.proofs.FirstRow.{rows_after}
use Rattle.rows.specs.Scanning.{count_limit, facts_of_row, with_end, facts_of_rows, number_of, first_failed, rule_of}
use Rattle.rows.specs.Scanned.{Scanned, row_at, TextScanned}
use Rattle.rows.proofs.Laws.{rows-first}
use Rattle.rows.proofs.Gathered.{capped}

-- a row end is listed, so a text is listed if its rows are
rows_listed : (teletext paired : Bool) (ts : List Token) → all (all (is_listed teletext)) (rows_of paired ts) ≡ all (is_listed teletext) ts
rows_listed teletext = rows-tested (is_listed teletext) (unfold is_listed in refl)

-- a 0Dh in a later row, where none stands in the first
later-height :
    (paired : Bool) (ts : List Token)
    → (is_double ts || not (any (any is_double_height) (tail (rows_of paired ts)))) ≡ (is_double ts || not (any (any is_double_height) (rows_of paired ts)))
later-height paired ts =
    by_test (is_double ts)
    (λ e. rw e)
    (λ e.
    rw (e, rows-first paired ts)
    (ap not (rw e at (sym (any-cons (any is_double_height) (first_row ts) (rows_after paired ts))))))

-- the lines covered, with the rows counted up to a limit
lines_capped : (end vp : ℕ) → end < count_limit → (double : Bool) (n : ℕ) → leb (vp + (lines_of double (record { 0 = min n count_limit })).0) end ≡ leb (vp + (lines_of double (record { 0 = n })).0) end
unfolding lines_of
lines_capped end vp h double n =
    by_test double
    (λ e. rw e (same_leb _ end _ end (λ k. omega arith) (λ k. omega arith)))
    (λ e. rw e (same_leb _ end _ end (λ k. omega arith) (λ k. omega arith)))

-- the number of the rule that a text breaks, by the tests
rule-number :
    (f : Format) (place vp : ℕ) (s : List ℕ)
    → (text_rule f place vp s).number ≡ number_of (first_failed (all (is_listed f.teletext) (tokens s)) (heights_right f.mode (tokens s)) (rows_fit f vp (tokens s)))
unfolding text_rule text_rules first_broken no_refusal number_of first_failed
rule-number f place vp s =
    by_test (all (is_listed f.teletext) (tokens s))
    (λ a.
    by_test (heights_right f.mode (tokens s))
    (λ b. by_test (rows_fit f vp (tokens s)) (λ e. rw (a, b, e)) (λ e. rw (a, b, e)))
    (λ b. rw (a, b)))
    (λ a. rw a)

module _ (f : Format) (vp : ℕ) (low : f.screen.end < count_limit) (ts : List Token) where
  abbrev facts : TextFacts
  facts = facts_of_rows f.teletext (rows_of (breaks_paired f.mode ts) ts)

  right_14 :
      (facts.ordered && (is_double ts || not facts.height) && (not (breaks_paired f.mode ts) || even_from false ts)) ≡ heights_right f.mode ts
  unfolding facts_of_rows heights_right
  right_14 = rw (later-height (breaks_paired f.mode ts) ts)

  right_15 : (facts.short && leb (vp + (lines_of (is_double ts) (record { 0 = facts.rows })).0) f.screen.end) ≡ rows_fit f vp ts
  unfolding facts_of_rows rows_fit row_count
  right_15 = rw (lines_capped f.screen.end vp low (is_double ts) (length (rows_of (breaks_paired f.mode ts) ts)))

  rule-right :
      rule_of facts (is_double ts) (not (breaks_paired f.mode ts) || even_from false ts) f vp
      ≡ first_failed (all (is_listed f.teletext) ts) (heights_right f.mode ts) (rows_fit f vp ts)
  unfolding facts_of_rows rule_of
  rule-right = rw (rows_listed f.teletext (breaks_paired f.mode ts) ts, right_14, right_15)

pub double_scanned : {teletext : Bool} {s : List ℕ} {first : RowScan} → Scanned teletext s 0 first → first.facts.height ≡ is_double (tokens s)
unfolding facts_of_row
double_scanned k = ap (λ (f : RowFacts). f.height) k.facts

-- the row that a scan tells of
pub row_scanned :
    {teletext : Bool} {s : List ℕ} {start : ℕ} {r : RowScan} → Scanned teletext s start r
    → with_end r.facts r.after ≡ row_at s start
unfolding row_at facts_of_row is_short
row_scanned {s = s} {start} k =
    rw (k.facts, k.after, capped count_limit (length (keep takes_cell (first_row (tokens (drop start s))))) row_limit (omega arith))

-- what the two scans tell is the rule
pub rule_scanned :
    {s : List ℕ} (f : Format) (vp : ℕ) {first : RowScan} {scan : TextScan} → f.screen.end < count_limit → Scanned f.teletext s 0 first
    → TextScanned f.teletext s (eqb f.mode 2 && first.facts.height) scan
    → number_of (rule_of scan.facts first.facts.height scan.even f vp) ≡ (text_rule f 0 vp s).number
unfolding breaks_paired
rule_scanned {s} f vp {first} {scan} h k t =
    let d = double_scanned k in
    let u : TextScanned f.teletext s (eqb f.mode 2 && is_double (tokens s)) scan = rw d at t in
    rw (d, u.even, u.facts) (ap number_of (rule-right f vp h (tokens s))) ∙ sym (rule-number f 0 vp s)
