-- The loop over the rows after the first, seen from the rows that are left.
-- Assumes nothing.
use Prim.Native.Nat.{ℕ, suc, ◌-◌, ◌≤◌, ◌<◌}
use native.Mathlib.Omega.{arith}
use mathlib.Core.Path.{◌≡◌, refl, sym, ap, ◌∙◌}
use mathlib.Core.Bool.{Bool, true, false, not, ◌&&◌, ◌||◌, and-true, and_assoc, or-true}
use mathlib.Core.List.{List, [], ◌∷◌, ◌++◌, append-nil}
use lib.ListN.{length, drop}
use Rattle.std.specs.Prelude.{Option, Some, None}
use lib.Seq.{append_snoc}
use Rattle.meaning.specs.declared.Token.{Token}
use Rattle.meaning.specs.Codes.{tokens, is_row_end}
use Rattle.meaning.specs.Lists.{all, any}
use Rattle.meaning.specs.Rows.{even_from, first_row, rows_of}
use Rattle.rows.specs.declared.RowScan.{RowScan}
use Rattle.rows.specs.declared.TextFacts.{TextFacts}
use Rattle.charset.specs.Reading.{token_at}
use Rattle.rows.proofs.FirstRow.{next_rows, rows_after}
use Rattle.rows.specs.Scanning.{facts_of_rows, with_row}
use Rattle.rows.specs.Scanned.{next_row_at, row_end_after, Scanned, TextScanned}
use Rattle.rows.proofs.Laws.{rows-first, rows-after, no_rows_after, even-ended, even_open}
use Rattle.rows.proofs.Gathered.{with_row_lem}
use Rattle.rows.proofs.RowEnds.{EndedAt, ended_at, not_ended, end-first, next-rows}

-- the row read last starts at `start`; `past` are the rows up to that one, the rows after it are still to come
pub record TextLeft (teletext : Bool) (s : List ℕ) (paired : Bool) (a : TextFacts) (even : Bool) (after : Option ℕ) : Type 0 where
  pub start : ℕ
  pub end : after ≡ row_end_after s start
  pub past : List (List Token)
  pub facts : a ≡ facts_of_rows teletext past
  pub rows : past ++ rows_after paired (tokens (drop start s)) ≡ rows_of paired (tokens s)
  pub evens : (even && (not paired || even_from false (tokens (drop start s)))) ≡ (not paired || even_from false (tokens s))

pub left-first :
    {teletext : Bool} {s : List ℕ} (paired : Bool) {r : RowScan} {a : TextFacts} → Scanned teletext s 0 r
    → a ≡ with_row (record { listed = true; height = false; ordered = true; short = true; rows = 0 }) r.facts
    → TextLeft teletext s paired a true r.after
unfolding facts_of_rows all any
left-first {teletext} {s} paired {r} k e =
    record {
      start = 0;
      end = k.after;
      past = first_row (tokens s) ∷ [];
      facts = rw (e, k.facts) (sym (with_row_lem teletext [] (first_row (tokens s))));
      rows = sym (rows-first paired (tokens s));
      evens = refl;
    }

-- where row ends are not paired, it does not count whether their runs are even
both-even : (paired a b d : Bool) → (paired ≡ true → d ≡ (a && b)) → (not paired || d) ≡ ((not paired || a) && (not paired || b))
both-even true a b d h = h refl
both-even false a b d h = refl

module _ {teletext : Bool} {s : List ℕ} {paired : Bool} {a : TextFacts} {even : Bool} {after : Option ℕ} (l : TextLeft teletext s paired a even after) where
  module _ {next : ℕ} (m : after ≡ Some next) {start : ℕ} {whole : Bool} (f : start ≡ next_row_at s paired next) (g : whole ≡ (not paired || is_row_end (token_at s next))) where
    ended : EndedAt s l.start next
    ended = ended_at s l.start l.end m

    here : tokens (drop start s) ≡ next_rows paired (tokens (drop l.start s))
    here = next-rows s paired next (tokens (drop l.start s)) f ended.rest

    even-next :
        (ts : List Token) → ts ≡ next_rows paired (tokens (drop l.start s))
        → ((even && whole) && (not paired || even_from false ts)) ≡ (not paired || even_from false (tokens s))
    unfolding next_rows
    even-next ts q =
        and_assoc even whole (not paired || even_from false ts)
        ∙ ap (λ (b : Bool). even && b)
        (rw (g, end-first s next)
        (sym (both-even paired _ _ _ (λ p. rw (ended.rest, q, p) (even-ended (tokens (drop l.start s)) ended.ended)))))
        ∙ l.evens

    pub left-next : {r : RowScan} {b : TextFacts} → Scanned teletext s start r → b ≡ with_row a r.facts → TextLeft teletext s paired b (even && whole) r.after
    left-next k e =
        let ts = tokens (drop start s) in
        record {
          start = start;
          end = k.after;
          past = l.past ++ (first_row ts ∷ []);
          facts = rw (e, l.facts, k.facts) (sym (with_row_lem teletext l.past (first_row ts)));
          rows =
              append_snoc l.past (first_row ts) (rows_after paired ts)
              ∙ ap (λ (rs : List (List Token)). l.past ++ rs) (sym (rows-first paired ts) ∙ ap (rows_of paired) here ∙ sym (rows-after paired (tokens (drop l.start s)) ended.ended))
              ∙ l.rows;
          evens = even-next ts here;
        }

  pub left-last : after ≡ None → TextScanned teletext s paired (record { facts = a; even = even })
  left-last m =
      let o = not_ended s l.start l.end m in
      record {
        facts = l.facts ∙ ap (facts_of_rows teletext) (sym (append-nil l.past) ∙ rw (no_rows_after paired (tokens (drop l.start s)) o) at l.rows);
        even = sym (and-true even) ∙ rw (even_open (tokens (drop l.start s)) o, or-true (not paired)) at l.evens;
      }

-- what is left of a text after a row; it falls: another row was read, or there is none
abbrev pub rest_of : ℕ → Option ℕ → ℕ
rest_of size None = 0
rest_of size (Some next) = suc (size - next)

pub rest_falls : (s : List ℕ) (start next : ℕ) (r : Option ℕ) → r ≡ row_end_after s start → next ≤ start → rest_of (length s) r < suc (length s - next)
rest_falls s start next None e h = omega arith
rest_falls s start next (Some n) e h = let w = ended_at s start e refl in omega (arith, w.on, w.within)
