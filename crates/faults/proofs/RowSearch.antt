-- The search for the first row of a text that breaks rule 15.
-- Assumes nothing.
use Prim.Native.Nat.{ℕ, suc, ◌+◌, ◌-◌, ◌≤◌, ◌<◌}
use native.Mathlib.Omega.{arith}
use mathlib.Core.Path.{◌≡◌, refl, sym, ap, subst, ◌∙◌}
use mathlib.Core.Bool.{Bool, true, false, not, ◌&&◌, ◌||◌}
use mathlib.Core.List.{List, [], ◌∷◌, tail}
use lib.Dec.{ltb}
use lib.ListN.{length, get_or, take, drop}
use borrow.Author.Tests.{ltb-false}
use Rattle.std.specs.Prelude.{Option, Some, None}
use Rattle.std.specs.declared.iter.Enumerate.{Enumerate}
use Rattle.meaning.specs.declared.Token.{Token}
use Rattle.meaning.specs.declared.Rows.{Rows}
use Rattle.meaning.specs.declared.Format.{Format}
use Rattle.meaning.specs.Codes.{tokens, is_double_height}
use Rattle.meaning.specs.Lists.{all, any}
use Rattle.meaning.specs.Rows.{first_row, is_double, is_paired, breaks_paired, rows, rows_of, height_first, even_from, heights_right, lines_of, row_count}
use Rattle.meaning.specs.TextRules.{before_fault, end_first, breaks_rows, break_size, tokens_in, tokens_before, bytes_before, row_fault}
use Rattle.std.proofs.lemmas.Bool.{and_parts, or_parts}
use Rattle.meaning.proofs.TextPlaces.{bytes-add}
use Rattle.rows.specs.declared.Row.{Row}
use Rattle.rows.specs.declared.RowPlaces.{RowPlaces}
use Rattle.rows.specs.Places.{start_after, row_places}
use Rattle.rows.specs.PlacesLeft.{places_left}
use Rattle.rows.proofs.Placed.{FirstPlace, first-place, start-next, start-none, no_place}
use Rattle.rows.specs.Scanned.{is_ended, row_at, next_row_at, row_end_after}
use Rattle.rows.proofs.FirstRow.{rows_after}
use Rattle.rows.proofs.Laws.{rows-first, rows-after, no_rows_after}
use Rattle.rows.proofs.RowEnds.{EndedAt, ended_at, not_ended, open-end, start-within, next-rows}
use Rattle.faults.specs.Searching.{row_name}
use Rattle.faults.proofs.Passing.{Passed, passed_start, passed-found, passed-more, passed-end}
use Rattle.faults.proofs.RowBytes.{row-bytes}
use Rattle.faults.proofs.RowPlaces.{at_place, from_next, tokens-next, break_passed, even-next}

-- as `lines_least` of laws, which this crate does not use
lines_ge : (double : Bool) (n : Rows) → n.0 ≤ (lines_of double n).0
unfolding lines_of
lines_ge true n = omega arith
lines_ge false n = omega arith

-- the tokens of the rows before place n
abbrev tokens_to : Bool → List ℕ → ℕ → ℕ
tokens_to paired s n = tokens_in paired (take n (rows_of paired (tokens s)))

-- The rows before the one that starts at a position, the `count`th, keep rule 15. `place` tells that row by its first byte, and `gap` by
-- the break before it.
pub record RowsLeft (f : Format) (vp : ℕ) (double paired : Bool) (s : List ℕ) (start count : ℕ) : Type 0 where
  pub past : List (List Token)
  pub number : count ≡ suc (length past)
  pub passed : Passed (breaks_rows f vp double) (rows_of paired (tokens s)) past (rows_of paired (tokens (drop start s)))
  pub rest : drop (length past) (rows_of paired (tokens s)) ≡ rows_of paired (tokens (drop start s))
  pub place : start ≡ bytes_before (tokens_to paired s (length past)) s
  pub gap : start - break_size paired ≡ bytes_before (tokens_to paired s (length past) - break_size paired) s
  pub even : (not paired || even_from false (tokens (drop start s))) ≡ true
  pub within : start ≤ length s

-- where the search ends
abbrev pub row_fault_of : Format → ℕ → Bool → Bool → List ℕ → ℕ
row_fault_of f vp double paired s =
    let rs = rows_of paired (tokens s) in
    let n = before_fault (breaks_rows f vp double) [] rs in
    bytes_before (tokens_before paired (take n rs) (get_or rs n [])) s

pub rows_start :
    (f : Format) (vp : ℕ) (double paired : Bool) (s : List ℕ) → (not paired || even_from false (tokens s)) ≡ true → RowsLeft f vp double paired s 0 1
unfolding tokens_in bytes_before
rows_start f vp double paired s e =
    let z : 0 - break_size paired ≡ 0 = omega arith in
    record { past = []; number = refl; passed = passed_start; rest = refl; place = refl; gap = rw z; even = e; within = omega arith }

module _ {f : Format} {vp : ℕ} {double paired : Bool} {s : List ℕ} {start count : ℕ} (l : RowsLeft f vp double paired s start count) where
  abbrev us : List Token
  us = tokens (drop start s)

  abbrev done : ℕ
  done = length l.past

  here : drop done (rows_of paired (tokens s)) ≡ first_row us ∷ rows_after paired us
  here = l.rest ∙ rows-first paired us

  named : (r : List Token) → row_name paired start r ≡ bytes_before (tokens_before paired (take done (rows_of paired (tokens s))) r) s
  unfolding row_name tokens_before
  named [] = l.gap
  named (t ∷ ts) = l.place

  module _ {row : Row} {broken : Bool} (q : row ≡ row_at s start) (b : broken ≡ (not row.short || ltb f.screen.end (vp + (lines_of double (record { 0 = count })).0))) where
    tested : broken ≡ breaks_rows f vp double l.past (first_row us) (rows_after paired us)
    unfolding breaks_rows row_count row_at
    tested = rw (b, q, l.number)

    pub rows-found : {n : ℕ} → broken ≡ true → n ≡ row_name paired start (first_row us) → n ≡ row_fault_of f vp double paired s
    rows-found e g =
        let k = passed-found l.passed (rows-first paired us) (sym tested ∙ e) in
        rw (← k, at_place done _ here) (g ∙ named (first_row us))

    row-after : row.after ≡ row_end_after s start
    unfolding row_at
    row-after = ap (λ (r : Row). r.after) q

    -- the tokens and the bytes up to m tokens of this row
    to_next : tokens_to paired s (suc done) ≡ tokens_to paired s done + (length (first_row us) + break_size paired)
    to_next = tokens-next paired done _ (first_row us) (rows_after paired us) here

    bytes_to : (m : ℕ) → bytes_before (tokens_to paired s done + m) s ≡ start + bytes_before m (drop start s)
    bytes_to m = bytes-add (tokens_to paired s done) m s ∙ ap (λ (n : ℕ). n + bytes_before m (drop n s)) (sym l.place)

    module _ (e : broken ≡ false) where
      row-passed : Passed (breaks_rows f vp double) (rows_of paired (tokens s)) (first_row us ∷ l.past) (rows_after paired us)
      row-passed = passed-more l.passed (rows-first paired us) (sym tested ∙ e)

      -- the last row
      pub rows_last : row.after ≡ None → length s ≡ row_fault_of f vp double paired s
      unfolding tokens_before
      rows_last g =
          let z = not_ended s start row-after g in
          let none = no_rows_after paired us z in
          let k = passed-end row-passed none in
          let w = row-bytes s start in
          let m : tokens_to paired s (suc done) - break_size paired ≡ tokens_to paired s done + w.row = omega (arith, to_next, w.size) in
          rw (← k, at_place (suc done) _ (from_next done _ here ∙ none), m) (sym (open-end s start z l.within) ∙ w.last z ∙ sym (bytes_to w.row))

      -- the row is low, so that another can be counted
      pub count_low : f.screen.end < 256 → count ≤ 255
      count_low h =
          let end = vp + (lines_of double (record { 0 = count })).0 in
          let w = or_parts (not row.short) (ltb f.screen.end end) (sym b ∙ e) in
          omega (arith, ltb-false f.screen.end end w.1, lines_ge double (record { 0 = count }))

      module _ {next : ℕ} (g : row.after ≡ Some next) {n : ℕ} (h : n ≡ next_row_at s paired next) where
        end : EndedAt s start next
        end = ended_at s start row-after g

        ended : is_ended us ≡ true
        ended = end.ended

        -- another row
        pub rows_more : RowsLeft f vp double paired s n (count + 1)
        rows_more =
            let after = end.rest in
            let following = next-rows s paired next us h after in
            let ev = even-next paired us ended l.even in
            let w = row-bytes s start in
            let T = tokens_to paired s done + w.row in
            let here_end : next ≡ suc (bytes_before T s) = omega (arith, end.place, w.end ended, bytes_to w.row) in
            let one : tokens_to paired s done + suc w.row ≡ suc T = omega arith in
            let on-end : next ≡ bytes_before (suc T) s = rw (← one) (end.place ∙ w.on ended ∙ sym (bytes_to (suc w.row))) in
            let p = break_passed s paired T (bytes_before T s) next here_end on-end (λ z. ap end_first after ∙ ev.0 z) h in
            let whole : T + break_size paired ≡ tokens_to paired s (suc done) = omega (arith, to_next, w.size) in
            let part : tokens_to paired s (suc done) - break_size paired ≡ T = omega arith in
            let back : n - break_size paired ≡ bytes_before T s = omega (arith, p.0) in
            record {
              past = first_row us ∷ l.past;
              number = omega (arith, l.number);
              passed = rw (following, ← rows-after paired us ended) row-passed;
              rest = from_next done _ here ∙ rows-after paired us ended ∙ ap (rows_of paired) (sym following);
              place = p.1 ∙ ap (λ (k : ℕ). bytes_before k s) whole;
              gap = back ∙ ap (λ (k : ℕ). bytes_before k s) (sym part);
              even = rw following ev.1;
              within = omega (arith, h, start-within s paired next end.within);
            }

-- what is known where the next row starts, and after the last
abbrev KnownAt : Format → ℕ → Bool → Bool → List ℕ → ℕ → Option ℕ → Type 0
KnownAt f vp double paired s count (Some start) = RowsLeft f vp double paired s start count
KnownAt f vp double paired s count None = length s ≡ row_fault_of f vp double paired s

-- the rows that are left of a text, of which the first would be the `count`th
pub record RowsTo (f : Format) (vp : ℕ) (double paired : Bool) (s : List ℕ) (left : List (ℕ × Row)) (count : ℕ) : Type 0 where
  pub at : Option ℕ
  pub places : left ≡ row_places s paired at
  pub known : KnownAt f vp double paired s count at
  pub low : count ≤ 256

pub rows_begin :
    {f : Format} {vp : ℕ} {double paired : Bool} {s : List ℕ} {left : List (ℕ × Row)} {count : ℕ} → left ≡ row_places s paired (Some 0) → count ≡ 1
    → (not paired || even_from false (tokens s)) ≡ true → RowsTo f vp double paired s left count
rows_begin e z k = record { at = Some 0; places = e; known = rw z (rows_start _ _ _ _ _ k); low = omega (arith, z) }

-- the rows with their number in turn, where a loop over them begins
pub record Numbered (s : List ℕ) (paired : Bool) (iterator : Enumerate RowPlaces) : Type 0 where
  pub left : places_left iterator.iter ≡ row_places s paired (Some 0)
  pub first : iterator.count ≡ 0

pub numbered :
    {s : List ℕ} {paired : Bool} {places : RowPlaces} {iterator items : Enumerate RowPlaces} → iterator ≡ items → items.iter ≡ places → items.count ≡ 0
    → places_left places ≡ row_places s paired (Some 0) → Numbered s paired iterator
numbered e f z k = rw e (record { left = ap places_left f ∙ k; first = z })

module _ {f : Format} {vp : ℕ} {double paired : Bool} {s : List ℕ} {left : List (ℕ × Row)} {count : ℕ} (l : RowsTo f vp double paired s left count) where
  module _ {x : ℕ × Row} {xs : List (ℕ × Row)} (e : left ≡ x ∷ xs) where
    first : FirstPlace s paired l.at x xs
    first = first-place s paired l.at (sym l.places ∙ e)

    pub turn_row : x.1 ≡ row_at s x.0
    turn_row = first.row

    pub turn_left : RowsLeft f vp double paired s x.0 count
    turn_left = subst (KnownAt f vp double paired s count) first.start l.known

    module _ {broken : Bool} (b : broken ≡ (not x.1.short || ltb f.screen.end (vp + (lines_of double (record { 0 = count })).0))) (h : broken ≡ false) where
      known-after : (r : Option ℕ) → x.1.after ≡ r → KnownAt f vp double paired s (count + 1) (start_after s paired x.0)
      known-after None g = rw (start-none s paired x.0 (sym (row-after turn_left turn_row b) ∙ g)) (rows_last turn_left turn_row b h g)
      known-after (Some next) g =
          rw (start-next s paired x.0 (sym (row-after turn_left turn_row b) ∙ g)) (rows_more turn_left turn_row b h g refl)

      pub rows_on : f.screen.end < 256 → RowsTo f vp double paired s xs (count + 1)
      rows_on z =
          record {
            at = start_after s paired x.0;
            places = first.others;
            known = known-after x.1.after refl;
            low = omega (arith, count_low turn_left turn_row b h z);
          }

  pub rows_all : left ≡ [] → length s ≡ row_fault_of f vp double paired s
  rows_all e = subst (KnownAt f vp double paired s count) (no_place s paired l.at (sym l.places ∙ e)) l.known

-- the fault, with the height and the pairing that were asked
pub row_fault_lem :
    (f : Format) (vp : ℕ) (s : List ℕ) {n : ℕ} {double paired : Bool} → double ≡ is_double (tokens s) → paired ≡ is_paired f.mode double
    → n ≡ row_fault_of f vp double paired s → n ≡ row_fault f vp s
unfolding row_fault breaks_paired
row_fault_lem f vp s d p e = e ∙ rw (p, d)

-- rule 14 says that row ends are even where they are paired
pub heights-even :
    (mode : ℕ) (s : List ℕ) {double paired : Bool} → double ≡ is_double (tokens s) → paired ≡ is_paired mode double
    → heights_right mode (tokens s) ≡ true → (not paired || even_from false (tokens s)) ≡ true
unfolding heights_right breaks_paired
heights-even mode s d p e =
    let rs = rows mode (tokens s) in
    rw (p, d) (and_parts (all height_first rs && (is_double (tokens s) || not (any (any is_double_height) (tail rs)))) _ e).1
