-- The search for a 0Dh or a row end that breaks rule 14.
-- Assumes nothing.
use Prim.Native.Nat.{ℕ, ◌≤◌}
use mathlib.Core.Path.{◌≡◌, refl, sym, ap, ◌∙◌}
use mathlib.Core.Bool.{Bool, true, false, cond, not, ◌&&◌, ◌||◌}
use mathlib.Core.List.{List, [], ◌∷◌}
use lib.ListN.{length, drop}
use borrow.Author.Tests.{not-true, not-false}
use Rattle.meaning.specs.declared.Token.{Token}
use Rattle.meaning.specs.Lists.{any, take_while}
use Rattle.meaning.specs.Codes.{tokens, is_character, is_row_end, is_double_height}
use Rattle.meaning.specs.Rows.{first_row, is_double, is_paired, breaks_paired}
use Rattle.meaning.specs.TextRules.{before_fault, end_first, odd_ends, misplaced_height, breaks_heights, bytes_before, height_fault}
use Rattle.meaning.proofs.Logic.{by_test}
use Rattle.meaning.proofs.ListLaws.{any-cons}
use Rattle.meaning.proofs.RowClauses.{odd_end as odd-end, odd_more as odd-none}
use Rattle.charset.specs.declared.Reading.{Reading}
use Rattle.charset.proofs.Laws.{ReadOn, tokens-end}
use Rattle.rows.proofs.Laws.{first-end, first_more}
use Rattle.faults.specs.declared.Past.{Past}
use Rattle.faults.specs.Searching.{past_of, with_token}
use Rattle.faults.proofs.TokenSearch.{Reached, reached-start, reached-found, reached-more, reached-end}

-- what stands before the token after t
past_more : (t : Token) (ts : List Token) → past_of (t ∷ ts) ≡ with_token (past_of ts) t
unfolding past_of with_token end_first any
past_more t ts =
    by_test (is_row_end t)
    (λ e. rw (any-cons is_row_end t ts, first-end t ts e, e))
    (λ e. rw (any-cons is_row_end t ts, first_more t ts e, any-cons is_character t (first_row ts), e))

-- the tokens before position i keep rule 14, and p tells of them
pub record HeightsLeft (double paired : Bool) (s : List ℕ) (p : Past) (i : ℕ) : Type 0 where
  pub past : List Token
  pub known : p ≡ past_of past
  pub reached : Reached (breaks_heights double paired) s past i

pub heights-start :
    (double paired : Bool) (s : List ℕ) {p : Past} → p ≡ record { later = false; character = false; ended = false } → HeightsLeft double paired s p 0
unfolding past_of any end_first first_row take_while
heights-start double paired s e = record { past = []; known = e; reached = reached-start }

module _ {double paired : Bool} {s : List ℕ} {p : Past} {i : ℕ} (l : HeightsLeft double paired s p i) where
  module _ {r : Reading} {height run : Bool} (o : ReadOn s i r) (h : height ≡ (is_double_height r.token && (p.character || (not double && p.later))))
      (k : run ≡ (paired && not p.ended && odd_ends (tokens (drop i s)))) where
    tested : (height || run) ≡ breaks_heights double paired l.past r.token (tokens (drop r.next s))
    unfolding breaks_heights misplaced_height past_of
    tested = rw (h, k, o.first, l.known)

    pub heights-found : (height || run) ≡ true → i ≡ bytes_before (before_fault (breaks_heights double paired) [] (tokens s)) s
    heights-found e = reached-found l.reached o (sym tested ∙ e)

    pub heights-more : {q : Past} → (height || run) ≡ false → q ≡ with_token p r.token → HeightsLeft double paired s q r.next
    heights-more e f =
        record {
          past = r.token ∷ l.past;
          known = rw (f, l.known) (sym (past_more r.token l.past));
          reached = reached-more l.reached o (sym tested ∙ e);
        }

  pub heights-end : length s ≤ i → length s ≡ bytes_before (before_fault (breaks_heights double paired) [] (tokens s)) s
  heights-end h = reached-end l.reached h

-- the fault, with the height and the pairing that were asked
pub height_fault_lem :
    (s : List ℕ) (mode : ℕ) {n : ℕ} {double paired : Bool} → double ≡ is_double (tokens s) → paired ≡ is_paired mode double
    → n ≡ bytes_before (before_fault (breaks_heights double paired) [] (tokens s)) s → n ≡ height_fault mode s
unfolding height_fault breaks_paired
height_fault_lem s mode d p e = e ∙ rw (p, d)

-- the row ends from `start` on are those counted, an odd number of them or not, and those from position i on
pub record OddLeft (s : List ℕ) (start : ℕ) (odd : Bool) (i : ℕ) : Type 0 where
  pub ends : cond odd (not (odd_ends (tokens (drop i s)))) (odd_ends (tokens (drop i s))) ≡ odd_ends (tokens (drop start s))

one_more : (odd rest : Bool) → cond (not odd) (not rest) rest ≡ cond odd (not (not rest)) (not rest)
one_more true true = refl
one_more true false = refl
one_more false rest = refl

no_more : (odd : Bool) → odd ≡ cond odd (not false) false
no_more true = refl
no_more false = refl

module _ {s : List ℕ} {start i : ℕ} {odd : Bool} (l : OddLeft s start odd i) where
  odd_stop : odd_ends (tokens (drop i s)) ≡ false → odd ≡ odd_ends (tokens (drop start s))
  odd_stop e = no_more odd ∙ rw e at l.ends

  module _ {r : Reading} {end : Bool} (o : ReadOn s i r) (q : end ≡ is_row_end r.token) where
    pub odd_more : not end ≡ false → OddLeft s start (not odd) r.next
    odd_more e =
        let ts = tokens (drop r.next s) in
        let here = ap odd_ends o.first ∙ odd-end r.token ts (sym q ∙ not-false end e) in
        record { ends = one_more odd (odd_ends ts) ∙ rw here at l.ends }

    pub odd_found : not end ≡ true → odd ≡ odd_ends (tokens (drop start s))
    odd_found e = odd_stop (ap odd_ends o.first ∙ odd-none r.token (tokens (drop r.next s)) (sym q ∙ not-true end e))

  pub odd_over : length s ≤ i → odd ≡ odd_ends (tokens (drop start s))
  unfolding odd_ends
  odd_over h = odd_stop (ap odd_ends (tokens-end s i h))
