-- The positions after a row and after a row end, and the tokens that stand there.
-- Assumes nothing.
use Prim.Native.Nat.{ℕ, zero, suc, ◌+◌, ◌-◌, ◌≤◌, ◌<◌}
use native.Mathlib.Omega.{arith}
use mathlib.Core.Path.{◌≡◌, refl, sym, ap, ◌∙◌}
use mathlib.Core.Bool.{Bool, true, false, not, ◌||◌}
use mathlib.Core.List.{List}
use lib.ListN.{length, take, drop}
use Rattle.std.specs.Prelude.{Option, Some, None}
use Rattle.std.specs.Option.{is_some, unwrap_or}
use Rattle.meaning.specs.declared.Token.{Token}
use Rattle.meaning.specs.Codes.{is_row_end, tokens}
use Rattle.meaning.specs.TextRules.{end_first}
use Rattle.std.proofs.lemmas.Bool.{false≢true}
use Rattle.meaning.proofs.Logic.{by_test, by_le}
use Rattle.charset.specs.declared.Reading.{Reading}
use Rattle.charset.specs.Reading.{reading_at, token_at, next_at, after_end_at, after_row_at}
use Rattle.charset.proofs.Positions.{read_over, row-over}
use Rattle.charset.proofs.Laws.{ReadOn, RunOn, read_at, tokens-end}
use Rattle.rows.proofs.FirstRow.{after_row, row_without_end, next_rows}
use Rattle.rows.specs.Scanned.{is_ended, next_row_at, row_end_after, break_end}
use Rattle.rows.proofs.Laws.{after_none, after-end, after_more, ended-none, ended-end, ended-more, ended-run}

-- a row by its first token
module _ {s : List ℕ} {i : ℕ} {r : Reading} (o : ReadOn s i r) where
  pub row-end : is_row_end r.token ≡ true → after_row_at s i ≡ r.next
  row-end e = rw e at o.row

  pub row_more : is_row_end r.token ≡ false → after_row_at s i ≡ after_row_at s r.next
  row_more e = rw e at o.row

-- after the row from i, at n, stand the tokens after its row end; where there is one, n lies further on within the text
record AfterRow (s : List ℕ) (i n : ℕ) : Type 0 where
  rest : tokens (drop n s) ≡ after_row (tokens (drop i s))
  on : is_ended (tokens (drop i s)) ≡ true → (i < n) × (n ≤ length s)
  last : is_ended (tokens (drop i s)) ≡ false → i ≤ length s → n ≡ length s

at-text-end : (s : List ℕ) (i : ℕ) → length s ≤ i → AfterRow s i (after_row_at s i)
at-text-end s i h =
    let t = tokens-end s i h in
    rw (row-over s i h)
    (record { rest = t ∙ sym (ap after_row t ∙ after_none); on = λ e. absurd (false≢true (sym (ap is_ended t ∙ ended-none) ∙ e)); last = λ e k. omega arith })

after-row : (k : ℕ) (s : List ℕ) (i : ℕ) → length s ≤ i + k → AfterRow s i (after_row_at s i)
after-row zero s i h = at-text-end s i (omega arith)
after-row (suc k) s i h =
    by_le (length s) i (at-text-end s i)
    (λ l.
    let o = read_at s i l in
    let ts = tokens (drop (next_at s i) s) in
    by_test (is_row_end (token_at s i))
    (λ e. rw (row-end o e) (record { rest = sym (ap after_row o.first ∙ after-end (token_at s i) ts e); on = λ z. (o.on, o.within); last = λ z k. absurd (false≢true (sym z ∙ ap is_ended o.first ∙ ended-end (token_at s i) ts e)) }))
    (λ e.
    let p = after-row k s (next_at s i) (omega (arith, o.on)) in
    rw (row_more o e)
    (record {
      rest = p.rest ∙ sym (ap after_row o.first ∙ after_more (token_at s i) ts e);
      on = λ z. let w = p.on (sym (ap is_ended o.first ∙ ended-more (token_at s i) ts e) ∙ z) in (omega (arith, o.on), w.1);
      last = λ z k. p.last (sym (ap is_ended o.first ∙ ended-more (token_at s i) ts e) ∙ z) o.within;
    })))

module _ (s : List ℕ) (i : ℕ) {n : ℕ} (e : n ≡ after_row_at s i) where
  pub rest-after : tokens (drop n s) ≡ after_row (tokens (drop i s))
  rest-after = rw e (after-row (length s) s i (omega arith)).rest

  pub on-after : {b : Bool} → b ≡ is_ended (tokens (drop i s)) → b ≡ true → (i < n) × (n ≤ length s)
  on-after f z = rw e ((after-row (length s) s i (omega arith)).on (sym f ∙ z))

-- without a row end the row goes to the text's end
pub open-end : (s : List ℕ) (i : ℕ) → is_ended (tokens (drop i s)) ≡ false → i ≤ length s → after_row_at s i ≡ length s
open-end s i e h = (after-row (length s) s i (omega arith)).last e h

-- the position after the row end, by the test whether there is one
module _ (s : List ℕ) (i : ℕ) where
  end_some : is_ended (tokens (drop i s)) ≡ true → row_end_after s i ≡ Some (after_row_at s i)
  unfolding row_end_after
  end_some e = rw (e, row_end_after)

  end_none : is_ended (tokens (drop i s)) ≡ false → row_end_after s i ≡ None
  unfolding row_end_after
  end_none e = rw (e, row_end_after)

  pub end-over : length s ≤ i → row_end_after s i ≡ None
  end-over h = end_none (ap is_ended (tokens-end s i h) ∙ ended-none)

-- two positions from which the rows end alike
end_same :
    (s : List ℕ) (i j : ℕ) → is_ended (tokens (drop i s)) ≡ is_ended (tokens (drop j s)) → after_row_at s i ≡ after_row_at s j
    → row_end_after s i ≡ row_end_after s j
end_same s i j e f =
    by_test (is_ended (tokens (drop j s)))
    (λ t. end_some s i (e ∙ t) ∙ ap Some f ∙ sym (end_some s j t))
    (λ t. end_none s i (e ∙ t) ∙ sym (end_none s j t))

-- by the first token of the row, or a run of characters
module _ {s : List ℕ} {i : ℕ} {r : Reading} (o : ReadOn s i r) where
  pub end-here : is_row_end r.token ≡ true → row_end_after s i ≡ Some r.next
  end-here e = end_some s i (ap is_ended o.first ∙ ended-end r.token (tokens (drop r.next s)) e) ∙ ap Some (row-end o e)

  pub end_later : is_row_end r.token ≡ false → row_end_after s i ≡ row_end_after s r.next
  end_later e = end_same s i r.next (ap is_ended o.first ∙ ended-more r.token (tokens (drop r.next s)) e) (row_more o e)

pub end_run : {s : List ℕ} {i e : ℕ} → RunOn s i e → row_end_after s i ≡ row_end_after s e
end_run {s} {i} {e} o = end_same s i e (ap is_ended o.first ∙ ended-run (tokens (drop e s)) (take (e - i) (drop i s))) o.row

-- a row that has a row end, with the position after it
pub record EndedAt (s : List ℕ) (i n : ℕ) : Type 0 where
  pub place : n ≡ after_row_at s i
  pub ended : is_ended (tokens (drop i s)) ≡ true
  pub rest : tokens (drop n s) ≡ after_row (tokens (drop i s))
  pub on : i < n
  pub within : n ≤ length s

pub ended_at : (s : List ℕ) (i : ℕ) {a : Option ℕ} {n : ℕ} → a ≡ row_end_after s i → a ≡ Some n → EndedAt s i n
ended_at s i {a} {n} e f =
    by_test (is_ended (tokens (drop i s)))
    (λ t.
    let g = end_some s i t in
    let m : n ≡ after_row_at s i = cc in
    let w = on-after s i m refl t in
    record { place = m; ended = t; rest = rest-after s i m; on = w.0; within = w.1 })
    (λ t. let g = end_none s i t in cc)

pub not_ended : (s : List ℕ) (i : ℕ) {a : Option ℕ} → a ≡ row_end_after s i → a ≡ None → is_ended (tokens (drop i s)) ≡ false
not_ended s i e f = by_test (is_ended (tokens (drop i s))) (λ t. let g = end_some s i t in cc) (λ t. t)

-- a row end at a position
module _ (s : List ℕ) (i : ℕ) where
  no_token : length s ≤ i → is_row_end (token_at s i) ≡ false
  unfolding is_row_end
  no_token h = ap (λ (r : Reading). is_row_end r.token) (read_over s i h)

  pub end-first : is_row_end (token_at s i) ≡ end_first (tokens (drop i s))
  unfolding end_first
  end-first =
      by_le (length s) i
      (λ h. no_token h ∙ sym (ap end_first (tokens-end s i h)))
      (λ h. sym (ap end_first (read_at s i h).first))

  after-here : is_row_end (token_at s i) ≡ true → after_end_at s i ≡ next_at s i
  unfolding after_end_at
  after-here e = rw e

  after-not : is_row_end (token_at s i) ≡ false → after_end_at s i ≡ i
  unfolding after_end_at
  after-not e = rw e

  pub without_end : tokens (drop (after_end_at s i) s) ≡ row_without_end (tokens (drop i s))
  unfolding row_without_end
  without_end =
      by_le (length s) i
      (λ h. rw (after-not (no_token h)) (tokens-end s i h ∙ sym (ap row_without_end (tokens-end s i h))))
      (λ h.
      let o = read_at s i h in
      by_test (is_row_end (token_at s i))
      (λ e. rw (after-here e) (sym (ap row_without_end o.first ∙ rw (e, row_without_end))))
      (λ e. rw (after-not e) (o.first ∙ sym (ap row_without_end o.first ∙ rw (e, row_without_end)))))

  end_on : i ≤ after_end_at s i
  end_on =
      by_le (length s) i
      (λ h. rw (after-not (no_token h)) (omega arith))
      (λ h.
      by_test (is_row_end (token_at s i)) (λ e. rw (after-here e) (omega (arith, (read_at s i h).on))) (λ e. rw (after-not e) (omega arith)))

  end_within : i ≤ length s → after_end_at s i ≤ length s
  end_within k =
      by_le (length s) i
      (λ h. rw (after-not (no_token h)) k)
      (λ h.
      by_test (is_row_end (token_at s i)) (λ e. rw (after-here e) (read_at s i h).within) (λ e. rw (after-not e) k))

pub start-within : (s : List ℕ) (paired : Bool) (next : ℕ) → next ≤ length s → next_row_at s paired next ≤ length s
unfolding next_row_at
start-within s true next h = end_within s next h
start-within s false next h = h

pub start-on : (s : List ℕ) (paired : Bool) (next : ℕ) → next ≤ next_row_at s paired next
unfolding next_row_at
start-on s true next = end_on s next
start-on s false next = omega arith

-- the end of a break: where the next row starts, and whether it is whole
module _ (s : List ℕ) (paired : Bool) (next : ℕ) where
  pub break_some : (not paired || is_row_end (token_at s next)) ≡ true → break_end s paired next ≡ Some (next_row_at s paired next)
  unfolding break_end
  break_some e = rw (e, break_end)

  pub break_none : (not paired || is_row_end (token_at s next)) ≡ false → break_end s paired next ≡ None
  unfolding break_end
  break_none e = rw (e, break_end)

  pub break_whole : is_some (break_end s paired next) ≡ (not paired || is_row_end (token_at s next))
  break_whole =
      by_test (not paired || is_row_end (token_at s next))
      (λ e. ap is_some (break_some e) ∙ sym e)
      (λ e. ap is_some (break_none e) ∙ sym e)

-- as the function looks at the position
pub break_alone : (s : List ℕ) (next : ℕ) → Some next ≡ break_end s false next
unfolding break_end next_row_at
break_alone s next = refl

module _ (s : List ℕ) (next : ℕ) {r : Reading} (q : r ≡ reading_at s next) where
  pub break_second : is_row_end r.token ≡ true → Some r.next ≡ break_end s true next
  unfolding next_row_at
  break_second e =
      let t : is_row_end (token_at s next) ≡ true = rw q at e in
      sym (break_some s true next t ∙ ap Some (after-here s next t ∙ sym (ap (λ (r : Reading). r.next) q)))

  pub break_odd : is_row_end r.token ≡ false → None ≡ break_end s true next
  break_odd e = sym (break_none s true next (rw q at e))

no_break : (s : List ℕ) (paired : Bool) (next : ℕ) → (not paired || is_row_end (token_at s next)) ≡ false → next ≡ next_row_at s paired next
unfolding next_row_at
no_break s true next e = sym (after-not s next e)
no_break s false next e = refl

pub break_start : (s : List ℕ) (paired : Bool) (next : ℕ) → unwrap_or (break_end s paired next) next ≡ next_row_at s paired next
break_start s paired next =
    by_test (not paired || is_row_end (token_at s next))
    (λ e. ap (λ (a : Option ℕ). unwrap_or a next) (break_some s paired next e))
    (λ e. ap (λ (a : Option ℕ). unwrap_or a next) (break_none s paired next e) ∙ no_break s paired next e)

-- what stands from the next row on
pub next-rows :
    (s : List ℕ) (paired : Bool) (next : ℕ) {start : ℕ} (row : List Token) → start ≡ next_row_at s paired next → tokens (drop next s) ≡ after_row row
    → tokens (drop start s) ≡ next_rows paired row
unfolding next_row_at next_rows
next-rows s true next row q e = ap (λ (n : ℕ). tokens (drop n s)) q ∙ without_end s next ∙ ap row_without_end e
next-rows s false next row q e = ap (λ (n : ℕ). tokens (drop n s)) q ∙ e
