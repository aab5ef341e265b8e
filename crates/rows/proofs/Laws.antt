-- Rows met from the left: the rows of a text are its first row and the rows of what follows; the tests over a text follow them.
-- Assumes nothing.
use Prim.Native.Nat.{ℕ, ◌*◌, ◌≤◌}
use native.Mathlib.Omega.{arith}
use mathlib.Core.Path.{◌≡◌, refl, sym, ap, ◌∙◌}
use mathlib.Core.Bool.{Bool, true, false, ◌&&◌}
use mathlib.Core.List.{List, [], ◌∷◌, map, ◌++◌}
use Rattle.meaning.specs.declared.Rows.{Rows}
use Rattle.meaning.specs.declared.Token.{Token}
use Rattle.meaning.specs.Lists.{any, take_while, onto_first}
use Rattle.meaning.specs.Codes.{is_row_end}
use Rattle.meaning.specs.Rows.{split_rows, first_row, paired_from, rows_of, even_from, lines_of}
use Rattle.meaning.specs.TextRules.{end_first}
use Rattle.std.proofs.lemmas.Bool.{false≢true}
use Rattle.meaning.proofs.Logic.{by_test}
pub use Rattle.meaning.proofs.RowClauses.{first-end, first_more}
use Rattle.meaning.proofs.RowClauses.{split_end, split_more}
use Rattle.charset.specs.Plain.{plain_token}
use Rattle.rows.specs.Scanned.{is_ended}
use Rattle.rows.proofs.FirstRow.{after_row, row_without_end, next_rows, rows_after}

-- the clauses, by the test
module _ (t : Token) (ts : List Token) where
  module _ (e : is_row_end t ≡ true) where
    pub after-end : after_row (t ∷ ts) ≡ ts
    unfolding after_row
    after-end = rw (e, after_row)

    pub ended-end : is_ended (t ∷ ts) ≡ true
    unfolding is_ended any
    ended-end = rw (e, any)

  module _ (e : is_row_end t ≡ false) where
    pub after_more : after_row (t ∷ ts) ≡ after_row ts
    unfolding after_row
    after_more = rw (e, after_row)

    pub ended-more : is_ended (t ∷ ts) ≡ is_ended ts
    unfolding is_ended any
    ended-more = rw (e, any)

pub first-none : first_row [] ≡ []
unfolding first_row take_while
first-none = refl

pub after_none : after_row [] ≡ []
unfolding after_row
after_none = refl

pub ended-none : is_ended [] ≡ false
unfolding is_ended any
ended-none = refl

-- a run of characters is within its row
module _ (ts : List Token) where
  pub first_run : (cs : List ℕ) → first_row (map plain_token cs ++ ts) ≡ map plain_token cs ++ first_row ts
  unfolding is_row_end
  first_run [] = refl
  first_run (c ∷ cs) =
      first_more (plain_token c) (map plain_token cs ++ ts) refl ∙ ap (λ (us : List Token). plain_token c ∷ us) (first_run cs)

  pub ended-run : (cs : List ℕ) → is_ended (map plain_token cs ++ ts) ≡ is_ended ts
  unfolding is_row_end
  ended-run [] = refl
  ended-run (c ∷ cs) = ended-more (plain_token c) (map plain_token cs ++ ts) refl ∙ ended-run cs

-- what follows the first row, by the test whether there is a row end
module _ (paired : Bool) (ts : List Token) where
  pub rows-after : is_ended ts ≡ true → rows_after paired ts ≡ rows_of paired (next_rows paired ts)
  unfolding rows_after
  rows-after e = rw (e, rows_after)

  pub no_rows_after : is_ended ts ≡ false → rows_after paired ts ≡ []
  unfolding rows_after
  no_rows_after e = rw (e, rows_after)

-- one token of the first row more
module _ (paired : Bool) (t : Token) (ts : List Token) (e : is_row_end t ≡ false) where
  next_more : next_rows paired (t ∷ ts) ≡ next_rows paired ts
  unfolding next_rows
  next_more = rw (after_more t ts e)

  after-rows-more : rows_after paired (t ∷ ts) ≡ rows_after paired ts
  after-rows-more =
      by_test (is_ended ts)
      (λ f. rw (rows-after paired (t ∷ ts) (ended-more t ts e ∙ f), rows-after paired ts f, next_more))
      (λ f. rw (no_rows_after paired (t ∷ ts) (ended-more t ts e ∙ f), no_rows_after paired ts f))

-- after the first of a pair the second is passed over
paired_second : (ts : List Token) → paired_from true ts ≡ paired_from false (row_without_end ts)
unfolding paired_from row_without_end
paired_second [] = refl
paired_second (t ∷ ts) =
    by_test (is_row_end t) (λ e. rw (e, paired_from, row_without_end)) (λ e. rw (e, paired_from, row_without_end) (rw (e, paired_from)))

-- the rows where a row end stands first, and where another token does
rows_end : (paired : Bool) (t : Token) (ts : List Token) → is_row_end t ≡ true → rows_of paired (t ∷ ts) ≡ [] ∷ rows_of paired (next_rows paired (t ∷ ts))
unfolding rows_of next_rows paired_from
rows_end true t ts e = rw (after-end t ts e, e, paired_from) (split_end t _ e ∙ ap (λ (us : List Token). [] ∷ split_rows us) (paired_second ts))
rows_end false t ts e = rw (after-end t ts e) (split_end t ts e)

rows_more : (paired : Bool) (t : Token) (ts : List Token) → is_row_end t ≡ false → rows_of paired (t ∷ ts) ≡ onto_first t (rows_of paired ts)
unfolding rows_of paired_from
rows_more true t ts e = rw (e, paired_from) (split_more t _ e)
rows_more false t ts e = split_more t ts e

rows_none : (paired : Bool) → rows_of paired [] ≡ [] ∷ []
unfolding rows_of paired_from split_rows
rows_none true = refl
rows_none false = refl

-- the rows are the first row and those after it
pub rows-first : (paired : Bool) (ts : List Token) → rows_of paired ts ≡ first_row ts ∷ rows_after paired ts
rows-first paired [] = rw (rows_none paired, first-none, no_rows_after paired [] ended-none)
rows-first paired (t ∷ ts) =
    by_test (is_row_end t)
    (λ e. rw (rows_end paired t ts e, first-end t ts e, rows-after paired (t ∷ ts) (ended-end t ts e)))
    (λ e.
    rw (rows_more paired t ts e, first_more t ts e, after-rows-more paired t ts e)
    (ap (onto_first t) (rows-first paired ts) ∙ unfold onto_first in refl))

-- every maximal run of row ends is even: after the first row stands a pair of them, and so on
even_second : (ts : List Token) → even_from true ts ≡ (end_first ts && even_from false (row_without_end ts))
unfolding even_from end_first row_without_end
even_second [] = refl
even_second (t ∷ ts) = by_test (is_row_end t) (λ e. rw (e, even_from, row_without_end)) (λ e. rw (e, even_from, row_without_end))

pub even-ended : (ts : List Token) → is_ended ts ≡ true → even_from false ts ≡ (end_first (after_row ts) && even_from false (row_without_end (after_row ts)))
unfolding even_from
even-ended [] h = absurd (false≢true (sym ended-none ∙ h))
even-ended (t ∷ ts) h =
    by_test (is_row_end t)
    (λ e. rw (e, even_from, after-end t ts e) (even_second ts))
    (λ e. rw (e, even_from, after_more t ts e) (even-ended ts (sym (ended-more t ts e) ∙ h)))

pub even_open : (ts : List Token) → is_ended ts ≡ false → even_from false ts ≡ true
unfolding even_from
even_open [] h = refl
even_open (t ∷ ts) h =
    by_test (is_row_end t)
    (λ e. absurd (false≢true (sym h ∙ ended-end t ts e)))
    (λ e. rw (e, even_from) (even_open ts (sym (ended-more t ts e) ∙ h)))

pub lines_le : (double : Bool) (n : Rows) → (lines_of double n).0 ≤ 2 * n.0
unfolding lines_of
lines_le true n = omega arith
lines_le false n = omega arith
