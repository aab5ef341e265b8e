-- The token by which a row that breaks rule 15 is named is one of the text's: a row without bytes has a break before it.
-- Assumes nothing.
use Prim.Native.Nat.{ℕ, zero, suc, ◌+◌, ◌≤◌, ◌<◌}
use native.Mathlib.Omega.{arith}
use mathlib.Core.Path.{◌≡◌, refl, sym, ap, ◌∙◌}
use mathlib.Core.Bool.{Bool, true, false, cond, not, ◌||◌}
use mathlib.Core.List.{List, [], ◌∷◌}
use lib.ListN.{length, get_or, take}
use Rattle.meaning.specs.declared.Token.{Token}
use Rattle.meaning.specs.Lists.{take_while, onto_first}
use Rattle.meaning.specs.Codes.{is_row_end}
use Rattle.meaning.specs.Rows.{split_rows, first_row, paired_from, rows_of, even_from}
use Rattle.meaning.specs.TextRules.{break_size, tokens_in, tokens_before}
use Rattle.std.proofs.lemmas.Bool.{false≢true}
use Rattle.meaning.proofs.Logic.{by_test}
use Rattle.meaning.proofs.RowClauses.{first-end, first_more, split_end, split_more, pair_first, pair_second, pair_none, even-end, even-more, even_odd}

-- rows have a first one
pub record Front (rs : List (List Token)) : Type 0 where
  pub first : List Token
  pub later : List (List Token)
  pub same : rs ≡ first ∷ later

onto_front : (t : Token) (rs : List (List Token)) → Front (onto_first t rs)
unfolding onto_first
onto_front t [] = record { first = t ∷ []; later = []; same = refl }
onto_front t (r ∷ rs) = record { first = t ∷ r; later = rs; same = refl }

split_front : (ts : List Token) → Front (split_rows ts)
unfolding split_rows
split_front [] = record { first = []; later = []; same = refl }
split_front (t ∷ ts) =
    by_test (is_row_end t)
    (λ e. record { first = []; later = split_rows ts; same = split_end t ts e })
    (λ e. rw (split_more t ts e) (onto_front t (split_rows ts)))

-- the first row is that before the first row end
onto_first_lem : (t : Token) (rs : List (List Token)) → get_or (onto_first t rs) 0 [] ≡ t ∷ get_or rs 0 []
unfolding onto_first
onto_first_lem t [] = refl
onto_first_lem t (r ∷ rs) = refl

split_first : (ts : List Token) → get_or (split_rows ts) 0 [] ≡ first_row ts
split_first [] = unfold split_rows first_row take_while in refl
split_first (t ∷ ts) =
    by_test (is_row_end t)
    (λ e. rw (split_end t ts e, first-end t ts e))
    (λ e. rw (split_more t ts e, first_more t ts e, onto_first_lem t (split_rows ts), split_first ts))

paired_first : (ts : List Token) → first_row (paired_from false ts) ≡ first_row ts
paired_first [] = unfold paired_from in refl
paired_first (t ∷ ts) =
    by_test (is_row_end t)
    (λ e. rw (pair_first t ts e, first-end t ts e, first-end t (paired_from true ts) e))
    (λ e. rw (pair_none t ts e false, first_more t ts e, first_more t (paired_from false ts) e, paired_first ts))

pub rows-first : (paired : Bool) (ts : List Token) → get_or (rows_of paired ts) 0 [] ≡ first_row ts
unfolding rows_of
rows-first true ts = split_first (paired_from false ts) ∙ paired_first ts
rows-first false ts = split_first ts

-- the tokens of all rows, each with a break after it, are those of the text and one break more
onto_size : (paired : Bool) (t : Token) {rs : List (List Token)} → Front rs → tokens_in paired (onto_first t rs) ≡ suc (tokens_in paired rs)
unfolding tokens_in onto_first
onto_size paired t f = rw f.same (omega arith)

single-size : (ts : List Token) → tokens_in false (split_rows ts) ≡ suc (length ts)
unfolding tokens_in split_rows
single-size [] = refl
single-size (t ∷ ts) =
    by_test (is_row_end t)
    (λ e. rw (split_end t ts e) (omega (arith, single-size ts)))
    (λ e. rw (split_more t ts e, onto_size false t (split_front ts)) (omega (arith, single-size ts)))

paired_size :
    (second : Bool) (ts : List Token) → even_from second ts ≡ true → tokens_in true (split_rows (paired_from second ts)) + cond second 1 0 ≡ length ts + 2
unfolding tokens_in split_rows paired_from even_from
paired_size true [] h = absurd (false≢true h)
paired_size false [] h = omega arith
paired_size true (t ∷ ts) h =
    by_test (is_row_end t)
    (λ e. rw (pair_second t ts e) (omega (arith, paired_size false ts (rw (even-end t ts true e) at h))))
    (λ e. absurd (false≢true (sym (even_odd t ts e) ∙ h)))
paired_size false (t ∷ ts) h =
    by_test (is_row_end t)
    (λ e. rw (pair_first t ts e, split_end t (paired_from true ts) e) (omega (arith, paired_size true ts (rw (even-end t ts false e) at h))))
    (λ e.
    rw (pair_none t ts e false, split_more t (paired_from false ts) e, onto_size true t (split_front (paired_from false ts)))
    (omega (arith, paired_size false ts (rw (even-more t ts e) at h))))

pub rows-size : (paired : Bool) (ts : List Token) → not paired || even_from false ts ≡ true → tokens_in paired (rows_of paired ts) ≡ length ts + break_size paired
unfolding rows_of
rows-size true ts h = omega (arith, paired_size false ts h)
rows-size false ts h = omega (arith, single-size ts)

pub rows-front : (paired : Bool) (ts : List Token) → Front (rows_of paired ts)
unfolding rows_of
rows-front paired ts = split_front _

-- a row and those before it
module _ (paired : Bool) where
  break_some : 1 ≤ break_size paired
  break_some = by_test paired (λ p. rw p (omega arith)) (λ p. rw p (omega arith))

  rows_before : (n : ℕ) (rs : List (List Token)) → n < length rs → tokens_in paired (take n rs) + length (get_or rs n []) + break_size paired ≤ tokens_in paired rs
  unfolding tokens_in
  rows_before zero [] h = absurd (omega arith)
  rows_before zero (r ∷ rs) h = omega arith
  rows_before (suc n) [] h = absurd (omega arith)
  rows_before (suc n) (r ∷ rs) h = omega (arith, rows_before n rs (omega arith))

  some_before : (n : ℕ) (rs : List (List Token)) → 0 < n → n < length rs → break_size paired ≤ tokens_in paired (take n rs)
  unfolding tokens_in
  some_before zero rs p h = absurd (omega arith)
  some_before (suc n) [] p h = absurd (omega arith)
  some_before (suc n) (r ∷ rs) p h = omega arith

  pub row-token :
      (ts : List Token) (rs : List (List Token)) (n : ℕ) → tokens_in paired rs ≡ length ts + break_size paired → n < length rs → (get_or rs n [] ≡ [] → 0 < n)
      → tokens_before paired (take n rs) (get_or rs n []) < length ts
  unfolding tokens_before
  row-token ts rs n e h some = go (get_or rs n []) refl
    where
      go : (r : List Token) → get_or rs n [] ≡ r → tokens_before paired (take n rs) r < length ts
      go [] z = omega (arith, rows_before n rs h, some_before n rs (some z) h, break_some)
      go (t ∷ r) z = omega (arith, rows_before n rs h, ap length z)
