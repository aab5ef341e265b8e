-- The facts of a row with one token more, and those of all rows with one row more.
-- Assumes nothing.
use Prim.Native.Nat.{ℕ, suc, ◌+◌, ◌<◌, min}
use native.Mathlib.Omega.{arith}
use mathlib.Core.Path.{◌≡◌, refl, sym, ap, ◌∙◌}
use mathlib.Core.Bool.{Bool, true, false, cond, not, ◌&&◌, ◌||◌, and-false, or-false, or-true}
use mathlib.Core.List.{List, [], ◌∷◌, ◌++◌, map, append-nil}
use lib.Dec.{leb}
use lib.ListN.{length, length-append}
use lib.Seq.{append_snoc}
use borrow.Author.Tests.{lt-ltb}
use Rattle.meaning.specs.declared.Token.{Token}
use Rattle.meaning.specs.Lists.{all, any, keep}
use Rattle.meaning.specs.Codes.{is_listed, is_character, takes_cell, is_control_of, is_double_height}
use Rattle.meaning.specs.Rows.{height_first, row_limit, is_short}
use Rattle.meaning.proofs.Logic.{by_test, same_leb}
use Rattle.meaning.proofs.ListLaws.{any-cons, all_end, any-end}
use Rattle.charset.specs.Plain.{plain_token}
use Rattle.rows.specs.declared.RowFacts.{RowFacts}
use Rattle.rows.specs.Scanning.{count_limit, facts_of_row, with_token, with_characters, facts_of_rows, with_row}

-- a test below its limit does not tell a count from a capped one
pub capped : (limit n k : ℕ) → k < limit → leb (min n limit) k ≡ leb n k
capped limit n k h = same_leb (min n limit) k n k (λ e. omega arith) (λ e. omega arith)

-- no 0Dh may follow a character
height-cons : (t : Token) (ts : List Token) → height_first (t ∷ ts) ≡ cond (is_character t) (not (any is_double_height ts)) (height_first ts)
unfolding height_first
height-cons t ts = by_test (is_character t) (λ e. rw (e, height_first)) (λ e. rw (e, height_first))

keep_append : (ts us : List Token) → keep takes_cell (ts ++ us) ≡ keep takes_cell ts ++ keep takes_cell us
unfolding keep
keep_append [] us = refl
keep_append (t ∷ ts) us = by_test (takes_cell t) (λ e. rw (e, keep, keep_append ts us)) (λ e. rw (e, keep) (keep_append ts us))

not_either : (d r : Bool) → not (d || r) ≡ (not (d && true) && not r)
not_either true r = refl
not_either false r = refl

height-end : (ts : List Token) (t : Token) → height_first (ts ++ (t ∷ [])) ≡ (not (is_double_height t && any is_character ts) && height_first ts)
height-end [] t = height-cons t [] ∙ unfold any height_first in rw (and-false (is_double_height t)) (by_test (is_character t) (λ e. rw e) (λ e. rw e))
height-end (u ∷ ts) t =
    by_test (is_character u)
    (λ e.
    rw (height-cons u (ts ++ (t ∷ [])), height-cons u ts, any-cons is_character u ts, e, any-end is_double_height ts t)
    (not_either (is_double_height t) (any is_double_height ts)))
    (λ e. rw (height-cons u (ts ++ (t ∷ [])), height-cons u ts, any-cons is_character u ts, e) (height-end ts t))

pub with_token_lem : (teletext : Bool) (ts : List Token) (t : Token) → facts_of_row teletext (ts ++ (t ∷ [])) ≡ with_token teletext (facts_of_row teletext ts) t
unfolding facts_of_row with_token keep
with_token_lem teletext ts t =
    let cells : min (length (keep takes_cell (ts ++ (t ∷ [])))) count_limit ≡ cond (takes_cell t) (min (min (length (keep takes_cell ts)) count_limit + 1) count_limit) (min (length (keep takes_cell ts)) count_limit) =
    rw (keep_append ts (t ∷ []), length-append) (by_test (takes_cell t) (λ e. rw (e, keep) (omega arith)) (λ e. rw (e, keep) (omega arith))) in
    rw (cells, all_end (is_listed teletext) ts t, any-end is_double_height ts t, any-end is_character ts t, height-end ts t)

more-characters : (teletext : Bool) (f : RowFacts) (c n : ℕ) → with_characters (with_token teletext f (plain_token c)) n ≡ with_characters f (suc n)
unfolding with_characters with_token is_listed is_character takes_cell is_control_of
more-characters teletext f c n =
    let cells : min (min (f.cells + 1) count_limit + n) count_limit ≡ min (f.cells + suc n) count_limit = omega arith in
    rw (cells, lt-ltb 0 (suc n) (omega arith), or-true f.character)

pub with_characters_lem : (teletext : Bool) (ts : List Token) (cs : List ℕ) → facts_of_row teletext (ts ++ map plain_token cs) ≡ with_characters (facts_of_row teletext ts) (length cs)
with_characters_lem teletext ts [] =
    unfold facts_of_row with_characters in
    let cells : min (min (length (keep takes_cell ts)) count_limit + 0) count_limit ≡ min (length (keep takes_cell ts)) count_limit = omega arith in
    rw (append-nil ts, cells, or-false (any is_character ts))
with_characters_lem teletext ts (c ∷ cs) =
    ap (facts_of_row teletext) (sym (append_snoc ts (plain_token c) (map plain_token cs))) ∙ with_characters_lem teletext (ts ++ (plain_token c ∷ [])) cs
    ∙ ap (λ (f : RowFacts). with_characters f (length cs)) (with_token_lem teletext ts (plain_token c)) ∙ more-characters teletext (facts_of_row teletext ts) c (length cs)

pub with_row_lem :
    (teletext : Bool) (rs : List (List Token)) (r : List Token) → facts_of_rows teletext (rs ++ (r ∷ [])) ≡ with_row (facts_of_rows teletext rs) (facts_of_row teletext r)
unfolding facts_of_rows facts_of_row with_row is_short
with_row_lem teletext rs r =
    let rows : min (length rs + 1) count_limit ≡ min (min (length rs) count_limit + 1) count_limit = omega arith in
    rw (
      all_end (all (is_listed teletext)) rs r,
      any-end (any is_double_height) rs r,
      all_end height_first rs r,
      all_end is_short rs r,
      length-append rs (r ∷ []),
      capped count_limit (length (keep takes_cell r)) row_limit (omega arith),
      rows,
    )
