-- Rows by their places: the tokens of the rows before one, and the way over a break to the next.
-- Assumes nothing.
use Prim.Native.Nat.{ℕ, zero, suc, ◌+◌}
use native.Mathlib.Omega.{arith}
use mathlib.Core.Path.{◌≡◌, refl, sym, ap, ◌∙◌}
use mathlib.Core.Bool.{Bool, true, false, not, ◌||◌}
use mathlib.Core.List.{List, [], ◌∷◌}
use lib.ListN.{length, get_or, take, drop}
use lib.Seq.{drop-drop, get_or-drop}
use Rattle.meaning.specs.declared.Token.{Token}
use Rattle.meaning.specs.Codes.{tokens}
use Rattle.meaning.specs.Rows.{even_from}
use Rattle.meaning.specs.TextRules.{end_first, break_size, tokens_in, first_size, bytes_before}
use Rattle.std.proofs.lemmas.Bool.{and_parts, false≢true}
use Rattle.meaning.proofs.TextPlaces.{bytes_next}
use Rattle.rows.specs.Scanned.{is_ended, next_row_at}
use Rattle.rows.proofs.FirstRow.{after_row, next_rows}
use Rattle.rows.proofs.Laws.{even-ended}
use Rattle.faults.proofs.RowBytes.{end-bytes}

-- a list from place n on
module _ (n : ℕ) (rs : List (List Token)) where
  pub at_place : {qs : List (List Token)} → drop n rs ≡ qs → get_or rs n [] ≡ get_or qs 0 []
  at_place e = let z : n + 0 ≡ n = omega arith in rw z at (sym (get_or-drop n rs 0 []) ∙ ap (λ (l : List (List Token)). get_or l 0 []) e)

  pub from_next : {r : List Token} {after : List (List Token)} → drop n rs ≡ r ∷ after → drop (suc n) rs ≡ after
  from_next e = let z : suc n ≡ n + 1 = omega arith in rw z (sym (drop-drop 1 n rs) ∙ ap (drop 1) e)

pub tokens-next :
    (paired : Bool) (n : ℕ) (rs : List (List Token)) (r : List Token) (after : List (List Token)) → drop n rs ≡ r ∷ after
    → tokens_in paired (take (suc n) rs) ≡ tokens_in paired (take n rs) + (length r + break_size paired)
unfolding tokens_in
tokens-next paired zero rs r after e = rw e (omega arith)
tokens-next paired (suc n) [] r after e = absurd (omega (arith, ap length e))
tokens-next paired (suc n) (x ∷ rs) r after e = omega (arith, tokens-next paired n rs r after e)

-- from the end e of a row, T tokens after the text's start, its break leads to the next row
pub break_passed :
    (s : List ℕ) (paired : Bool) (T e next : ℕ) {n : ℕ} → next ≡ suc e → next ≡ bytes_before (suc T) s
    → (paired ≡ true → end_first (tokens (drop next s)) ≡ true) → n ≡ next_row_at s paired next
    → (n ≡ e + break_size paired) × (n ≡ bytes_before (T + break_size paired) s)
unfolding next_row_at
break_passed s true T e next a b d h =
    let w = end-bytes s next (d refl) in
    let z : T + 2 ≡ suc (suc T) = omega arith in
    (omega (arith, w.0), rw z (h ∙ w.1 ∙ ap (λ (k : ℕ). k + first_size (drop k s)) b ∙ sym (bytes_next (suc T) s)))
break_passed s false T e next a b d h = let z : T + 1 ≡ suc T = omega arith in (omega arith, rw z (h ∙ b))

-- where row ends are paired and even, a second one follows that after a row
pub even-next :
    (paired : Bool) (us : List Token) → is_ended us ≡ true → (not paired || even_from false us) ≡ true
    → (paired ≡ true → end_first (after_row us) ≡ true) × ((not paired || even_from false (next_rows paired us)) ≡ true)
unfolding next_rows
even-next true us z e = let w = and_parts _ _ (sym (even-ended us z) ∙ e) in (λ p. w.0, w.1)
even-next false us z e = (λ p. absurd (false≢true p), refl)
