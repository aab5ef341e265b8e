-- The byte that names a row.
-- Assumes nothing.
use Prim.Native.Nat.{ℕ, ◌-◌}
use mathlib.Core.Path.{◌≡◌, sym, ap, ◌∙◌}
use mathlib.Core.Bool.{Bool, true, false, not, ◌&&◌}
use mathlib.Core.List.{List, []}
use lib.Dec.{ltb}
use lib.ListN.{length, drop}
use borrow.Author.Tests.{lt-ltb, ltb-true, not-true, not-false}
use Rattle.meaning.specs.Codes.{tokens, is_row_end}
use Rattle.meaning.specs.Rows.{first_row}
use Rattle.meaning.specs.TextRules.{break_size}
use Rattle.std.proofs.lemmas.Bool.{and_parts}
use Rattle.meaning.proofs.Logic.{by_le}
use Rattle.charset.specs.declared.Reading.{Reading}
use Rattle.charset.specs.Reading.{reading_at}
use Rattle.charset.proofs.Laws.{read-on, tokens-end}
use Rattle.rows.proofs.Laws.{first-none, first-end, first_more}
use Rattle.faults.specs.Searching.{row_name}

module _ (s : List ℕ) (paired : Bool) (start : ℕ) {r : Reading} {end : Bool} (q : r ≡ reading_at s start) (b : end ≡ is_row_end r.token) where
  -- by its first byte
  pub name_first : (ltb start (length s) && not end) ≡ true → start ≡ row_name paired start (first_row (tokens (drop start s)))
  unfolding row_name
  name_first e =
      let w = and_parts (ltb start (length s)) (not end) e in
      let o = read-on q (ltb-true start (length s) w.0) in
      let row = ap first_row o.first ∙ first_more r.token (tokens (drop r.next s)) (sym b ∙ not-true end w.1) in
      sym (ap (row_name paired start) row)

  -- by the break before it
  empty : (ltb start (length s) && not end) ≡ false → first_row (tokens (drop start s)) ≡ []
  empty e =
      by_le (length s) start
      (λ h. ap first_row (tokens-end s start h) ∙ first-none)
      (λ h.
      let o = read-on q h in
      let f : not end ≡ false = rw (lt-ltb start (length s) h) at e in
      ap first_row o.first ∙ first-end r.token (tokens (drop r.next s)) (sym b ∙ not-false end f))

  pub name_break :
      {n : ℕ} → (ltb start (length s) && not end) ≡ false → n ≡ start - break_size paired
      → n ≡ row_name paired start (first_row (tokens (drop start s)))
  unfolding row_name
  name_break e f = f ∙ sym (ap (row_name paired start) (empty e))
