-- The bytes of a row, and the position after it.
-- Assumes nothing.
use Prim.Native.Nat.{ℕ, zero, suc, ◌+◌, ◌≤◌}
use native.Mathlib.Omega.{arith}
use mathlib.Core.Path.{◌≡◌, refl, sym, ap, ◌∙◌}
use mathlib.Core.Bool.{true, false}
use mathlib.Core.List.{List, ◌∷◌}
use lib.ListN.{length, drop}
use lib.Seq.{drop-drop}
use Rattle.meaning.specs.declared.Token.{Token}
use Rattle.meaning.specs.Codes.{tokens, is_row_end}
use Rattle.meaning.specs.Rows.{first_row}
use Rattle.meaning.specs.TextRules.{end_first, first_size, bytes_before}
use Rattle.std.proofs.lemmas.Bool.{false≢true}
use Rattle.meaning.proofs.Logic.{by_test, by_le}
use Rattle.meaning.proofs.TextPlaces.{size-end}
use Rattle.charset.specs.declared.Reading.{Reading}
use Rattle.charset.specs.Reading.{token_at, next_at, after_row_at, after_end_at}
use Rattle.charset.proofs.Positions.{row-over}
use Rattle.charset.proofs.Laws.{ReadOn, read_at, tokens-end}
use Rattle.rows.specs.Scanned.{is_ended}
use Rattle.rows.proofs.Laws.{first-none, first-end, first_more, ended-none, ended-end, ended-more}
use Rattle.rows.proofs.RowEnds.{row-end, row_more, end-first}

bytes-none : (s : List ℕ) → bytes_before 0 s ≡ 0
unfolding bytes_before
bytes-none s = refl

-- the first of some tokens from i on is the one read at i
bytes_on : {s : List ℕ} {i : ℕ} {r : Reading} (k : ℕ) → ReadOn s i r → i + bytes_before (suc k) (drop i s) ≡ r.next + bytes_before k (drop r.next s)
unfolding bytes_before
bytes_on {s} {i} k o = rw (o.size, drop-drop (first_size (drop i s)) i s) (omega arith)

-- n is the position after the row from i on: with a row end it lies one byte after the row, and with none at its end
pub record RowBytes (s : List ℕ) (i n : ℕ) : Type 0 where
  pub row : ℕ
  pub size : row ≡ length (first_row (tokens (drop i s)))
  pub end : is_ended (tokens (drop i s)) ≡ true → n ≡ suc (i + bytes_before row (drop i s))
  pub on : is_ended (tokens (drop i s)) ≡ true → n ≡ i + bytes_before (suc row) (drop i s)
  pub last : is_ended (tokens (drop i s)) ≡ false → n ≡ i + bytes_before row (drop i s)

bytes-over : (s : List ℕ) (i : ℕ) → length s ≤ i → RowBytes s i (after_row_at s i)
bytes-over s i h =
    let t = tokens-end s i h in
    let f = ap is_ended t ∙ ended-none in
    rw (row-over s i h)
    (record {
      row = 0;
      size = sym (ap length (ap first_row t ∙ first-none));
      end = λ e. absurd (false≢true (sym f ∙ e));
      on = λ e. absurd (false≢true (sym f ∙ e));
      last = λ e. omega (arith, bytes-none (drop i s));
    })

first-is-end : {us : List Token} (t : Token) (ts : List Token) → us ≡ t ∷ ts → is_row_end t ≡ true → end_first us ≡ true
unfolding end_first
first-is-end t ts f e = rw f e

module _ {s : List ℕ} {i : ℕ} {r : Reading} (o : ReadOn s i r) where
  bytes-end : is_row_end r.token ≡ true → RowBytes s i (after_row_at s i)
  bytes-end e =
      let ts = tokens (drop r.next s) in
      let one = first-is-end r.token ts o.first e in
      rw (row-end o e)
      (record {
        row = 0;
        size = sym (ap length (ap first_row o.first ∙ first-end r.token ts e));
        end = λ z. omega (arith, o.size, size-end (drop i s) one, bytes-none (drop i s));
        on = λ z. omega (arith, bytes_on 0 o, bytes-none (drop r.next s));
        last = λ z. absurd (false≢true (sym z ∙ ap is_ended o.first ∙ ended-end r.token ts e));
      })

  bytes-more : is_row_end r.token ≡ false → RowBytes s r.next (after_row_at s r.next) → RowBytes s i (after_row_at s i)
  bytes-more e p =
      let ts = tokens (drop r.next s) in
      let f = ap is_ended o.first ∙ ended-more r.token ts e in
      rw (row_more o e)
      (record {
        row = suc p.row;
        size = rw p.size (sym (ap length (ap first_row o.first ∙ first_more r.token ts e)));
        end = λ z. omega (arith, bytes_on p.row o, p.end (sym f ∙ z));
        on = λ z. omega (arith, bytes_on (suc p.row) o, p.on (sym f ∙ z));
        last = λ z. omega (arith, bytes_on p.row o, p.last (sym f ∙ z));
      })

row_bytes_in : (k : ℕ) (s : List ℕ) (i : ℕ) → length s ≤ i + k → RowBytes s i (after_row_at s i)
row_bytes_in zero s i h = bytes-over s i (omega arith)
row_bytes_in (suc k) s i h =
    by_le (length s) i (bytes-over s i)
    (λ l.
    let o = read_at s i l in
    by_test (is_row_end (token_at s i)) (bytes-end o) (λ e. bytes-more o e (row_bytes_in k s (next_at s i) (omega (arith, o.on)))))

pub row-bytes : (s : List ℕ) (i : ℕ) → RowBytes s i (after_row_at s i)
row-bytes s i = row_bytes_in (length s) s i (omega arith)

-- a row end takes one byte
pub end-bytes : (s : List ℕ) (i : ℕ) → end_first (tokens (drop i s)) ≡ true → (after_end_at s i ≡ suc i) × (after_end_at s i ≡ i + first_size (drop i s))
unfolding after_end_at end_first
end-bytes s i e =
    let one = size-end (drop i s) e in
    by_le (length s) i
    (λ h. absurd (false≢true (sym (ap end_first (tokens-end s i h)) ∙ e)))
    (λ h. let o = read_at s i h in rw (end-first s i ∙ e) (omega (arith, o.size), o.size))
