-- The loop over a row, seen from what is left of it.
-- Assumes nothing.
use Prim.Native.Nat.{ℕ, ◌-◌, ◌≤◌}
use native.Mathlib.Omega.{arith}
use mathlib.Core.Path.{◌≡◌, refl, sym, ap, ◌∙◌}
use mathlib.Core.Bool.{Bool, true, false, ◌||◌}
use mathlib.Core.List.{List, [], ◌∷◌, map, ◌++◌, append-nil, append_assoc}
use lib.ListN.{length, take, drop, length-take, length-drop}
use Rattle.std.specs.Prelude.{Some, None}
use lib.Seq.{append_snoc}
use Rattle.meaning.specs.declared.Token.{Token}
use Rattle.meaning.specs.Codes.{is_row_end, is_control_of, is_double_height, tokens}
use Rattle.meaning.specs.Lists.{all, any, keep}
use Rattle.meaning.specs.Rows.{is_double, first_row, height_first}
use Rattle.meaning.proofs.ListLaws.{any-cons}
use Rattle.charset.specs.declared.Reading.{Reading}
use Rattle.charset.proofs.Laws.{ReadOn, RunOn, tokens-end}
use Rattle.charset.specs.Plain.{plain_token}
use Rattle.rows.specs.declared.RowFacts.{RowFacts}
use Rattle.rows.specs.Scanning.{facts_of_row, with_token, with_characters}
use Rattle.rows.specs.Scanned.{row_end_after, Scanned}
use Rattle.rows.proofs.Laws.{first-none, first-end, first_more, first_run}
use Rattle.rows.proofs.Gathered.{with_token_lem, with_characters_lem}
use Rattle.rows.proofs.RowEnds.{end-here, end_later, end_run, end-over}

-- the row from `start` is what was read of it, and its rest from position i on; f has the facts of what was read
pub record RowLeft (teletext : Bool) (s : List ℕ) (start : ℕ) (f : RowFacts) (i : ℕ) : Type 0 where
  pub past : List Token
  pub facts : f ≡ facts_of_row teletext past
  pub row : past ++ first_row (tokens (drop i s)) ≡ first_row (tokens (drop start s))
  pub after : row_end_after s i ≡ row_end_after s start

pub left-start : (teletext : Bool) (s : List ℕ) (start : ℕ) → RowLeft teletext s start (record { cells = 0; listed = true; height = false; character = false; ordered = true }) start
unfolding facts_of_row all any keep height_first
left-start teletext s start = record { past = []; facts = refl; row = refl; after = refl }

module _ {teletext : Bool} {s : List ℕ} {start i : ℕ} {f : RowFacts} (l : RowLeft teletext s start f i) where
  -- a token of the row
  pub left-more : {r : Reading} {g : RowFacts} → ReadOn s i r → is_row_end r.token ≡ false → g ≡ with_token teletext f r.token → RowLeft teletext s start g r.next
  left-more {r} o e g =
      let ts = tokens (drop r.next s) in
      record {
        past = l.past ++ (r.token ∷ []);
        facts = rw (g, l.facts) (sym (with_token_lem teletext l.past r.token));
        row = append_snoc l.past r.token (first_row ts) ∙ ap (λ (us : List Token). l.past ++ us) (sym (ap first_row o.first ∙ first_more r.token ts e)) ∙ l.row;
        after = sym (end_later o e) ∙ l.after;
      }

  -- a run of plain codes, up to e
  pub left-run : {e : ℕ} {g : RowFacts} → RunOn s i e → g ≡ with_characters f (e - i) → RowLeft teletext s start g e
  left-run {e} o g =
      let cs = take (e - i) (drop i s) in
      let ts = tokens (drop e s) in
      let n : e - i ≡ length cs = omega (arith, length-take (e - i) (drop i s), length-drop i s, o.within) in
      record {
        past = l.past ++ map plain_token cs;
        facts = g ∙ ap (with_characters f) n ∙ rw l.facts (sym (with_characters_lem teletext l.past cs));
        row = append_assoc l.past (map plain_token cs) (first_row ts) ∙ ap (λ (us : List Token). l.past ++ us) (sym (ap first_row o.first ∙ first_run ts cs)) ∙ l.row;
        after = sym (end_run o) ∙ l.after;
      }

  -- nothing is left
  all_read : first_row (tokens (drop i s)) ≡ [] → f ≡ facts_of_row teletext (first_row (tokens (drop start s)))
  all_read e = l.facts ∙ ap (facts_of_row teletext) (sym (append-nil l.past) ∙ rw e at l.row)

  -- the row end
  pub left_end : {r : Reading} → ReadOn s i r → is_row_end r.token ≡ true → Scanned teletext s start (record { facts = f; after = Some r.next })
  left_end {r} o e =
      record {
        facts = all_read (ap first_row o.first ∙ first-end r.token (tokens (drop r.next s)) e);
        after = sym (end-here o e) ∙ l.after;
      }

  -- the end of the text
  pub left_over : length s ≤ i → Scanned teletext s start (record { facts = f; after = None })
  left_over h = record { facts = all_read (ap first_row (tokens-end s i h) ∙ first-none); after = sym (end-over s i h) ∙ l.after }

-- the rest of the first row from position i tells whether the text is double height
pub record HeightLeft (s : List ℕ) (i : ℕ) : Type 0 where
  pub height : any is_double_height (first_row (tokens (drop i s))) ≡ is_double (tokens s)

run-height : (cs : List ℕ) (ts : List Token) → any is_double_height (map plain_token cs ++ ts) ≡ any is_double_height ts
unfolding any is_control_of
run-height [] ts = refl
run-height (c ∷ cs) ts = run-height cs ts

module _ {s : List ℕ} {i : ℕ} (l : HeightLeft s i) where
  module _ {r : Reading} (o : ReadOn s i r) where
    first-here : is_row_end r.token ≡ false → first_row (tokens (drop i s)) ≡ r.token ∷ first_row (tokens (drop r.next s))
    first-here e = ap first_row o.first ∙ first_more r.token (tokens (drop r.next s)) e

    pub height-row-end : is_row_end r.token ≡ true → false ≡ is_double (tokens s)
    unfolding any
    height-row-end e = sym (ap (any is_double_height) (ap first_row o.first ∙ first-end r.token (tokens (drop r.next s)) e)) ∙ l.height

    module _ (e : is_row_end r.token ≡ false) where
      here : (is_double_height r.token || any is_double_height (first_row (tokens (drop r.next s)))) ≡ is_double (tokens s)
      here = sym (ap (any is_double_height) (first-here e) ∙ any-cons is_double_height r.token (first_row (tokens (drop r.next s)))) ∙ l.height

      pub height-here : is_double_height r.token ≡ true → true ≡ is_double (tokens s)
      height-here d = rw d at here

      -- another token, and the run after it
      pub height-more : {k : ℕ} → is_double_height r.token ≡ false → RunOn s r.next k → HeightLeft s k
      height-more {k} d w =
          let cs = take (k - r.next) (drop r.next s) in
          let ts = tokens (drop k s) in
          let run = ap (any is_double_height) (ap first_row w.first ∙ first_run ts cs) ∙ run-height cs (first_row ts) in
          record { height = sym run ∙ rw d at here }

  pub height-over : length s ≤ i → false ≡ is_double (tokens s)
  unfolding any
  height-over h = sym (ap (any is_double_height) (ap first_row (tokens-end s i h) ∙ first-none)) ∙ l.height
