-- Trimming by counts of blanks, and the first span by the look of all cells that are left.
-- Assumes nothing.
use Prim.Native.Nat.{ℕ, suc, ◌+◌, ◌-◌, ◌≤◌}
use native.Mathlib.Omega.{arith}
use mathlib.Core.Path.{◌≡◌, refl, sym, ap, subst, ◌∙◌}
use mathlib.Core.Bool.{Bool, true, false, not, ◌&&◌, and-true}
use mathlib.Core.List.{List, [], ◌∷◌, ◌++◌, map, reverse, append_assoc, append-nil}
use lib.Dec.{eqb}
use borrow.Author.Tests.{eqb-true}
use lib.ListN.{length, take, drop, get_or, length-append, length-map}
use lib.Seq.{take_all, length-take-le}
use Rattle.std.specs.Prelude.{Option, Some, None}
use Rattle.std.specs.List.{prefix_len, find, slice_get}
use denote.Ref.{Bor}
use Rattle.std.specs.Option.{MatchOption, option_map, option_map_or}
use Rattle.std.proofs.lemmas.List.{reverse-append, reverse-reverse, length-reverse, map-append, take-map, drop-map, take-append-le}
use Rattle.std.proofs.lemmas.List.Sums.{prefix_len-le-length}
use Rattle.std.proofs.lemmas.Iterator.{YieldsList}
use Rattle.std.proofs.lemmas.Iterator.Consumers.{YieldsList-from_shown}
use Rattle.meaning.specs.declared.Look.{Look}
use Rattle.meaning.specs.Lists.{all}
use Rattle.meaning.specs.Looks.{white_on_black, pack, unpack, blend}
use Rattle.meaning.specs.Cells.{Cell, is_blank, is_blank_on_black, trim_front, before_trimmed, trim_back, shown}
use Rattle.meaning.specs.Spans.{fits, foreground_of, look_of, uniform, spans_from, spans}
use Rattle.meaning.proofs.LookLaws.{ThreeBits, white-bits, blend-bits, unpack-bits, unpack-pack}
use Rattle.std.proofs.lemmas.Bool.{false≢true}
use Rattle.meaning.proofs.Logic.{by_test}
use Rattle.meaning.proofs.ListLaws.{all_cons, all_end, all_tested, test_split, test-nil}
use Rattle.laws.proofs.Fitting.{all_say, all_fit, refit_blank, is-uniform, one-uniform, look-shared}
use Rattle.laws.proofs.Trimming.{last-cut, last-kept, front_cut, front_kept}
use Rattle.cells.specs.declared.PackedCell.{PackedCell}
use Rattle.cells.specs.Packed.{cell_of, cells_in}
use Rattle.spans.specs.declared.Span.{Span}
use Rattle.spans.specs.declared.Spans.{Spans}
use Rattle.spans.specs.Spans.{with_look, spans_in, read_of, spans_left, cells_left, first_span, StandsFirst, GivesSpan}

module _ {A : Type 0} (p : A → Bool) (x : A) (xs : List A) where
  prefix_on : p x ≡ true → prefix_len p (x ∷ xs) ≡ suc (prefix_len p xs)
  prefix_on e = rw e (omega arith)

  prefix_off : p x ≡ false → prefix_len p (x ∷ xs) ≡ 0
  prefix_off e = rw e

-- a blank on black, as it is told of a packed cell
abbrev pub is_trimmed : PackedCell → Bool
is_trimmed c = is_blank_on_black (cell_of c)

trimmed_front : (cs : List PackedCell) → cells_in (drop (prefix_len is_trimmed cs) cs) ≡ trim_front (cells_in cs)
unfolding trim_front
trimmed_front [] = refl
trimmed_front (c ∷ cs) =
    by_test (is_trimmed c)
    (λ e. rw (prefix_on is_trimmed c cs e, front_cut (cell_of c) (cells_in cs) e) (trimmed_front cs))
    (λ e. rw (prefix_off is_trimmed c cs e, front_kept (cell_of c) (cells_in cs) e))

-- trimming the end, by the last cell
back_cut : (cs : List Cell) (c : Cell) → is_blank_on_black c ≡ true → trim_back (cs ++ (c ∷ [])) ≡ trim_back cs
unfolding trim_back
back_cut [] c e = last-cut c e
back_cut (b ∷ cs) c e = ap (before_trimmed b) (back_cut cs c e)

before_some : (b : Cell) (cs : List Cell) (c : Cell) → before_trimmed b (cs ++ (c ∷ [])) ≡ b ∷ cs ++ (c ∷ [])
unfolding before_trimmed
before_some b [] c = refl
before_some b (d ∷ cs) c = refl

back_kept : (cs : List Cell) (c : Cell) → is_blank_on_black c ≡ false → trim_back (cs ++ (c ∷ [])) ≡ cs ++ (c ∷ [])
unfolding trim_back
back_kept [] c e = last-kept c e
back_kept (b ∷ cs) c e = ap (before_trimmed b) (back_kept cs c e) ∙ before_some b cs c

trimmed_back : (ds : List PackedCell) → cells_in (take (length ds - prefix_len is_trimmed ds) (reverse ds)) ≡ trim_back (cells_in (reverse ds))
trimmed_back [] = unfold trim_back in refl
trimmed_back (d ∷ ds) =
    let r : reverse (d ∷ ds) ≡ reverse ds ++ (d ∷ []) = reverse-append (d ∷ []) ds in
    let size : length (reverse ds) ≡ length ds = length-reverse ds in
    let n = prefix_len is_trimmed ds in
    by_test (is_trimmed d)
    (λ e.
    let k : length (d ∷ ds) - prefix_len is_trimmed (d ∷ ds) ≡ length ds - n = rw e (omega arith) in
    rw (k, r, map-append cell_of (reverse ds) (d ∷ []), take-append-le (length ds - n) (reverse ds) (d ∷ []) (omega arith))
    (trimmed_back ds ∙ sym (back_cut (cells_in (reverse ds)) (cell_of d) e)))
    (λ e.
    let k : length (d ∷ ds) - prefix_len is_trimmed (d ∷ ds) ≡ length ds + 1 = rw e (omega arith) in
    rw (k, r, take_all (length ds + 1) (reverse ds ++ (d ∷ [])) (omega (arith, length-append (reverse ds) (d ∷ []))), map-append cell_of (reverse ds) (d ∷ []))
    (sym (back_kept (cells_in (reverse ds)) (cell_of d) e)))

-- what is shown, by the blanks on black in front, and those at the end of what is left
pub shown_cut :
    (cs : List PackedCell) {front back : ℕ} → front ≡ prefix_len is_trimmed cs → back ≡ prefix_len is_trimmed (reverse (drop front cs))
    → cells_in (take (length (drop front cs) - back) (drop front cs)) ≡ shown (cells_in cs)
unfolding shown
shown_cut cs {front} e f =
    let ds = drop front cs in
    let t = rw (reverse-reverse ds, length-reverse ds) at (trimmed_back (reverse ds)) in
    rw f (t ∙ ap trim_back (ap (λ (n : ℕ). cells_in (drop n cs)) e ∙ trimmed_front cs))

-- the foreground, as it is searched for
abbrev pub no_blank : PackedCell → Bool
no_blank c = not (is_blank (cell_of c))

abbrev foreground_found : Option PackedCell → Look
foreground_found o = option_map_or (λ (c : PackedCell). unpack c.look) o (white_on_black false)

foreground-found : (cs : List PackedCell) → foreground_found (find no_blank cs) ≡ foreground_of (cells_in cs)
unfolding foreground_of
foreground-found [] = refl
foreground-found (c ∷ cs) =
    by_test (is_blank (cell_of c))
    (λ e. rw (e, foreground_of) (foreground-found cs))
    (λ e. rw (e, foreground_of))

pub found :
    (cs : List PackedCell) (o : Option (Bor PackedCell)) {l : Look} {P : Bor PackedCell → Type 0} → MatchOption o (l ≡ white_on_black false) P
    → ((c : Bor PackedCell) → P c → l ≡ unpack c.now.look) → option_map (λ c. c.now) o ≡ find no_blank cs → l ≡ foreground_of (cells_in cs)
found cs None m h e = m ∙ ap foreground_found e ∙ foreground-found cs
found cs (Some c) m h e = h c m ∙ ap foreground_found e ∙ foreground-found cs

-- the look of cells, by the first of them
pub look_none : (cs : List PackedCell) → None ≡ slice_get cs 0 → white_on_black false ≡ look_of (cells_in cs)
unfolding look_of
look_none [] e = refl
look_none (c ∷ cs) e = cc

pub look_first :
    (cs : List PackedCell) (c : PackedCell) {l m : Look} → Some c ≡ slice_get cs 0 → l ≡ unpack c.look → m ≡ foreground_of (cells_in cs)
    → blend l m ≡ look_of (cells_in cs)
unfolding look_of
look_first [] c e f g = cc
look_first (d ∷ ds) c e f g = let z : c ≡ d = cc in rw (f, g, z)

foreground_some : (cs xs : List Cell) → all is_blank cs ≡ false → foreground_of (cs ++ xs) ≡ foreground_of cs
unfolding foreground_of
foreground_some [] xs e = absurd (false≢true (sym e ∙ test-nil is_blank))
foreground_some (b ∷ cs) xs e =
    by_test (is_blank b)
    (λ f. rw (f, foreground_of) (foreground_some cs xs (rw (all_cons is_blank b cs, f) at e)))
    (λ f. rw (f, foreground_of))

-- cells are uniform where all fit the look of a whole that starts with them
module _ (b : Cell) (cs xs : List Cell) where
  abbrev whole : Look
  whole = look_of (b ∷ cs ++ xs)

  refitted : uniform (b ∷ cs) ≡ true → all (fits whole) (b ∷ cs) ≡ true
  unfolding uniform
  refitted u =
      by_test (all is_blank (b ∷ cs))
      (λ e. all_fit (refit_blank (look_of (b ∷ cs)) whole (look-shared b (cs ++ xs) ∙ sym (look-shared b cs)) (all_tested is_blank (b ∷ cs) e) (all_say (look_of (b ∷ cs)) (b ∷ cs) u)))
      (λ e.
      let k : whole ≡ look_of (b ∷ cs) = unfold look_of in ap (blend b.look) (foreground_some (b ∷ cs) xs e) in
      ap (λ (l : Look). all (fits l) (b ∷ cs)) k ∙ u)

  uniform-in : uniform (b ∷ cs) ≡ all (fits whole) (b ∷ cs)
  uniform-in =
      by_test (all (fits whole) (b ∷ cs))
      (λ e. is-uniform whole b cs (all_say whole (b ∷ cs) e) ∙ sym e)
      (λ e. by_test (uniform (b ∷ cs)) (λ u. absurd (false≢true (sym e ∙ refitted u))) (λ u. u ∙ sym e))

pub prefix_len-map : {A B : Type 0} (p : B → Bool) (f : A → B) (xs : List A) → prefix_len p (map f xs) ≡ prefix_len (λ (x : A). p (f x)) xs
prefix_len-map p f [] = refl
prefix_len-map p f (x ∷ xs) = rw (prefix_len-map p f xs)

-- a span that was grown so far takes what fits the look of all that is left
grown :
    (b : Cell) (cs xs : List Cell) (m : Look) → m ≡ look_of (b ∷ cs ++ xs) → uniform (b ∷ cs) ≡ true
    → spans_from (b ∷ cs) xs ≡ (b ∷ cs ++ take (prefix_len (fits m) xs) xs) ∷ spans (drop (prefix_len (fits m) xs) xs)
unfolding spans_from spans
grown b cs [] m q u = rw (append-nil cs)
grown b cs (x ∷ xs) m q u =
    let a : (cs ++ (x ∷ [])) ++ xs ≡ cs ++ x ∷ xs = append_assoc cs (x ∷ []) xs in
    let fit : all (fits m) (b ∷ cs) ≡ true = rw q (refitted b cs (x ∷ xs) u) in
    let j : uniform (b ∷ cs ++ (x ∷ [])) ≡ fits m x =
    uniform-in b (cs ++ (x ∷ [])) xs ∙ ap (λ (ys : List Cell). all (fits (look_of (b ∷ ys))) (b ∷ cs ++ (x ∷ []))) a
    ∙ ap (λ (l : Look). all (fits l) (b ∷ cs ++ (x ∷ []))) (sym q) ∙ all_end (fits m) (b ∷ cs) x ∙ ap (λ (t : Bool). fits m x && t) fit ∙ and-true (fits m x) in
    by_test (fits m x)
    (λ e.
    let v : uniform (b ∷ cs ++ (x ∷ [])) ≡ true = j ∙ e in
    let k = prefix_len (fits m) xs in
    rw (v, spans_from, prefix_on (fits m) x xs e)
    (grown b (cs ++ (x ∷ [])) xs m (q ∙ ap (λ (ys : List Cell). look_of (b ∷ ys)) (sym a)) v
    ∙ ap (λ (ys : List Cell). (b ∷ ys) ∷ spans (drop k xs)) (append_assoc cs (x ∷ []) (take k xs))))
    (λ e.
    let v : uniform (b ∷ cs ++ (x ∷ [])) ≡ false = j ∙ e in
    rw (v, spans_from, prefix_off (fits m) x xs e, append-nil cs))

pub first-span :
    (b : Cell) (xs : List Cell) (n : ℕ) → n ≡ prefix_len (fits (look_of (b ∷ xs))) (b ∷ xs)
    → spans (b ∷ xs) ≡ take n (b ∷ xs) ∷ spans (drop n (b ∷ xs))
unfolding spans
first-span b xs n e =
    let m = look_of (b ∷ xs) in
    let own = (test_split (fits m) b [] (sym (uniform-in b [] xs) ∙ one-uniform b)).0 in
    rw (e, prefix_on (fits m) b xs own) (grown b [] xs m refl (one-uniform b))

-- whether a cell fits the look of all cells
abbrev pub fits_all : List PackedCell → PackedCell → Bool
fits_all cs c = fits (look_of (cells_in cs)) (cell_of c)

-- the look of packed cells is a packed one again
fore-bits : (cs : List PackedCell) → ThreeBits (foreground_of (cells_in cs))
unfolding foreground_of
fore-bits [] = white-bits false
fore-bits (c ∷ cs) =
    by_test (is_blank (cell_of c)) (λ e. rw (e, foreground_of) (fore-bits cs)) (λ e. rw (e, foreground_of) (unpack-bits c.look))

look_bits : (cs : List PackedCell) → ThreeBits (look_of (cells_in cs))
unfolding look_of
look_bits [] = white-bits false
look_bits (c ∷ cs) = blend-bits (unpack c.look) (foreground_of (cells_in (c ∷ cs))) (unpack-bits c.look) (fore-bits (c ∷ cs))

pub look-kept : (cs : List PackedCell) {l : Look} {k : ℕ} → l ≡ look_of (cells_in cs) → k ≡ pack l → unpack k ≡ look_of (cells_in cs)
look-kept cs e f = rw (f, e) (unpack-pack (look_of (cells_in cs)) (look_bits cs))

-- the first span of a slice that is not empty, and what is left behind it
pub next_read :
    (cs : List PackedCell) {n k : ℕ} {l : Look} {first rest : List PackedCell} → eqb (length cs) 0 ≡ false
    → n ≡ prefix_len (fits_all cs) cs → first ≡ take n cs → rest ≡ drop n cs
    → l ≡ look_of (cells_in first) → k ≡ pack l → spans_in cs ≡ (cells_in first, k) ∷ spans_in rest
next_read [] t e f r g h = absurd (false≢true (sym t))
next_read (c ∷ cs) {n = n} {k} {first = first} {rest} t e f r g h =
    let m = look_of (cells_in (c ∷ cs)) in
    let s = first-span (cell_of c) (cells_in cs) n (e ∙ sym (prefix_len-map (fits m) cell_of (c ∷ cs))) in
    let a : take n (cells_in (c ∷ cs)) ≡ cells_in first = take-map cell_of n (c ∷ cs) ∙ ap cells_in (sym f) in
    let b : drop n (cells_in (c ∷ cs)) ≡ cells_in rest = drop-map cell_of n (c ∷ cs) ∙ ap cells_in (sym r) in
    let p : k ≡ pack (look_of (cells_in first)) = h ∙ ap pack g in
    let u : spans (cells_in (c ∷ cs)) ≡ cells_in first ∷ spans (cells_in rest) = s ∙ rw (a, b) in
    rw p (ap (map with_look) u)

-- where it stands: its cells are as many as fit the look of all
pub stands_first :
    (cs : List PackedCell) {n : ℕ} {x : Span} {rest : List PackedCell} → eqb (length cs) 0 ≡ false
    → n ≡ prefix_len (fits_all cs) cs → x.cells.now ≡ take n cs → rest ≡ drop n cs → StandsFirst cs x rest
unfolding first_span
stands_first [] t e f r = absurd (false≢true (sym t))
stands_first (c ∷ cs) {n = n} t e f r =
    let m = look_of (cells_in (c ∷ cs)) in
    let s = first-span (cell_of c) (cells_in cs) n (e ∙ sym (prefix_len-map (fits m) cell_of (c ∷ cs))) in
    let few : n ≤ length (cells_in (c ∷ cs)) = omega (arith, e, prefix_len-le-length (fits_all (c ∷ cs)) (c ∷ cs), length-map (c ∷ cs) cell_of) in
    let k : n ≡ length (first_span (cells_in (c ∷ cs))) = sym (ap (λ (xs : List (List Cell)). length (get_or xs 0 [])) s ∙ length-take-le n (cells_in (c ∷ cs)) few) in
    record { cells = f ∙ ap (λ (j : ℕ). take j (c ∷ cs)) k; others = r ∙ ap (λ (j : ℕ). drop j (c ∷ cs)) k }

-- the numbers of a span that a call gave: how many cells it has, so that it ends that far behind its start, and its packed look
told-first : (ps : List (List Cell)) → get_or (map with_look ps) 0 (with_look []) ≡ with_look (get_or ps 0 [])
told-first [] = refl
told-first (p ∷ ps) = refl

module _ {s t : Spans} {x : Span} (g : GivesSpan s (Some x) t) where
  abbrev first_left : List Cell
  first_left = first_span (cells_in (cells_left s))

  pub span-told : (length x.cells.now ≡ length first_left) × (x.look ≡ pack (look_of first_left))
  unfolding first_span
  span-told =
      let e : read_of x ≡ with_look first_left =
      sym (ap (λ (l : List (List Cell × ℕ)). get_or l 0 (with_look [])) g.first) ∙ told-first (spans (cells_in (cells_left s))) in
      (sym (length-map x.cells.now cell_of) ∙ ap (λ (p : List Cell × ℕ). length p.0) e, ap (λ (p : List Cell × ℕ). p.1) e)

-- what calls give: the spans of the cells that are left, in turn
pub YieldsList-from_spans : {s : Spans} (xs : List (List Cell × ℕ)) → spans_left s ≡ xs → YieldsList GivesSpan read_of s xs
YieldsList-from_spans {s} xs e =
    subst (YieldsList GivesSpan read_of s) e (YieldsList-from_shown GivesSpan read_of spans_left (λ t u g. ap length g.first.0) (λ t x u g. g.first) s)

pub read_none : (cs : List PackedCell) → eqb (length cs) 0 ≡ true → spans_in cs ≡ []
unfolding spans
read_none [] e = refl
read_none (c ∷ cs) e = absurd (omega (arith, eqb-true (length (c ∷ cs)) 0 e))
