-- The marks of laid paragraphs are the looks in use.
-- Assumes nothing.
use Prim.Native.Nat.{ℕ, ◌<◌}
use native.Mathlib.Omega.{arith}
use mathlib.Core.Path.{◌≡◌, refl, sym, ap, ◌∙◌}
use mathlib.Core.Bool.{Bool, true, false, ◌||◌, or-false, or_assoc}
use mathlib.Core.List.{List, [], ◌∷◌}
use lib.Dec.{eqb}
use lib.ListN.{length, get_or, set, replicate, length-set, length-replicate, get_or-replicate}
use lib.Seq.{get_or-set_same, get_or-set_other}
use borrow.Author.Tests.{eqb-true, eqb-false}
use Rattle.meaning.specs.Lists.{any}
use Rattle.meaning.specs.Looks.{look_count}
use Rattle.meaning.specs.Document.{Paragraph, document_looks, is_used, looks_used}
use Rattle.std.proofs.lemmas.Bool.{or_right}
use Rattle.meaning.proofs.Logic.{by_test}
use Rattle.meaning.proofs.ListLaws.{any-cons}
use Rattle.styles.specs.Styles.{looks_marked}
use Rattle.styles.proofs.Laws.{marked_used}
use Rattle.text.specs.Laid.{marked_with}

any_none : {A : Type 0} (p : A → Bool) → any p [] ≡ false
unfolding any
any_none p = refl

set_mark : (on : List Bool) (j k : ℕ) → k < length on → get_or (set on j true) k false ≡ (get_or on k false || eqb k j)
set_mark on j k h =
    by_test (eqb k j)
    (λ e.
    let q = sym (eqb-true k j e) in
    rw (e, q) (get_or-set_same on k true false h ∙ sym (or_right (get_or on k false) true refl)))
    (λ e. rw e (get_or-set_other on j k true false (eqb-false k j e) ∙ sym (or-false (get_or on k false))))

-- a mark is set exactly if a span has its look
marked-at : (on : List Bool) (ls : List ℕ) (k : ℕ) → k < length on → get_or (marked_with on ls) k false ≡ (get_or on k false || any (eqb k) ls)
unfolding marked_with
marked-at on [] k h = rw (any_none (eqb k)) (sym (or-false (get_or on k false)))
marked-at on (l ∷ ls) k h =
    marked-at (set on l true) ls k (omega (arith, length-set on l true))
    ∙ ap (λ (b : Bool). b || any (eqb k) ls) (set_mark on l k h)
    ∙ or_assoc (get_or on k false) (eqb k l) _
    ∙ ap (λ (b : Bool). get_or on k false || b) (sym (any-cons (eqb k) l ls))

pub looks-right : {on : List Bool} (ps : List Paragraph) → on ≡ marked_with (replicate look_count false) (document_looks ps) → looks_marked on ≡ looks_used ps
looks-right {on} ps e =
    marked_used on ps
    (λ k h.
    ap (λ (l : List Bool). get_or l k false) e
    ∙ marked-at (replicate look_count false) (document_looks ps) k (omega (arith, length-replicate look_count false))
    ∙ unfold is_used in ap (λ (b : Bool). b || any (eqb k) (document_looks ps)) (get_or-replicate look_count k false false h))
