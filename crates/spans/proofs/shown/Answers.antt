-- `shown` counts the blanks on black at both ends.
-- Assumes nothing.
use Prim.Native.Nat.{ℕ, ◌-◌}
use native.Mathlib.Omega.{arith}
use mathlib.Core.Path.{◌≡◌, sym, ap, ◌∙◌}
use mathlib.Core.List.{List, reverse}
use lib.ListN.{length, take, drop, length-map, length-take}
use Rattle.std.proofs.Common.{rules, tests}
use Rattle.std.specs.List.{prefix_len}
use Rattle.std.proofs.lemmas.List.{take_rest}
use Rattle.std.proofs.lemmas.List.Folds.{length-prefix_len}
use Rattle.std.proofs.lemmas.Iterator.{YieldsList-from_slice}
use Rattle.std.proofs.lemmas.Iterator.Search.{YieldsList-from_take_while}
use Rattle.std.proofs.lemmas.Iterator.Adapters.{YieldsList-from_rev_slice}
use Rattle.std.proofs.lemmas.Iterator.Consumers.{count_from_yields_List}
use Rattle.cells.specs.declared.PackedCell.{PackedCell}
use Rattle.meaning.specs.Cells.{is_blank_on_black, shown}
use Rattle.cells.specs.Packed.{cell_of, cells_in}
use Rattle.spans.proofs.Laws.{is_trimmed, shown_cut, prefix_len-map}
use Rattle.spans.proofs.shown.Goals as goal

pub returns-clause-shown : goal.returns-clause-shown
returns-clause-shown c =
    let cs = c.args.cells.now in
    let n = c.count-front.result in
    let left = take (length cs - n) (drop n cs) in
    let f =
    count_from_yields_List _ n c.count-front.ensures.ran
    (YieldsList-from_take_while _ is_trimmed (YieldsList-from_slice cs cc) c.take_while.ensures.closure c.take_while.ensures.done (λ x b q k. search (rules, tests)))
    ∙ length-prefix_len is_trimmed cs in
    let g =
    count_from_yields_List _ c.count-back.result c.count-back.ensures.ran
    (YieldsList-from_take_while _ is_trimmed (YieldsList-from_rev_slice left cc) c.take_while-2.ensures.closure c.take_while-2.ensures.done (λ x b q k. search (rules, tests)))
    ∙ length-prefix_len is_trimmed (reverse left) in
    let r = take_rest cs n in
    ap (λ (xs : List PackedCell). cells_in (take (length xs - c.count-back.result) xs)) r
    ∙ shown_cut cs f (g ∙ ap (λ (xs : List PackedCell). prefix_len is_trimmed (reverse xs)) r)

pub returns-clause-place : goal.returns-clause-place
returns-clause-place c =
    let cs = c.args.cells.now in
    let n = c.count-front.result in
    let left = take (length cs - n) (drop n cs) in
    let f : n ≡ prefix_len is_trimmed cs =
    count_from_yields_List _ n c.count-front.ensures.ran
    (YieldsList-from_take_while _ is_trimmed (YieldsList-from_slice cs cc) c.take_while.ensures.closure c.take_while.ensures.done (λ x b q k. search (rules, tests)))
    ∙ length-prefix_len is_trimmed cs in
    let few = length left - c.count-back.result in
    let m : few ≡ length (shown (cells_in cs)) = omega (arith, ap length (returns-clause-shown c), length-map (take few left) cell_of, length-take few left) in
    let k : n ≡ prefix_len is_blank_on_black (cells_in cs) = f ∙ sym (prefix_len-map is_blank_on_black cell_of cs) in
    (λ i. take (m i) ((take_rest cs n ∙ ap (λ (j : ℕ). drop j cs) k) i))
