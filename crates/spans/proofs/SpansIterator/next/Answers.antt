-- `next` takes the cells that fit the look of all that are left.
-- Assumes nothing.
use mathlib.Core.Path.{sym, ap, ◌∙◌}
use lib.ListN.{length}
use Rattle.std.proofs.Common.{rules, tests}
use Rattle.std.proofs.lemmas.List.Folds.{length-prefix_len}
use Rattle.std.proofs.lemmas.Iterator.{YieldsList-from_slice}
use Rattle.std.proofs.lemmas.Iterator.Search.{YieldsList-from_take_while}
use Rattle.std.proofs.lemmas.Iterator.Consumers.{count_from_yields_List}
use mathlib.Core.Bool.{Bool}
use Rattle.std.specs.List.{prefix_len}
use Rattle.meaning.specs.declared.Look.{Look}
use Rattle.meaning.specs.Looks.{unpack}
use Rattle.meaning.specs.Spans.{fits}
use Rattle.cells.specs.declared.PackedCell.{PackedCell}
use Rattle.cells.specs.Packed.{cell_of}
use Rattle.spans.proofs.Laws.{look-kept, next_read, stands_first, read_none}
use Rattle.spans.proofs.SpansIterator.next.Goals as goal

pub returns-then-is_empty-clause-steps : goal.returns-then-is_empty-clause-steps
returns-then-is_empty-clause-steps c =
    let z = read_none c.args.self.now.cells.now (sym c.is_empty.ensures ∙ c.if-is_empty.true) in
    record { first = (z, z); place = tt }

pub returns-clause-steps : goal.returns-clause-steps
returns-clause-steps c =
    let cs = c.args.self.now.cells.now in
    let t : PackedCell → Bool = λ x. fits (unpack c.pack-look.result) (cell_of x) in
    let e = look-kept cs c.look_of.ensures c.pack-look.ensures in
    let n =
    count_from_yields_List c.take_while.result c.count-length.result c.count-length.ensures.ran
    (YieldsList-from_take_while _ t (YieldsList-from_slice cs cc) c.take_while.ensures.closure c.take_while.ensures.done (λ x b q k. search (rules, tests)))
    ∙ length-prefix_len t cs ∙ ap (λ (l : Look). prefix_len (λ x. fits l (cell_of x)) cs) e in
    let some = sym c.is_empty.ensures ∙ c.if-is_empty.false in
    let read = next_read cs some n c.split_at.ensures.front c.split_at.ensures.back c.look_of-2.ensures c.pack-look-2.ensures in
    record {
      first = cc;
      place = stands_first cs some n c.split_at.ensures.front c.split_at.ensures.back;
    }

pub returns-clause-goes : goal.returns-clause-goes
returns-clause-goes c = let shorter = ap length (returns-clause-steps c).first in search rules
