-- `look_of` searches for the first cell that is no blank.
-- Assumes nothing.
use mathlib.Core.Path.{◌∙◌}
use Rattle.std.proofs.Common.{rules, tests}
use Rattle.std.proofs.lemmas.Iterator.{YieldsList-from_slice}
use Rattle.std.proofs.lemmas.Iterator.Search.{find_from_yields_List}
use Rattle.meaning.specs.Looks.{white_on_black}
use Rattle.spans.proofs.Laws.{no_blank, found, look_none, look_first}
use Rattle.spans.proofs.look_of.Goals as goal

pub returns-in_default : goal.returns-in_default
unfolding white_on_black
returns-in_default c = look_none c.args.cells.now (rw c.in_default.is at c.first.ensures.value)

pub returns : goal.returns
unfolding white_on_black
returns c =
    let cs = c.args.cells.now in
    let f =
    find_from_yields_List no_blank _ _ c.find.result c.find.ensures.ran (YieldsList-from_slice cs c.iter.ensures.rest)
    (λ x b q k. search (rules, tests)) in
    let fore = found cs c.find.result c.map_or-foreground.ensures (λ x p. search (rules, tests)) f in
    c.blend.ensures ∙ look_first cs c.in-Some.first.now (rw c.in-Some.is at c.first.ensures.value) c.unpack.ensures fore
