-- `put_styles` writes a line for each marked look: those below the next are written.
-- Assumes nothing.
use mathlib.Core.List.{flat_map}
use Rattle.meaning.specs.Document.{write_style}
use Rattle.output.specs.Output.{Put}
use Rattle.styles.specs.Styles.{marked_below}
use Rattle.styles.proofs.put_styles.Given as goal

abbrev pub invariant-loop-look : goal.invariant-loop-look
invariant-loop-look l = Put l.initial.w (flat_map write_style (marked_below l.marks.on l.look)) l.w
