-- `plain_end` finds the end of a run of plain codes: the run from the index on ends where the whole run does.
-- Assumes nothing.
use Prim.Native.Nat.{◌+◌, ◌≤◌, max}
use mathlib.Core.Path.{◌≡◌}
use lib.ListN.{length, drop}
use Rattle.meaning.specs.Lists.{take_while}
use Rattle.charset.specs.Plain.{is_plain, plain_end}
use Rattle.charset.proofs.plain_end.Given as goal

abbrev pub invariant-loop-i : goal.invariant-loop-i
invariant-loop-i l =
    record {
      from : l.start ≤ l.i;
      most : l.i ≤ max l.start (length l.text);
      run : l.i + length (take_while is_plain (drop l.i l.text)) ≡ plain_end l.text l.start;
    }
