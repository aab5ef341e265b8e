-- `entry` gives the entry of a row and a column in the one table: an answer for each row. Tried: the law `in_row` named on the function;
-- the search finds no part of the table in a row's numbers.
-- Assumes nothing.
use mathlib.Core.Path.{◌≡◌, sym, ◌∙◌}
use Prim.Native.Nat.{ℕ, ◌+◌, ◌*◌, ◌≤◌, ◌<◌}
use native.Mathlib.Omega.{arith}
use lib.ListN.{get_or, take, drop, get_or-eq_default}
use lib.Seq.{get_or-take, get_or-drop}
use Rattle.meaning.specs.Tables.{composed_table}
use Rattle.charset.proofs.composed_table.entry.Goals as goal

-- a row of the table, read at a column
in_row : (r row column : ℕ) → row ≡ r → column < 52 → get_or (take 52 (drop (52 * r) composed_table)) column 0 ≡ get_or composed_table (52 * row + column) 0
in_row r row column e h = rw e (get_or-take 52 (drop (52 * r) composed_table) column 0 h ∙ get_or-drop (52 * r) composed_table column 0)

pub returns-in-0 : goal.returns-in-0
unfolding composed_table
returns-in-0 c = in_row 0 _ _ c.in-0.is (omega arith)

pub returns-in-1 : goal.returns-in-1
unfolding composed_table
returns-in-1 c = in_row 1 _ _ c.in-1.is (omega arith)

pub returns-in-2 : goal.returns-in-2
unfolding composed_table
returns-in-2 c = in_row 2 _ _ c.in-2.is (omega arith)

pub returns-in-3 : goal.returns-in-3
unfolding composed_table
returns-in-3 c = in_row 3 _ _ c.in-3.is (omega arith)

pub returns-in-4 : goal.returns-in-4
unfolding composed_table
returns-in-4 c = in_row 4 _ _ c.in-4.is (omega arith)

pub returns-in-5 : goal.returns-in-5
unfolding composed_table
returns-in-5 c = in_row 5 _ _ c.in-5.is (omega arith)

pub returns-in-6 : goal.returns-in-6
unfolding composed_table
returns-in-6 c = in_row 6 _ _ c.in-6.is (omega arith)

pub returns-in-7 : goal.returns-in-7
unfolding composed_table
returns-in-7 c = in_row 7 _ _ c.in-7.is (omega arith)

pub returns-in-8 : goal.returns-in-8
unfolding composed_table
returns-in-8 c = in_row 8 _ _ c.in-8.is (omega arith)

pub returns-in-9 : goal.returns-in-9
unfolding composed_table
returns-in-9 c = in_row 9 _ _ c.in-9.is (omega arith)

pub returns-in-10 : goal.returns-in-10
unfolding composed_table
returns-in-10 c = in_row 10 _ _ c.in-10.is (omega arith)

pub returns-in-11 : goal.returns-in-11
unfolding composed_table
returns-in-11 c = in_row 11 _ _ c.in-11.is (omega arith)

pub returns-in-12 : goal.returns-in-12
unfolding composed_table
returns-in-12 c = in_row 12 _ _ c.in-12.is (omega arith)

pub returns-in_default : goal.returns-in_default
unfolding composed_table
returns-in_default c =
    let args = c.args in
    let past : 676 ≤ 52 * args.row + args.column = omega arith in
    sym (get_or-eq_default composed_table 0 past)
