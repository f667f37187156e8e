-- The marks are the rows with a place ahead that is one of the first r rows.
use Rattle.row_marks.specs.RowMarks.{Marked}
use Rattle.walks.proofs.Walking.{ahead_below}
use Rattle.walks.proofs.rows_ahead.Given as goal

abbrev pub invariant-loop-r : goal.invariant-loop-r
invariant-loop-r l = Marked l.n (ahead_below l.grid l.places l.r) l.marks
