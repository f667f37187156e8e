-- The marks are, of the first r rows, those that row 0 reaches.
use Prim.Native.Nat.{◌*◌}
use Rattle.format.specs.Limits.{row_limit}
use Rattle.row_marks.specs.RowMarks.{on, Marked}
use Rattle.walks.proofs.reached_rows.Given as goal

abbrev pub invariant-loop-r : goal.invariant-loop-r
invariant-loop-r l = Marked l.r (λ q. on l.grid (q * row_limit)) l.marks
