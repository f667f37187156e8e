-- r rows stand before row r, and the count is theirs and that of the rows from r on.
use Rattle.row_bytes.proofs.Counting.{CountedTo}
use Rattle.row_bytes.proofs.count_rows.Given as goal

abbrev pub invariant-loop-r : goal.invariant-loop-r
invariant-loop-r l = CountedTo l.store l.r
