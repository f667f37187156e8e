-- The loop's invariant: of the length, that of the lines from row r on is left.
use Rattle.number_lengths.proofs.Sums.{Counted}
use Rattle.row_lengths.proofs.Rows.{rows_from}
use Rattle.row_lengths.proofs.rows_length.Given as goal

abbrev pub invariant-loop-r : goal.invariant-loop-r
invariant-loop-r l = Counted (rows_from l.rows 0 l.store) l.total (rows_from l.rows l.r l.store)
