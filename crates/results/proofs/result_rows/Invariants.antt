-- The loop's invariant: the bytes are the result rows of the rows that are done, which are those from one on.
use Rattle.std.proofs.Common.{◌≡◌, length}
use Rattle.format.specs.Limits.{row_limit}
use Rattle.store.specs.Rows.{store_program}
use Rattle.results.specs.Results.{ResultsFrom}
use Rattle.results.proofs.result_rows.Given as goal

abbrev pub invariant-loop-t : goal.invariant-loop-t
invariant-loop-t l = (length l.results ≡ row_limit) × ResultsFrom (store_program l.rows l.store) l.t l.rows l.results
