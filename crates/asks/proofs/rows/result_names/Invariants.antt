-- The loop's invariant: the first t names are those of the results, the others 0.
use Rattle.std.proofs.Common.{◌≤◌}
use Rattle.program.specs.Program.{result_name}
use Rattle.store.specs.Rows.{store_program}
use Rattle.asks.proofs.Results.{Filled}
use Rattle.asks.proofs.rows.result_names.Given as goal

abbrev pub invariant-loop-t : goal.invariant-loop-t
invariant-loop-t l =
    (l.t ≤ l.rows) × Filled l.t (result_name (store_program l.rows l.store)) l.names
