-- The loop's invariant: the grid has nothing but what is reached, and every step once they are taken.
use Rattle.program.specs.Walk.{edge}
use Rattle.store.specs.Rows.{store_program}
use Rattle.tables.specs.Tables.{store_flow}
use Rattle.results.specs.Results.{ResultRows}
use Rattle.reach.proofs.Steps.{Taken}
use Rattle.reach.proofs.fill_reach.Given as goal

abbrev pub invariant-loop : goal.invariant-loop
invariant-loop l =
    Taken l.rows l.counter (edge (store_program l.rows l.store) (store_flow l.store)) l.initial.grid l.grid × ResultRows (store_program l.rows l.store) l.rows l.results
