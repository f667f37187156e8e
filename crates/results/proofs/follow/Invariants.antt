-- The loop's invariant: from r in the steps that are left one comes to where one comes from t in all of them.
use Rattle.std.proofs.Common.{◌≡◌, ◌-◌}
use Rattle.program.specs.Program.{result_from}
use Rattle.store.specs.Rows.{store_program}
use Rattle.results.proofs.follow.Given as goal

abbrev pub invariant-loop : goal.invariant-loop
invariant-loop l =
    result_from (l.rows - l.counter) (store_program l.rows l.store) l.r ≡ result_from l.rows (store_program l.rows l.store) l.t
