-- The loop's invariant: the steps that the rows below q give are taken.
use Prim.Native.Nat.{◌≤◌}
use mathlib.Core.Path.{◌≡◌}
use lib.ListN.{length}
use Rattle.store.specs.Rows.{store_program}
use Rattle.tables.specs.Tables.{store_flow}
use Rattle.reach.specs.Edges.{any_row}
use Rattle.grids.specs.Grid.{Follows}
use Rattle.reach.proofs.edges.take_steps.Given as goal

abbrev pub invariant-loop-q : goal.invariant-loop-q
invariant-loop-q l =
    (l.q ≤ l.rows) × ((length l.grid ≡ length l.initial.grid) × Follows l.rows (any_row (store_program l.rows l.store) (store_flow l.store) l.q) l.initial.grid l.grid l.changed)
