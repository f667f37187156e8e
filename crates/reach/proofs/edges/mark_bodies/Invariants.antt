-- The loop's invariant: the steps of the calls of the rows below k are taken.
use Prim.Native.Nat.{◌≤◌}
use mathlib.Core.Path.{◌≡◌}
use lib.ListN.{length}
use Rattle.store.specs.Rows.{store_program}
use Rattle.tables.specs.Tables.{store_flow}
use Rattle.reach.specs.Edges.{any_body}
use Rattle.grids.specs.Grid.{Follows}
use Rattle.reach.proofs.edges.mark_bodies.Given as goal

abbrev pub invariant-loop-k : goal.invariant-loop-k
invariant-loop-k l =
    (l.k ≤ l.rows) × ((length l.grid ≡ length l.initial.grid) × Follows l.rows (any_body (store_program l.rows l.store) (store_flow l.store) l.q l.rest l.f l.k) l.initial.grid l.grid l.changed)
