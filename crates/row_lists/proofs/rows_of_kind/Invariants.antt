-- The list has, of the first r rows, those of the kind.
use Prim.Native.Nat.{◌≤◌}
use lib.ListN.{length}
use Rattle.row_lists.specs.Lists.{Has}
use Rattle.row_lists.proofs.OfKind.{below}
use Rattle.row_lists.proofs.rows_of_kind.Given as goal

abbrev pub invariant-loop-r : goal.invariant-loop-r
invariant-loop-r l = (length l.list ≤ l.r) × Has (below l.store l.kind l.r) l.list
