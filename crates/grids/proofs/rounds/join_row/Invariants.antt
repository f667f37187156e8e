-- The loop's invariant: the row is joined up to column j, and `changed` is 0 only where that altered nothing.
use Prim.Native.Nat.{◌≤◌}
use mathlib.Core.Path.{◌≡◌}
use lib.ListN.{length}
use Rattle.grids.proofs.Passes.{JoinedSo}
use Rattle.grids.proofs.rounds.join_row.Given as goal

abbrev pub invariant-loop-j : goal.invariant-loop-j
invariant-loop-j l =
    (l.j ≤ l.n) × ((length l.grid ≡ length l.initial.grid) × JoinedSo l.initial.grid l.i l.way l.j l.grid l.changed)
