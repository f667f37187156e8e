-- The loop's invariant: the rows below i have gone by way of row k, whose copy is of the grid at entry.
use Prim.Native.Nat.{◌≤◌}
use mathlib.Core.Path.{◌≡◌}
use lib.ListN.{length}
use Rattle.format.specs.Limits.{row_limit}
use Rattle.grids.specs.Rounds.{RowIs}
use Rattle.grids.proofs.Passes.{PassedTo}
use Rattle.grids.proofs.rounds.pass_all.Given as goal

abbrev pub invariant-loop-i : goal.invariant-loop-i
invariant-loop-i l =
    (l.i ≤ l.n) × ((length l.grid ≡ length l.initial.grid) × ((length l.way ≡ row_limit) × (RowIs row_limit l.initial.grid l.k l.way × PassedTo l.n l.initial.grid l.k l.i l.grid)))
