-- The loop's invariant: the grid tells the closure by way of the rows below k.
use Prim.Native.Nat.{◌≤◌}
use mathlib.Core.Path.{◌≡◌}
use lib.ListN.{length}
use Rattle.grids.proofs.Closing.{ClosesTo}
use Rattle.grids.proofs.rounds.close.Given as goal

abbrev pub invariant-loop-k : goal.invariant-loop-k
invariant-loop-k l =
    (l.k ≤ l.n) × ((length l.grid ≡ length l.initial.grid) × ClosesTo l.n l.k l.initial.grid l.grid)
