-- `block_free` meets its contract. The loop's invariant: if `found` is 0, none of the first i rows of the block is in the set.
use Prim.Native.Nat.{◌≤◌}
use mathlib.Core.Path.{◌≡◌}
use Rattle.received.specs.Received.{Free}
use Rattle.received.proofs.block_free.Given as goal

abbrev pub invariant-loop-i : goal.invariant-loop-i
invariant-loop-i l =
    (l.i ≤ l.rows) × (l.found ≡ 0 → Free l.set l.k l.i)
