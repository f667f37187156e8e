-- `join` meets its contract. The loop's invariant: the bytes below i are joined.
use Prim.Native.Nat.{◌≤◌}
use mathlib.Core.Path.{◌≡◌}
use lib.ListN.{length}
use Rattle.calls.specs.Layout.{member_limit}
use Rattle.sets.specs.Sets.{Bytewise}
use Rattle.received.proofs.Gathering.{joined}
use Rattle.received.proofs.join.Given as goal

abbrev pub invariant-loop-i : goal.invariant-loop-i
invariant-loop-i l =
    (l.i ≤ member_limit) × (length l.set ≡ length l.initial.set) × Bytewise joined l.i l.other l.initial.set l.set
