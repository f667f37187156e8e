-- The loop's invariant: from the cell where it stands the name has the value that it has from the start. Each cell that it goes to is older, so the loop ends.
use mathlib.Core.Path.{◌≡◌}
use Rattle.machine.specs.Machine.{find}
use Rattle.run_memory.specs.RunMemory.{cells_in, memory_in}
use Rattle.lookups.proofs.find.Given as goal

abbrev pub invariant-loop-k : goal.invariant-loop-k
invariant-loop-k l =
    find (cells_in l.run l.k) l.k l.name ≡ find (memory_in l.run).cells l.from l.name

abbrev pub decreases-loop-k : goal.decreases-loop-k
decreases-loop-k l = l.k
