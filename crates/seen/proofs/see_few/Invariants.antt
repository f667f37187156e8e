-- The loop's invariant: the numbers before the next one are added.
use Rattle.std.proofs.Common.{take}
use Rattle.seen.specs.Seen.{Adds}
use Rattle.seen.proofs.see_few.Given as goal

abbrev pub invariant-loop-n : goal.invariant-loop-n
invariant-loop-n l = Adds l.initial.marks (take l.n-index l.numbers) l.marks l.again
