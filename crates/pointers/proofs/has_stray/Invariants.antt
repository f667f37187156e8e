-- The loop's invariant: the answer so far is that for the rows before the next one.
use Rattle.std.proofs.Common.{◌≡◌, take}
use Rattle.pointers.specs.Strays.{strays}
use Rattle.pointers.proofs.has_stray.Given as goal

abbrev pub invariant-loop-t : goal.invariant-loop-t
invariant-loop-t l = l.stray ≡ strays l.rows l.r (take l.t-index l.targets)
