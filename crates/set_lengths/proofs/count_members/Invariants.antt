-- The loop's invariant: of the members, those among the bytes left are left to count.
use Rattle.number_lengths.proofs.Sums.{Counted}
use Rattle.set_lengths.proofs.Members.{count_from}
use Rattle.set_lengths.proofs.count_members.Given as goal

abbrev pub invariant-loop-b : goal.invariant-loop-b
invariant-loop-b l = Counted (count_from 0 l.flags) l.count (count_from l.b-index l.flags)
