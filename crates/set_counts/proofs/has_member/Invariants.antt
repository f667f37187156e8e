-- The loop's invariant: one was found so far, or there is one among the bytes left, exactly if the set has a member.
use mathlib.Core.Path.{◌≡◌}
use Rattle.format.specs.Read.{present}
use Rattle.calls.specs.Layout.{members_from}
use Rattle.set_counts.proofs.Members.{found_from}
use Rattle.set_counts.proofs.has_member.Given as goal

abbrev pub invariant-loop-b : goal.invariant-loop-b
invariant-loop-b l = found_from l.most l.b-index l.flags ≡ present (members_from 0 l.flags)
