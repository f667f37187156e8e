-- The loop's invariant: of the text, the members from m on are left, behind the byte `sep` (`left_text`). The bytes left get fewer, so the loop ends.
use Prim.Native.Nat.{◌≤◌, ◌-◌}
use lib.ListN.{length, drop}
use Rattle.format.specs.Print.{set_text}
use Rattle.calls.specs.Layout.{members_from}
use Rattle.write_bytes.proofs.Progress.{Progress}
use Rattle.write_members.proofs.Members.{left_text}
use Rattle.write_members.proofs.put_set.Given as goal

abbrev pub invariant-loop-m : goal.invariant-loop-m
invariant-loop-m l =
    (l.m ≤ length l.flags) × Progress l.initial.out l.at (set_text (members_from 0 l.flags)) l.out l.next (left_text l.sep (members_from l.m (drop l.m l.flags)))

abbrev pub decreases-loop-m : goal.decreases-loop-m
decreases-loop-m l =
    length l.flags - l.m
