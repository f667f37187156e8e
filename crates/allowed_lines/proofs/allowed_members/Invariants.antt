-- The loop's invariant: the flags tell which members are allowed, where the program is the first r rows.
use mathlib.Core.Path.{◌≡◌}
use lib.ListN.{length}
use Rattle.format.specs.Structure.{member_allowed}
use Rattle.calls.specs.Layout.{member_limit}
use Rattle.store.specs.Rows.{store_program}
use Rattle.seen.specs.Flags.{Tells}
use Rattle.allowed_lines.proofs.allowed_members.Given as goal

abbrev pub invariant-loop-r : goal.invariant-loop-r
invariant-loop-r l =
    (length l.members ≡ member_limit) × Tells (member_allowed (store_program l.r l.store)) l.members
