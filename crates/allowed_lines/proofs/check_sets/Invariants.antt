-- The loop's invariant: checking the sets from n on, from the next line, finds what checking all finds.
-- There are at most as many lines as sets, so the next line is a usize.
use Prim.Native.Nat.{◌≤◌, ◌+◌}
use mathlib.Core.Path.{◌≡◌}
use lib.ListN.{drop}
use Rattle.format.specs.Limits.{row_limit}
use Rattle.calls.specs.Layout.{decode_sets}
use Rattle.allowed_lines.specs.Lines.{entry_marked, checked}
use Rattle.allowed_lines.proofs.Checking.{sets_on}
use Rattle.allowed_lines.proofs.check_sets.Given as goal

abbrev pub invariant-loop-n : goal.invariant-loop-n
invariant-loop-n l =
    (l.next ≤ l.line + l.n) × (checked (entry_marked l.keys l.members) l.next (sets_on l.store l.base l.n) ≡ checked (entry_marked l.keys l.members) l.line (decode_sets row_limit 0 (drop l.base l.store)))
