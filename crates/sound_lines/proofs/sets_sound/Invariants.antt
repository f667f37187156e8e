-- The loop's invariant: all sets are sound exactly if those from key n on are. Each turn goes past the next marked key, so the loop ends.
use Prim.Native.Nat.{◌≤◌, ◌-◌}
use mathlib.Core.Path.{◌≡◌}
use lib.ListN.{drop}
use Rattle.format.specs.Limits.{row_limit}
use Rattle.sound_lines.specs.Sound.{sets_sound}
use Rattle.sound_lines.proofs.Bytes.{sets_from}
use Rattle.sound_lines.proofs.sets_sound.Given as goal

abbrev pub invariant-loop-n : goal.invariant-loop-n
invariant-loop-n l =
    (l.n ≤ row_limit) × (sets_from l.store l.keys l.members l.base l.n ≡ sets_sound l.keys l.members row_limit 0 (drop l.base l.store))

abbrev pub decreases-loop-n : goal.decreases-loop-n
decreases-loop-n l = row_limit - l.n
