-- The loop's invariant: all bytes of the set are at most their limits exactly if none so far is above and those from member m on are not.
use mathlib.Core.Bool.{◌&&◌}
use mathlib.Core.Path.{◌≡◌}
use lib.ListN.{take, drop}
use lib.Dec.{eqb}
use Rattle.calls.specs.Layout.{member_limit}
use Rattle.sound_lines.specs.Sound.{within}
use Rattle.sound_lines.proofs.Bytes.{within_on}
use Rattle.sound_lines.proofs.set_within.Given as goal

abbrev pub invariant-loop-m : goal.invariant-loop-m
invariant-loop-m l =
    eqb l.most 0 && within_on l.store l.members l.at l.m ≡ within l.members 0 (take member_limit (drop l.at l.store))
