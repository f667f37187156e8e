use mathlib.Core.Bool.{◌&&◌}
use mathlib.Core.Path.{◌≡◌}
use lib.ListN.{take, drop}
use lib.Dec.{eqb}
use Rattle.format.specs.Limits.{row_limit}
use Rattle.calls.specs.Layout.{claims_start}
use Rattle.sound_lines.specs.Sound.{claims_within}
use Rattle.sound_lines.proofs.Bytes.{claims_from}
use Rattle.sound_lines.proofs.claims_within.Given as goal

abbrev pub invariant-loop-c : goal.invariant-loop-c
invariant-loop-c l =
    eqb l.most 0 && claims_from l.store l.chans l.c ≡ claims_within l.chans 0 (take row_limit (drop claims_start l.store))
