-- The documents that a file of any length can say. Orderly: what refusals 2 to 5 ask of the numbers and their order (a row's number is its place, so that it counts from
-- 0 needs no test). Well-formed: 6 to 9 find nothing either.
use Rattle.std.specs.Prelude.{Bool, true, false, not, ◌&&◌, List, map}
use Rattle.std.specs.Prelude.{None as none, Some as some}
use Rattle.program.specs.Each.{every}
use Rattle.format.specs.Document.{Entry, Claim, Document}
use Rattle.format.specs.Print.{lines_of}
use Rattle.format.specs.Read.{present, rising, above_limit}
use Rattle.format.specs.Structure.{structure_fault}

-- names or channels rise from line to line, and each set is written, rising
unfoldable pub entries_rise : List Entry → Bool
entries_rise es = rising (map (λ (e : Entry). e.key) es) && every (λ e. present e.members && rising e.members) es

-- "at least row 0"; no number above the limit; "N rising", "R rising"
unfoldable pub orderly : Document → Bool
orderly d =
    present d.rows && every (λ l. not (above_limit l)) (lines_of d) && entries_rise d.flows && entries_rise d.comms
    && rising (map (λ (c : Claim). c.channel) d.claims)

unfoldable pub well_formed : Document → Bool
well_formed d = orderly d && elim (structure_fault d) [ none ↦ true | some r ↦ false ]
