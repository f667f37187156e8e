-- Of the syncs so far those that are places are marked, and no others.
use Rattle.place_marks.specs.declared.Side.{Side}
use Rattle.store.specs.Rows.{store_program}
use Rattle.tables.specs.Tables.{store_flow}
use Rattle.row_lists.specs.Lists.{Lists}
use Rattle.place_marks.specs.Places.{event_on, place}
use Rattle.place_marks.proofs.Placing.{MarkedOf}
use Rattle.place_marks.proofs.places.Given as goal

abbrev pub invariant-loop-r : goal.invariant-loop-r
invariant-loop-r l =
    (side : Side) → Lists l.rows (event_on (store_program l.rows l.store) (store_flow l.store) side l.c) l.on → MarkedOf l.rows l.syncs l.r-index (place (store_program l.rows l.store) (store_flow l.store) side l.c) l.marks
