-- The list has, of the rows of the other so far, those of which it holds.
use Prim.Native.Nat.{◌≤◌}
use lib.ListN.{length}
use Rattle.store.specs.Rows.{store_program}
use Rattle.tables.specs.Tables.{store_flow}
use Rattle.row_lists.specs.Lists.{Has}
use Rattle.row_lists.proofs.Listing.{so_far}
use Rattle.place_marks.specs.Places.{event_on}
use Rattle.place_marks.proofs.events.Given as goal

abbrev pub invariant-loop-s : goal.invariant-loop-s
invariant-loop-s l =
    (length l.on ≤ l.s-index) × Has (so_far l.list (event_on (store_program l.rows l.store) (store_flow l.store) l.side l.c) l.s-index) l.on
