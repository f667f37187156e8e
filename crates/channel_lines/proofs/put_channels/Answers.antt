use Rattle.write_bytes.proofs.Writing.{room_first}
use Rattle.write_bytes.proofs.Progress.{begin, same_rest, room_left, onward, finished}
use Rattle.channel_lines.proofs.Rows.{rows_next, rows_end, lines_are}
use Rattle.channel_lines.proofs.put_channels.Goals as goal

pub loop-row-init : goal.loop-row-init
loop-row-init c =
    let (size, counted, big) = c.requires.store_size_in_bounds in
    same_rest (lines_are _ _ counted) (begin c.requires.room)

pub put_row-next-requires : goal.put_row-next-requires
put_row-next-requires c =
    record { store_size_in_bounds = c.requires.store_size_in_bounds; shows = c.requires.shows; room = room_first _ _ (room_left (same_rest (rows_next _ _ _ c.loop-row-test.true) c.loop-row.invariant)) }

pub loop-row-preserved : goal.loop-row-preserved
loop-row-preserved c =
    onward (same_rest (rows_next _ _ _ c.loop-row-test.true) c.loop-row.invariant) c.put_row-next.ensures

pub returns : goal.returns
returns c =
    finished (same_rest (rows_end _ _ _ c.loop-row-test.false) c.loop-row.invariant)
