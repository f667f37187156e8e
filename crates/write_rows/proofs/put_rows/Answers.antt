use native.Mathlib.Omega.{arith}
use Rattle.write_bytes.proofs.Writing.{room_first}
use Rattle.write_bytes.proofs.Progress.{begin, same_rest, room_left, onward, finished}
use Rattle.write_rows.proofs.Parts.{rows_all, rows_next, rows_end, part_length}
use Rattle.write_rows.proofs.put_rows.Goals as goal

pub loop-r-init : goal.loop-r-init
loop-r-init c = same_rest (rows_all _ _) (begin c.requires.room)

pub put_row_line-next-requires : goal.put_row_line-next-requires
put_row_line-next-requires c =
    record {
      x_len = part_length c.args.store.now c.loop-r.r (omega arith) c.requires.store_size_in_bounds;
      room = room_first _ _
          (room_left (same_rest (rows_next _ _ _ c.loop-r-test.true) c.loop-r.invariant));
    }

pub loop-r-preserved : goal.loop-r-preserved
loop-r-preserved c =
    onward (same_rest (rows_next _ _ _ c.loop-r-test.true) c.loop-r.invariant) c.put_row_line-next.ensures

pub returns : goal.returns
returns c = finished (same_rest (rows_end _ _ _ c.loop-r-test.false) c.loop-r.invariant)
