-- The three writes, one after the other, are the parts of the row's line.
use Rattle.format.specs.Text.{ascii}
use Rattle.format.specs.Print.{line_text}
use Rattle.write_bytes.proofs.Writing.{then, room_first, room_then}
use Rattle.write_text.proofs.Head.{room_head, room_behind, then_behind}
use Rattle.write_rows.proofs.put_row_line.Goals as goal

pub put_head-p-requires : goal.put_head-p-requires
unfolding line_text ascii
put_head-p-requires c = room_head _ _ _ c.requires.room

pub put_row-q-requires : goal.put_row-q-requires
unfolding line_text ascii
put_row-q-requires c =
    record { row_len = c.requires.x_len; room = room_first _ _ (room_behind _ _ _ c.put_head-p.ensures c.requires.room) }

pub put_word-requires : goal.put_word-requires
unfolding line_text ascii
put_word-requires c =
    room_then _ c.put_row-q.ensures (room_behind _ _ _ c.put_head-p.ensures c.requires.room)

pub returns : goal.returns
unfolding line_text ascii
returns c =
    then_behind _ _ _ c.put_head-p.ensures (then c.put_row-q.ensures c.put_word.ensures)
