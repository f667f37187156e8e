-- A row of kind 1 is a result (`result_row`). A bind's writes, one after the other, are the parts of its text (`bind_row`).
use Rattle.format.specs.Text.{ascii}
use Rattle.write_bytes.proofs.Writing.{then, room_first, room_then}
use Rattle.write_text.proofs.Head.{room_head, room_behind, then_behind}
use Rattle.write_rows.proofs.Parts.{result_row, five_numbers, bind_row}
use Rattle.write_rows.proofs.put_row.Goals as goal

pub put_result-requires : goal.put_result-requires
put_result-requires c = rw (result_row _ c.if-kind-eq1.true) at c.requires.room

pub returns-then-kind-eq1 : goal.returns-then-kind-eq1
returns-then-kind-eq1 c =
    rw (result_row c.args.row.now c.if-kind-eq1.true) c.put_result.ensures

pub put_head-p-requires : goal.put_head-p-requires
unfolding ascii
put_head-p-requires c =
    room_head _ _ _ (rw (bind_row c.args.row.now c.if-kind-eq1.false) at c.requires.room)

pub put_form-q-requires : goal.put_form-q-requires
unfolding ascii
put_form-q-requires c =
    record {
      numbers_len = five_numbers c.args.row.now c.requires.row_len;
      room = room_first _ _
          (room_behind _ _ _ c.put_head-p.ensures (rw (bind_row c.args.row.now c.if-kind-eq1.false) at c.requires.room));
    }

pub put_argument-s-requires : goal.put_argument-s-requires
unfolding ascii
put_argument-s-requires c =
    room_first _ _ (room_then _ c.put_form-q.ensures (room_behind _ _ _ c.put_head-p.ensures (rw (bind_row c.args.row.now c.if-kind-eq1.false) at c.requires.room)))

pub put_byte-requires : goal.put_byte-requires
unfolding ascii
put_byte-requires c =
    room_then _ c.put_argument-s.ensures
    (room_then _ c.put_form-q.ensures (room_behind _ _ _ c.put_head-p.ensures (rw (bind_row c.args.row.now c.if-kind-eq1.false) at c.requires.room)))

pub returns : goal.returns
unfolding ascii
returns c =
    rw (bind_row c.args.row.now c.if-kind-eq1.false)
    (then_behind _ _ _ c.put_head-p.ensures (then c.put_form-q.ensures (then c.put_argument-s.ensures c.put_byte.ensures)))
