-- The three writes, one after the other, are the three parts of `head_text`.
use Rattle.format.specs.Text.{ascii}
use Rattle.write_bytes.proofs.Writing.{then, room_first, room_then}
use Rattle.write_text.specs.Heads.{head_text}
use Rattle.write_text.proofs.put_head.Goals as goal

pub put_word-p-requires : goal.put_word-p-requires
unfolding head_text
put_word-p-requires c = room_first _ _ c.requires

pub put_argument-q-requires : goal.put_argument-q-requires
unfolding head_text
put_argument-q-requires c = room_first _ _ (room_then _ c.put_word-p.ensures c.requires)

pub put_byte-requires : goal.put_byte-requires
unfolding head_text ascii
put_byte-requires c =
    room_then _ c.put_argument-q.ensures (room_then _ c.put_word-p.ensures c.requires)

pub returns : goal.returns
unfolding head_text ascii
returns c =
    then c.put_word-p.ensures (then c.put_argument-q.ensures c.put_byte.ensures)
