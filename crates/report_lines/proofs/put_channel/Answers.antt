-- The writes, one after the other, are the parts of the line.
use Rattle.format.specs.Text.{ascii}
use Rattle.write_bytes.proofs.Writing.{then, room_first, room_then}
use Rattle.write_text.proofs.Head.{room_head, room_behind, then_behind}
use Rattle.report.specs.Report.{channel_text}
use Rattle.report_lines.proofs.put_channel.Goals as goal

pub put_head-p-requires : goal.put_head-p-requires
unfolding channel_text ascii
put_head-p-requires c =
    room_head _ _ _ c.requires

pub put_words-q-requires : goal.put_words-q-requires
unfolding channel_text ascii
put_words-q-requires c =
    room_first _ _ (room_behind _ _ _ c.put_head-p.ensures c.requires)

pub put_word-requires : goal.put_word-requires
unfolding channel_text ascii
put_word-requires c =
    room_then _ c.put_words-q.ensures (room_behind _ _ _ c.put_head-p.ensures c.requires)

pub returns : goal.returns
unfolding channel_text ascii
returns c =
    then_behind _ _ _ c.put_head-p.ensures (then c.put_words-q.ensures c.put_word.ensures)
