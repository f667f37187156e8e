use Rattle.write_bytes.proofs.Writing.{room_first}
use Rattle.write_forms.proofs.Numbers.{arguments_next, arguments_end}
use Rattle.write_bytes.proofs.Progress.{same_rest, room_left, onward, finished}
use Rattle.write_forms.proofs.put_arguments.Goals as goal

pub put_argument-next-requires : goal.put_argument-next-requires
put_argument-next-requires c = room_first _ _ (room_left (same_rest (arguments_next _ _ c.loop-n-test.true) c.loop-n.invariant))

pub loop-n-preserved : goal.loop-n-preserved
loop-n-preserved c = onward (same_rest (arguments_next _ _ c.loop-n-test.true) c.loop-n.invariant) c.put_argument-next.ensures

pub returns : goal.returns
returns c = finished (same_rest (arguments_end _ _ c.loop-n-test.false) c.loop-n.invariant)
