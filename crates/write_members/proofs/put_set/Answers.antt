use native.Mathlib.Omega.{arith}
use mathlib.Core.Path.{ap}
use Rattle.format.specs.Text.{ascii}
use Rattle.write_bytes.proofs.Writing.{room_first}
use Rattle.set_counts.proofs.Members.{keep, none_left}
use Rattle.write_bytes.proofs.Progress.{begin, same_rest, room_left, onward, last}
use Rattle.write_members.proofs.Members.{left_text, left_others, left_all}
use Rattle.write_members.proofs.put_set.Goals as goal

pub loop-m-init : goal.loop-m-init
loop-m-init c = (omega arith, same_rest (left_all _ c.requires.so) (begin c.requires.room))

pub put_byte-p-requires : goal.put_byte-p-requires
unfolding left_text
put_byte-p-requires c = room_first _ _ (room_left (same_rest (ap (left_text _) (keep _ _ c.loop-m-test.true c.if-flags-m-eq0.false)) c.loop-m.invariant.1))

pub put_member-next-requires : goal.put_member-next-requires
unfolding left_text
put_member-next-requires c = record { m_bound = omega (arith, c.requires.flags_len_bound); room = room_first _ _ (room_left (onward (same_rest (ap (left_text _) (keep _ _ c.loop-m-test.true c.if-flags-m-eq0.false)) c.loop-m.invariant.1) c.put_byte-p.ensures)) }

pub loop-m-preserved : goal.loop-m-preserved
unfolding left_text
loop-m-preserved c = (
  omega arith,
  same_rest (left_others _) (onward (onward (same_rest (ap (left_text _) (keep _ _ c.loop-m-test.true c.if-flags-m-eq0.false)) c.loop-m.invariant.1) c.put_byte-p.ensures) c.put_member-next.ensures),
)

pub put_byte-requires : goal.put_byte-requires
unfolding left_text ascii
put_byte-requires c = room_left (same_rest (ap (left_text _) (none_left _ _ c.loop-m-test.false)) c.loop-m.invariant.1)

pub returns : goal.returns
unfolding left_text ascii
returns c = last (same_rest (ap (left_text _) (none_left _ _ c.loop-m-test.false)) c.loop-m.invariant.1) c.put_byte.ensures
