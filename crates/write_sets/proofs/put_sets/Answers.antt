use native.Mathlib.Omega.{arith}
use lib.ListN.{length-take}
use Rattle.write_bytes.proofs.Writing.{room_first}
use Rattle.write_bytes.proofs.Progress.{same_rest, room_left, onward, finished}
use Rattle.write_sets.proofs.Parts.{sets_skip, sets_next, sets_end}
use Rattle.write_sets.proofs.put_sets.Goals as goal

pub loop-n-preserved-then-keys-n-eq0 : goal.loop-n-preserved-then-keys-n-eq0
loop-n-preserved-then-keys-n-eq0 c = same_rest (sets_skip _ _ _ _ c.loop-n-test.true (c.requires.keyed.empty _ c.loop-n-test.true c.if-keys-n-eq0.true)) c.loop-n.invariant

pub put_set_line-next-requires : goal.put_set_line-next-requires
put_set_line-next-requires c = record { flags_len_bound = simp length-take (omega arith); room = room_first _ _ (room_left (same_rest (sets_next _ _ _ _ c.loop-n-test.true) c.loop-n.invariant)) }

pub loop-n-preserved : goal.loop-n-preserved
loop-n-preserved c = onward (same_rest (sets_next _ _ _ _ c.loop-n-test.true) c.loop-n.invariant) c.put_set_line-next.ensures

pub returns : goal.returns
returns c = finished (same_rest (sets_end _ _ _ _ c.loop-n-test.false) c.loop-n.invariant)
