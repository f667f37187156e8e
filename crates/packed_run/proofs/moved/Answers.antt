-- The answer has bounds, so that it is packed without loss; the rest is what the call and packing promise.
use Rattle.packed_run.proofs.RunLossless.{move_lossless}
use Rattle.packed_run.proofs.moved.Goals as goal

pub pack_run-requires : goal.pack_run-requires
pack_run-requires c = rw c.move_thread.ensures.answer_is (move_lossless _ _ _ _ _)
