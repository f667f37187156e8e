-- The answer has bounds, so that it is packed without loss; the rest is what the call and packing promise.
use Rattle.packed_run.proofs.RunLossless.{begin_lossless}
use Rattle.packed_run.proofs.begun.Goals as goal

pub pack_run-requires : goal.pack_run-requires
pack_run-requires c = rw c.begin_run.ensures.answer_is (begin_lossless _ _ _ _)
