-- The answer of write has bounds, so that it is packed without loss; the rest is what write and packing promise.
use Rattle.lossless.proofs.Lossless.{write_lossless}
use Rattle.packed_write.proofs.write.Goals as goal

pub pack_write-requires : goal.pack_write-requires
pack_write-requires c = rw c.write.ensures.answer_is (write_lossless _ _)
