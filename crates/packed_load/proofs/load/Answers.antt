-- The answer of load has bounds, so that it is packed without loss; the rest is what load and packing promise.
use mathlib.Core.Path.{ap, ◌∙◌}
use Rattle.calls.specs.Answers.{LoadAnswer, load_answer}
use Rattle.packing.specs.Packing.{packed, count_bits}
use Rattle.lossless.proofs.Lossless.{load_lossless}
use Rattle.packed_load.proofs.load.Goals as goal

pub pack_load-requires : goal.pack_load-requires
pack_load-requires c = rw c.load.ensures.answer_is (load_lossless _ _)

pub returns : goal.returns
returns c = record { value = c.pack_load.ensures ∙ ap (λ (a : LoadAnswer). packed count_bits (load_answer a)) c.load.ensures.answer_is; store_after = c.load.ensures.bytes_are }
