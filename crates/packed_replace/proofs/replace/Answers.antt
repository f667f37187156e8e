-- The answer of replace has bounds, so that it is packed without loss; the rest is what replace and packing promise.
use mathlib.Core.Path.{ap, ◌∙◌}
use Rattle.calls.specs.Answers.{LoadAnswer, load_answer}
use Rattle.packing.specs.Packing.{packed, count_bits}
use Rattle.lossless.proofs.Lossless.{replace_lossless}
use Rattle.packed_replace.proofs.replace.Goals as goal

pub pack_load-requires : goal.pack_load-requires
pack_load-requires c = rw c.replace.ensures.answer_is (replace_lossless _ _ _ _)

pub returns : goal.returns
returns c = record { value = c.pack_load.ensures ∙ ap (λ (a : LoadAnswer). packed count_bits (load_answer a)) c.replace.ensures.answer_is; store_after = c.replace.ensures.bytes_are }
