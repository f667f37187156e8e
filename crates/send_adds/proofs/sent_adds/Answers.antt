-- `sent_adds` meets its contract: unit is put in, and the message's set is added to the channel's.
use native.Mathlib.Omega.{arith}
use Rattle.inference.specs.Inference.{abstract_of}
use Rattle.set_adds.specs.Adding.{set_at, number_of}
use Rattle.send_adds.proofs.Sending.{unit_sent}
use Rattle.send_adds.proofs.sent_adds.Goals as goal

pub add_set-sent-requires : goal.add_set-sent-requires
unfolding number_of
add_set-sent-requires c =
    record { store_size_in_bounds = (omega (arith, c.put_member-unit.ensures.size), c.requires.1); from_bound = (omega (arith, c.requires), omega (arith, c.requires)) }

pub returns : goal.returns
unfolding set_at abstract_of
returns c = unit_sent _ _ _ _ c.requires.1 c.put_member-unit.ensures c.add_set-sent.ensures
