-- `recvs_add` meets its contract: what is gathered of the channels is what the rule of a sync asks.
use Rattle.recv_adds.proofs.Receiving.{received}
use Rattle.recv_adds.proofs.recvs_add.Goals as goal

pub returns : goal.returns
returns c =
    received _ _ _ _ _ _ c.requires.sized.few c.heard-channels.ensures c.held-values.ensures c.add_members.ensures
