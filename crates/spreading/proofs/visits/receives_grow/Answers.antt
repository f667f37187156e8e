-- `receives_grow` meets its contract: a row that is no sync asks nothing of receives.
use Rattle.row_adds.proofs.Rows.{bind_low}
use Rattle.spreading.proofs.Asked.{grows_receives}
use Rattle.spreading.proofs.visits.receives_grow.Goals as goal

pub recvs_add-requires : goal.recvs_add-requires
recvs_add-requires c =
    record { sized = record { size = c.requires.ready.size; few = c.requires.ready.few }; n_lt_row_limit = (bind_low c.requires.ready _ c.row_in.ensures c.in-Bind.is).0 }

pub returns : goal.returns
returns c =
    grows_receives _ _ c.requires.r_lt_rows c.row_in.ensures c.in-Bind.is c.in-Sync.is c.recvs_add.ensures
