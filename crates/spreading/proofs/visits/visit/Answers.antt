-- `visit` meets its contract: a sync's receives are had first, and then the rows apart.
use Rattle.spreading.proofs.Growing.{grows_then, grows_row, still_ready}
use Rattle.spreading.proofs.visits.visit.Goals as goal

pub returns-then-cell-lt-SYNC : goal.returns-then-cell-lt-SYNC
returns-then-cell-lt-SYNC c =
    grows_row _ _ c.requires.r_lt_rows c.row_adds.ensures

pub apart_visit-apart-requires : goal.apart_visit-apart-requires
apart_visit-apart-requires c =
    let (ready, names) = still_ready _ _ c.requires.ready c.requires.names c.receives_visit-together.ensures in record { ready = ready; names = names; r_lt_rows = c.requires.r_lt_rows }

pub returns : goal.returns
returns c =
    grows_then _ c.requires.ready.few c.receives_visit-together.ensures c.apart_visit-apart.ensures
