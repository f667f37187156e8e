use Rattle.spreading.proofs.Growing.{grows_then, still_ready}
use Rattle.spreading.proofs.visits.members_visit.Goals as goal

pub member_visit-more-requires : goal.member_visit-more-requires
member_visit-more-requires c =
    let (ready, names) = still_ready _ _ c.requires.ready c.requires.names c.loop-k.invariant in record { ready = ready; names = names; r_lt_rows = (c.requires.r_lt_rows, c.loop-k-test.true) }

pub loop-k-preserved : goal.loop-k-preserved
loop-k-preserved c = grows_then _ c.requires.ready.few c.loop-k.invariant c.member_visit-more.ensures
