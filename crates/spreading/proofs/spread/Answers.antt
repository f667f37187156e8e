-- `spread` meets its contract: a sweep down and one up grow the sets, and neither adds anything in the last round.
use Rattle.spreading.proofs.Growing.{grows_then, grows_on, still_ready, rounds_fall}
use Rattle.spreading.proofs.spread.Goals as goal

pub sweep-down-requires : goal.sweep-down-requires
sweep-down-requires c =
    let (ready, names) = still_ready _ _ c.requires.ready c.requires.names c.loop-more.invariant in record { ready = ready; names = names }

pub sweep-up-requires : goal.sweep-up-requires
sweep-up-requires c =
    let (ready, names) = still_ready _ _ c.requires.ready c.requires.names (grows_on _ c.requires.ready.few c.loop-more.invariant c.sweep-down.ensures) in
    record { ready = ready; names = names }

pub loop-more-smaller : goal.loop-more-smaller
loop-more-smaller c = rw c.loop-more-test.true (rounds_fall _ (grows_then _ c.requires.ready.few c.sweep-down.ensures c.sweep-up.ensures))

pub loop-more-preserved : goal.loop-more-preserved
loop-more-preserved c = grows_on _ c.requires.ready.few (grows_on _ c.requires.ready.few c.loop-more.invariant c.sweep-down.ensures) c.sweep-up.ensures
