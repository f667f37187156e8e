use native.Mathlib.Omega.{arith}
use Rattle.spreading.proofs.Growing.{grows_then, still_ready}
use Rattle.spreading.proofs.sweep.Goals as goal
use Rattle.spreading.proofs.sweep.Goals.{then-up, else-up}

pub visit-more-requires : goal.visit-more-requires
visit-more-requires c =
    let (ready, names) = still_ready _ _ c.requires.ready c.requires.names c.loop-k.invariant in record { ready = ready; names = names; r_lt_rows = elim c.if-up.branch [ then-up w ↦ omega arith | else-up w ↦ omega arith ] }

pub loop-k-preserved : goal.loop-k-preserved
loop-k-preserved c = grows_then _ c.requires.ready.few c.loop-k.invariant c.visit-more.ensures
