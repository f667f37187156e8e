use native.Mathlib.Omega.{arith}
use Rattle.program.specs.Flow.{keeps_at}
use Rattle.set_adds.proofs.Adding.{program_stays, adds_first, adds_next}
use Rattle.send_adds.proofs.Sending.{ready_stays}
use Rattle.smallest.proofs.Rows.{rows_all}
use Rattle.smallest.proofs.round.Goals as goal

pub loop-r-init : goal.loop-r-init
loop-r-init c = adds_first _ _

pub row_adds-more-requires : goal.row_adds-more-requires
row_adds-more-requires c =
    record { ready = ready_stays _ c.requires.ready c.loop-r.invariant; names = rw (program_stays _ c.requires.ready.few c.loop-r.invariant) c.requires.names; r_lt_row_limit = omega (arith, c.requires.ready.few) }

pub loop-r-preserved : goal.loop-r-preserved
loop-r-preserved c = adds_next _ _ (λ p i flow comm. keeps_at p flow comm i) c.requires.ready.few c.loop-r.invariant c.row_adds-more.ensures

pub returns : goal.returns
returns c = rows_all _ _ (omega arith) c.loop-r.invariant
