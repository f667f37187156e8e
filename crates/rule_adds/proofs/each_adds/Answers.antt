use native.Mathlib.Omega.{arith}
use Rattle.rule_adds.specs.Rules.{member_rule}
use Rattle.set_adds.proofs.Adding.{program_stays, adds_first, adds_next}
use Rattle.send_adds.proofs.Sending.{ready_stays}
use Rattle.rule_adds.proofs.Asking.{each_all}
use Rattle.rule_adds.proofs.each_adds.Goals as goal

pub loop-k-init : goal.loop-k-init
loop-k-init c = adds_first _ _

pub member_adds-more-requires : goal.member_adds-more-requires
member_adds-more-requires c =
    record { ready = ready_stays _ c.requires.ready c.loop-k.invariant; names = rw (program_stays _ c.requires.ready.few c.loop-k.invariant) c.requires.names; n_lt_row_limit = c.requires.n_lt_row_limit }

pub loop-k-preserved : goal.loop-k-preserved
loop-k-preserved c =
    adds_next _ _ (λ p i. member_rule p c.args.n c.args.ask c.args.a i) c.requires.ready.few c.loop-k.invariant c.member_adds-more.ensures

pub returns : goal.returns
returns c = each_all _ _ (omega arith) _ _ _ c.loop-k.invariant
