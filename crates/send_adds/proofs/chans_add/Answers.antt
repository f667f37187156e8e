use native.Mathlib.Omega.{arith}
use Rattle.send_adds.specs.Sends.{chan_rule}
use Rattle.set_adds.proofs.Adding.{adds_first, adds_next}
use Rattle.send_adds.proofs.Sending.{chans_all}
use Rattle.send_adds.proofs.chans_add.Goals as goal

pub loop-k-init : goal.loop-k-init
loop-k-init c = adds_first _ _

pub loop-k-preserved : goal.loop-k-preserved
loop-k-preserved c =
    adds_next _ _ (λ p i. chan_rule p c.args.n c.args.message c.args.c i) c.requires.1 c.loop-k.invariant c.chan_adds-more.ensures

pub returns : goal.returns
returns c = chans_all _ _ (omega arith) _ _ _ c.loop-k.invariant
