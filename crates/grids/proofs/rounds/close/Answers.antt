use native.Mathlib.Omega.{arith}
use mathlib.Core.Path.{refl, ◌∙◌}
use Rattle.grids.proofs.Closing.{closes_none, closes_more, closes_all}
use Rattle.grids.proofs.rounds.close.Goals as goal

pub loop-k-init : goal.loop-k-init
loop-k-init c = (omega arith, (refl, closes_none _ _))

pub loop-k-preserved : goal.loop-k-preserved
loop-k-preserved c =
    let here = c.loop-k.invariant.1 in
    (omega arith, (c.pass_all.auto.grid ∙ here.0, closes_more _ c.requires.0 c.loop-k-test.true c.pass_all.auto.grid c.pass_all.ensures here.1))

pub returns : goal.returns
returns c = closes_all _ (omega arith) c.loop-k.invariant.1.1
