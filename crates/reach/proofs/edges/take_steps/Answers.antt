use native.Mathlib.Omega.{arith}
use mathlib.Core.Path.{refl, ◌∙◌}
use Rattle.program.specs.Test.{any}
use Rattle.reach.specs.Edges.{row_steps, any_row}
use Rattle.grids.proofs.Stepping.{follows_none, follows_next}
use Rattle.reach.proofs.Steps.{follows_edges}
use Rattle.reach.proofs.edges.take_steps.Goals as goal

pub loop-q-init : goal.loop-q-init
unfolding any_row any
loop-q-init c = (omega arith, (refl, follows_none _ (λ r s lr ls. refl)))

pub loop-q-preserved : goal.loop-q-preserved
unfolding any_row
loop-q-preserved c = (omega arith, (c.mark_row-changed.ensures.kept.same_length ∙ c.loop-q.invariant.1.0, follows_next (λ q r s. row_steps _ _ q r s) _ _ _ refl c.loop-q.invariant.1.1 c.mark_row-changed.ensures))

pub returns : goal.returns
returns c = follows_edges _ _ _ _ (omega arith) c.loop-q.invariant.1.1
