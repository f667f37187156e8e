use native.Mathlib.Omega.{arith}
use mathlib.Core.Path.{refl, ◌∙◌}
use Rattle.program.specs.Test.{any}
use Rattle.reach.specs.Edges.{body_steps, any_body}
use Rattle.grids.proofs.Stepping.{follows_none, follows_next}
use Rattle.reach.proofs.edges.mark_bodies.Goals as goal

pub loop-k-init : goal.loop-k-init
unfolding any_body any
loop-k-init c = (omega arith, (refl, follows_none _ (λ r s lr ls. refl)))

pub loop-k-preserved : goal.loop-k-preserved
unfolding any_body
loop-k-preserved c = (omega arith, (c.mark_body-changed.ensures.kept.same_length ∙ c.loop-k.invariant.1.0, follows_next (λ k r s. body_steps _ _ _ _ _ k r s) _ _ _ refl c.loop-k.invariant.1.1 c.mark_body-changed.ensures))
