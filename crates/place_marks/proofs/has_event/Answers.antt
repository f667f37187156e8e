use native.Mathlib.Omega.{arith}
use mathlib.Core.Path.{refl}
use Rattle.program.specs.Test.{any}
use Rattle.place_marks.proofs.Placing.{one_more, one_here, one_end}
use Rattle.place_marks.proofs.has_event.Goals as goal

pub loop-s-init : goal.loop-s-init
unfolding any
loop-s-init c = refl

pub returns-then-byte_at-gt0 : goal.returns-then-byte_at-gt0
returns-then-byte_at-gt0 c = one_here _ _ c.args.events.now _ _ c.byte_at.ensures c.loop-s-test.true c.if-byte_at-gt0.true

pub loop-s-preserved : goal.loop-s-preserved
loop-s-preserved c = one_more _ _ c.args.events.now _ _ c.byte_at.ensures c.if-byte_at-gt0.false c.loop-s.invariant

pub returns : goal.returns
returns c = one_end _ _ c.args.events.now _ (omega (arith, c.loop-s-test.false, c.loop-s.auto.s-index-end)) c.loop-s.invariant
