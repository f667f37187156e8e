use native.Mathlib.Omega.{arith}
use mathlib.Core.Path.{◌≡◌}
use Rattle.walks.specs.Walks.{ahead_of}
use Rattle.walks.proofs.Walking.{ahead_none, ahead_skip, ahead_join}
use Rattle.walks.proofs.rows_ahead.Goals as goal

pub loop-r-init : goal.loop-r-init
loop-r-init c = ahead_none _ _ c.requires.0

pub loop-r-preserved-then-places-r-eq0 : goal.loop-r-preserved-then-places-r-eq0
loop-r-preserved-then-places-r-eq0 c = ahead_skip _ _ _ c.if-places-r-eq0.true c.loop-r.invariant

pub loop-r-preserved : goal.loop-r-preserved
loop-r-preserved c = ahead_join _ _ _ c.if-places-r-eq0.false c.join_marks.ensures c.loop-r.invariant

pub returns : goal.returns
unfolding ahead_of
returns c =
    let all : c.loop-r.r ≡ c.args.rows = omega (arith, c.loop-r-test.false, c.loop-r.auto.r-end) in
    rw all at c.loop-r.invariant
