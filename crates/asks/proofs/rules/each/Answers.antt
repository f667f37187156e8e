use Rattle.std.proofs.Common.{◌≡◌, refl, sym, arith}
use Rattle.program.specs.Test.{all}
use Rattle.sets.proofs.Tests.{all_false, implies_true}
use Rattle.asks.proofs.Asked.{all_more}
use Rattle.asks.proofs.rules.each.Goals as goal
use Rattle.asks.proofs.rules.each.Goals.{else-has_row-via-then-has_row+else-not-passes, else-has_row-via-else-has_row}

pub loop-k-init : goal.loop-k-init
unfolding all
loop-k-init g c = λ f h. refl

pub returns-then-not-passes : goal.returns-then-not-passes
returns-then-not-passes g c = λ f h. sym (all_false _ _ c.loop-k.k c.loop-k-test.true
    (rw (← c.has_row.ensures, c.if-has_row.true, ← (h _ _ c.loop-k-test.true c.passes.ensures), c.if-not-passes.true)))

pub loop-k-preserved : goal.loop-k-preserved
loop-k-preserved g c = λ f h. all_more _ _ (c.loop-k.invariant f h) (elim c.else-has_row.branch [
  | else-has_row-via-then-has_row+else-not-passes w ↦ rw (← (h _ _ c.loop-k-test.true w.passes.ensures), w.if-not-passes.false) (implies_true _)
  | else-has_row-via-else-has_row w ↦ rw (← c.has_row.ensures, w.if-has_row.false)
])

pub returns : goal.returns
returns g c = λ f h. let q : c.loop-k.k ≡ c.args.rows = omega arith in sym (rw q at (c.loop-k.invariant f h))
