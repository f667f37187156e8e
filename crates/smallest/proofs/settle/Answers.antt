use Rattle.spreading.proofs.Growing.{grows_by, rounds_fall}
use Rattle.smallest.proofs.settle.Goals as goal

pub loop-more-smaller : goal.loop-more-smaller
loop-more-smaller c = rw c.loop-more-test.true (rounds_fall _ (grows_by _ _ (λ flow comm t. t) c.round-more.ensures))
