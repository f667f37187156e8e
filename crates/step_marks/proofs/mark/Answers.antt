-- `mark` meets its contract: where one of the rows is not there nothing is done.
use Rattle.grids.proofs.Stepping.{follows_none, no_source, no_target}
use Rattle.step_marks.proofs.mark.Goals as goal
use Rattle.step_marks.proofs.mark.Goals.{then-rows-a-via-then-rows-a, then-rows-a-via-else-rows-a+then-rows-b}

pub returns-then-rows-a : goal.returns-then-rows-a
returns-then-rows-a c = follows_none _ (elim c.then-rows-a.branch [
  | then-rows-a-via-then-rows-a w ↦ no_source _ _ _ w.if-rows-a.true
  | then-rows-a-via-else-rows-a+then-rows-b w ↦ no_target _ _ _ w.if-rows-b.true
])
