-- The call on the records that may be in use is the call on all.
use Rattle.std.proofs.Common.{rules}
use Rattle.lent_runs.proofs.ByValue.{begin_by_value}
use Rattle.lent_runs.proofs.begin_run.Goals as goal

pub returns-clause-left : goal.returns-clause-left
returns-clause-left c = begin_by_value _ _ _ _ _ (search rules) c.in_use-used.ensures c.begin_run-answer.ensures
