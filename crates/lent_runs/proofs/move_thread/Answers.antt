-- The call on the records that may be in use is the call on all.
use Rattle.std.proofs.Common.{rules}
use Rattle.machine.specs.Machine.{alone}
use Rattle.lent_runs.proofs.ByValue.{move_by_value}
use Rattle.lent_runs.proofs.move_thread.Goals as goal

pub returns-clause-left : goal.returns-clause-left
returns-clause-left c = move_by_value _ _ _ _ _ (alone _) (search rules) c.in_use-used.ensures c.move_thread-answer.ensures
