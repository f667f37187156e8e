-- `accept` meets its contract, which is that of load and judge in turn.
use Rattle.std.proofs.lemmas.Result.{err_from_is_err_and}
use Rattle.accepting.proofs.Accepting.{file_refused, file_judged}
use Rattle.acceptance.proofs.accept.Goals as goal

pub returns-in_err-load : goal.returns-in_err-load
returns-in_err-load c = let p = err_from_is_err_and c.from_residual.result c.from_residual.ensures.1 in rw (p.1, p.2) (file_refused _ _ c.in_err-load.ensures)

pub returns : goal.returns
returns c = file_judged _ _ c.in_ok-load.ensures c.judge.ensures
