-- Where a return waits and the result's value is found, the name that waited gets it.
use Rattle.program.specs.Maybe.{◌>>=◌}
use Rattle.machine.specs.Machine.{result_change}
use Rattle.thread_changes.proofs.Rules.{newest_next}
use Rattle.thread_changes.proofs.result_change.Goals as goal

pub returns-in_err-frame : goal.returns-in_err-frame
unfolding result_change ◌>>=◌
returns-in_err-frame c = rw (c.from_residual.ensures, ← c.in_err-frame.ensures)

pub returns-in_err-held : goal.returns-in_err-held
unfolding result_change ◌>>=◌
returns-in_err-held c = rw (c.from_residual-in_err-held.ensures, ← c.in_ok-frame.ensures, ← c.in_err-held.ensures)

pub returns : goal.returns
unfolding result_change ◌>>=◌
returns c = rw (← c.in_ok-frame.ensures, ← c.in_ok-held.ensures, ← newest_next _ _ c.in_use-n.ensures)
