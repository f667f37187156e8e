-- What is found is a closure or not.
use Rattle.program.specs.Maybe.{◌>>=◌}
use Rattle.machine.specs.Machine.{closure_held_by, find_closure}
use Rattle.lookups.proofs.Cells.{no_closure}
use Rattle.lookups.proofs.find_closure.Goals as goal

pub returns-in_err-row : goal.returns-in_err-row
unfolding find_closure ◌>>=◌
returns-in_err-row c = rw (c.from_residual.ensures, ← c.in_err-row.ensures)

pub returns-in-Closure : goal.returns-in-Closure
unfolding find_closure closure_held_by ◌>>=◌
returns-in-Closure c = rw (← c.in_ok-row.ensures, c.in-Closure.is)

pub returns-in_default : goal.returns-in_default
unfolding find_closure ◌>>=◌
returns-in_default c = rw (← c.in_ok-row.ensures, no_closure _ c.in_default.not-Closure)
