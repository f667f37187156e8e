-- Where the value is found, on it goes.
use Rattle.program.specs.Maybe.{◌>>=◌}
use Rattle.thread_changes.specs.Changes.{goes_on_with}
use Rattle.thread_changes.proofs.go_on_with.Goals as goal

pub returns-in_err-held : goal.returns-in_err-held
unfolding goes_on_with ◌>>=◌
returns-in_err-held c = rw (c.from_residual.ensures, ← c.in_err-held.ensures)

pub returns : goal.returns
unfolding goes_on_with ◌>>=◌
returns c = rw (← c.in_ok-held.ensures, c.go_on.ensures)
