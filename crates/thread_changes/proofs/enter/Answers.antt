-- The next cell and frame have the numbers after those in use.
use Rattle.program.specs.Maybe.{◌>>=◌}
use Rattle.thread_changes.specs.Changes.{enters_with}
use Rattle.thread_changes.proofs.Rules.{enters}
use Rattle.thread_changes.proofs.enter.Goals as goal

pub returns-in_err-held : goal.returns-in_err-held
unfolding enters_with ◌>>=◌
returns-in_err-held c = rw (c.from_residual.ensures, ← c.in_err-held.ensures)

pub returns : goal.returns
unfolding enters_with ◌>>=◌
returns c = rw (← c.in_ok-held.ensures, c.return_of.ensures) (enters _ _ _ _ c.in_use-n.ensures _ _ _ _ c.next_frame.ensures)
