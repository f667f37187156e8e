-- First and second go on with one of the names of the pair that is found.
use Rattle.program.specs.Maybe.{◌>>=◌}
use Rattle.thread_changes.proofs.Rules.{by_form, by_first, by_second}
use Rattle.thread_changes.proofs.form_change.Goals as goal

pub returns-in_err-first-in-First : goal.returns-in_err-first-in-First
unfolding ◌>>=◌
returns-in_err-first-in-First c = by_form _ _ _ _ c.in-First.is (rw (c.from_residual.ensures, ← by_first _ _ _ _ _, ← c.in_err-first-in-First.ensures))

pub returns-in_ok-first-in-First : goal.returns-in_ok-first-in-First
unfolding ◌>>=◌
returns-in_ok-first-in-First c = by_form _ _ _ _ c.in-First.is (rw (← by_first _ _ _ _ _, ← c.in_ok-first-in-First.ensures) c.go_on_with.ensures)

pub returns-in_err-second-in-Second : goal.returns-in_err-second-in-Second
unfolding ◌>>=◌
returns-in_err-second-in-Second c = by_form _ _ _ _ c.in-Second.is (rw (c.from_residual-in_err-second-in-Second.ensures, ← by_second _ _ _ _ _, ← c.in_err-second-in-Second.ensures))

pub returns-in_ok-second-in-Second : goal.returns-in_ok-second-in-Second
unfolding ◌>>=◌
returns-in_ok-second-in-Second c = by_form _ _ _ _ c.in-Second.is (rw (← by_second _ _ _ _ _, ← c.in_ok-second-in-Second.ensures) c.go_on_with-in-Second.ensures)
