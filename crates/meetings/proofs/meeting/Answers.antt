-- What each thread offers or awaits, one find after the other.
use borrow.Author.Tests.{eq-eqb, ne_eqb}
use Rattle.program.specs.Maybe.{◌>>=◌, given}
use Rattle.program.specs.Program.{bind_of, bind_at}
use Rattle.machine.specs.Machine.{meeting}
use Rattle.meetings.proofs.meeting.Goals as goal

pub returns-in_default : goal.returns-in_default
unfolding meeting bind_at bind_of ◌>>=◌
returns-in_default c = rw (← c.row_in.ensures, c.in_default.is)

pub returns-in_default-row_in : goal.returns-in_default-row_in
unfolding meeting bind_at bind_of ◌>>=◌
returns-in_default-row_in c = rw (← c.row_in.ensures, c.in-Bind.is, ← c.row_in-2.ensures, c.in_default-row_in.is)

pub returns-in_err-i : goal.returns-in_err-i
unfolding meeting bind_at bind_of ◌>>=◌
returns-in_err-i c = rw (c.from_residual.ensures, ← c.row_in.ensures, c.in-Bind.is, ← c.row_in-2.ensures, c.in-Bind-row_in.is, ← c.in_err-i.ensures)

pub returns-in_err-j : goal.returns-in_err-j
unfolding meeting bind_at bind_of ◌>>=◌
returns-in_err-j c = rw (c.from_residual-in_err-j.ensures, ← c.row_in.ensures, c.in-Bind.is, ← c.row_in-2.ensures, c.in-Bind-row_in.is, ← c.in_ok-i.ensures, ← c.in_err-j.ensures)

pub both_go_on-requires : goal.both_go_on-requires
both_go_on-requires c = c.requires

pub returns-then-i-j : goal.returns-then-i-j
unfolding meeting bind_at bind_of given ◌>>=◌
returns-then-i-j c = rw (← c.row_in.ensures, c.in-Bind.is, ← c.row_in-2.ensures, c.in-Bind-row_in.is, ← c.in_ok-i.ensures, ← c.in_ok-j.ensures, eq-eqb _ _ c.if-i-j.true, c.both_go_on.ensures)

pub returns : goal.returns
unfolding meeting bind_at bind_of given ◌>>=◌
returns c = rw (← c.row_in.ensures, c.in-Bind.is, ← c.row_in-2.ensures, c.in-Bind-row_in.is, ← c.in_ok-i.ensures, ← c.in_ok-j.ensures, ne_eqb _ _ c.if-i-j.false)
