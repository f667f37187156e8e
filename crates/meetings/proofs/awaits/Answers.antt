-- An event that is no receive has no channel to receive on.
use Rattle.program.specs.Maybe.{◌>>=◌}
use Rattle.machine.specs.Machine.{awaits}
use Rattle.forms.proofs.Forms.{recv_at_lem, lacks_recv}
use Rattle.meetings.proofs.awaits.Goals as goal

pub returns-in_err-r : goal.returns-in_err-r
unfolding awaits ◌>>=◌
returns-in_err-r c = rw (c.from_residual.ensures, ← c.in_err-r.ensures)

pub returns-in_default : goal.returns-in_default
unfolding awaits ◌>>=◌
returns-in_default c = rw (← c.in_ok-r.ensures, recv_at_lem _ _ c.form_at.ensures, lacks_recv _ c.in_default.not-Recv)

pub returns : goal.returns
unfolding awaits ◌>>=◌
returns c = rw (← c.in_ok-r.ensures, recv_at_lem _ _ c.form_at.ensures, c.in-Recv.is) c.find_channel.ensures
