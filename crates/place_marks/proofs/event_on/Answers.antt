-- A row of the other kind is not asked further.
use Rattle.program.specs.Maybe.{has}
use Rattle.forms.proofs.Forms.{send_at_lem, recv_at_lem, lacks_send, lacks_recv}
use Rattle.place_marks.specs.Places.{event_on}
use Rattle.place_marks.proofs.event_on.Goals as goal

pub returns-in-Sends-Send : goal.returns-in-Sends-Send
unfolding event_on has
returns-in-Sends-Send c = rw (c.in-Sends-Send.is-0, send_at_lem _ _ c.form_at.ensures, c.in-Sends-Send.is-1) c.flow_has.ensures

pub returns-in-Receives-Recv : goal.returns-in-Receives-Recv
unfolding event_on has
returns-in-Receives-Recv c = rw (c.in-Receives-Recv.is-0, recv_at_lem _ _ c.form_at.ensures, c.in-Receives-Recv.is-1) c.flow_has-in-Receives-Recv.ensures

pub returns-in_default : goal.returns-in_default
unfolding event_on has
returns-in_default c = rw (c.in_default.is-0, send_at_lem _ _ c.form_at.ensures, lacks_send _ c.in_default.not-Send-1)

pub returns-in_default-2 : goal.returns-in_default-2
unfolding event_on has
returns-in_default-2 c = rw (c.in_default.is-0, recv_at_lem _ _ c.form_at.ensures, lacks_recv _ c.in_default.not-Recv-1)
