-- An event that is no send offers nothing, nor does one whose channel or message is not found.
use Rattle.program.specs.Maybe.{◌>>=◌}
use Rattle.machine.specs.Machine.{sends, sends_what, offers}
use Rattle.forms.proofs.Forms.{send_at_lem, lacks_send}
use Rattle.meetings.proofs.offers.Goals as goal

pub returns-in_err-r : goal.returns-in_err-r
unfolding offers sends sends_what ◌>>=◌
returns-in_err-r c = rw (c.from_residual.ensures, ← c.in_err-r.ensures)

pub returns-in_default : goal.returns-in_default
unfolding offers sends sends_what ◌>>=◌
returns-in_default c = rw (← c.in_ok-r.ensures, send_at_lem _ _ c.form_at.ensures, lacks_send _ c.in_default.not-Send)

pub returns-in_err-i : goal.returns-in_err-i
unfolding offers sends sends_what ◌>>=◌
returns-in_err-i c = rw (c.from_residual-in_err-i.ensures, ← c.in_ok-r.ensures, send_at_lem _ _ c.form_at.ensures, c.in-Send.is, ← c.in_err-i.ensures)

pub returns-in_err-held : goal.returns-in_err-held
unfolding offers sends sends_what ◌>>=◌
returns-in_err-held c = rw (c.from_residual-in_err-held.ensures, ← c.in_ok-r.ensures, send_at_lem _ _ c.form_at.ensures, c.in-Send.is, ← c.in_ok-i.ensures, ← c.in_err-held.ensures)

pub returns : goal.returns
unfolding offers sends sends_what ◌>>=◌
returns c = rw (← c.in_ok-r.ensures, send_at_lem _ _ c.form_at.ensures, c.in-Send.is, ← c.in_ok-i.ensures, ← c.in_ok-held.ensures)
