-- `event_at` meets its contract: a row that is no sync has no event.
use Rattle.program.specs.Maybe.{◌>>=◌}
use Rattle.machine.specs.Machine.{event_of}
use Rattle.forms.proofs.Forms.{sync_at_lem}
use Rattle.forms.proofs.Forms.{lacks_sync}
use Rattle.meetings.proofs.event_at.Goals as goal

pub returns-in_default : goal.returns-in_default
unfolding event_of ◌>>=◌
returns-in_default c = rw (sync_at_lem _ _ c.form_at.ensures, lacks_sync _ c.in_default.not-Sync)

pub returns : goal.returns
unfolding event_of ◌>>=◌
returns c = rw (sync_at_lem _ _ c.form_at.ensures, c.in-Sync.is) c.find_closure.ensures
