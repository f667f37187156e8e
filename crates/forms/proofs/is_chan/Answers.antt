-- `is_chan` meets its contract: by the form of the row.
use Rattle.forms.proofs.Forms.{lacks_chan, chan_row_lem}
use Rattle.forms.proofs.is_chan.Goals as goal

pub returns-in_default : goal.returns-in_default
returns-in_default c = rw (chan_row_lem _ _ c.form_at.ensures, lacks_chan _ c.in_default.not-Chan)

pub returns-in-Chan : goal.returns-in-Chan
returns-in-Chan c = rw (chan_row_lem _ _ c.form_at.ensures, c.in-Chan.is)
