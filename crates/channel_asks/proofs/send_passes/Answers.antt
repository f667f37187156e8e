-- The channels of a send row hold its message if every channel does, else they are gone through.
use mathlib.Core.Path.{sym, ◌∙◌}
use Rattle.program.specs.Maybe.{when}
use Rattle.forms.proofs.Forms.{send_at_lem, lacks_send}
use Rattle.channel_asks.specs.Channels.{send_test}
use Rattle.channel_asks.proofs.Channels.{sure}
use Rattle.channel_asks.proofs.send_passes.Goals as goal

pub returns-in_default : goal.returns-in_default
unfolding send_test when
returns-in_default c = rw (send_at_lem _ _ c.form_at.ensures, lacks_send _ c.in_default.not-Send)

pub returns-then-lies_in : goal.returns-then-lies_in
unfolding send_test when
returns-then-lies_in c = rw (send_at_lem _ _ c.form_at.ensures, c.in-Send.is, c.if-given.true) (sym (sure _ _ _ _ _ c.requires.sized.few c.requires.lists c.requires.all_hold (rw c.flow_set-set.ensures at (sym c.lies_in.ensures ∙ c.if-lies_in.true))))

pub returns : goal.returns
unfolding send_test when
returns c = rw (send_at_lem _ _ c.form_at.ensures, c.in-Send.is, ← c.flow_set-set.ensures, ← c.flow_set-from.ensures) c.chans_hold.ensures
