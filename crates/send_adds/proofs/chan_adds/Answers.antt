-- `chan_adds` meets its contract: nothing is asked of a row that is not in the set or is no chan row.
use mathlib.Core.Bool.{false≢true}
use mathlib.Core.Path.{sym, ◌∙◌}
use Rattle.send_adds.specs.Sends.{chan_rule}
use Rattle.set_adds.proofs.Adding.{adds_member, adds_other}
use Rattle.send_adds.proofs.Sending.{chan_none, chan_some}
use Rattle.send_adds.proofs.chan_adds.Goals as goal
use Rattle.send_adds.proofs.chan_adds.Goals.{then-flow_has, else-flow_has}

pub returns-then-is_chan : goal.returns-then-is_chan
unfolding chan_rule
returns-then-is_chan c =
    elim c.if-flow_has.branch [
      | then-flow_has w ↦ adds_member _ _ (sym c.flow_has.ensures ∙ w.if-flow_has.true) (chan_some _ _ (sym w.is_chan.ensures ∙ sym w.value-is ∙ c.if-is_chan.true) _ c.sent_adds.ensures)
      | else-flow_has w ↦ absurd (false≢true (sym w.if-flow_has.false ∙ sym w.value-is ∙ c.if-is_chan.true))
    ]

pub returns-else-is_chan : goal.returns-else-is_chan
unfolding chan_rule
returns-else-is_chan c =
    rw c.if-is_chan.false
    (elim c.if-flow_has.branch [
      | then-flow_has w ↦ adds_member _ _ (sym c.flow_has.ensures ∙ w.if-flow_has.true) (chan_none _ _ (sym w.is_chan.ensures ∙ sym w.value-is ∙ c.if-is_chan.false) _ _)
      | else-flow_has w ↦ adds_other _ _ _ _ (sym c.flow_has.ensures ∙ w.if-flow_has.false)
    ])
