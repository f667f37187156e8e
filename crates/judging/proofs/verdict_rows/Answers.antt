-- `verdict_rows` meets its contract: 24, then 10, then the words.
use mathlib.Core.Path.{sym, ◌∙◌}
use Rattle.forms.proofs.Forms.{chan_past}
use Rattle.judging.proofs.Documents.{no_channel, verdict_refused, verdict_goes}
use Rattle.judging.proofs.verdict_rows.Goals as goal

pub returns-then-rows-channel : goal.returns-then-rows-channel
returns-then-rows-channel c = rw c.not_a_channel.ensures (no_channel _ _ c.requires.rows_value _ (chan_past _ _ _ c.if-rows-channel.true))

pub returns-in-Some : goal.returns-in-Some
returns-in-Some c =
    rw (c.no_verdict.ensures, c.flow_refusal.ensures)
    (verdict_refused _ _ c.requires.rows_value _ (sym c.is_chan.ensures ∙ c.if-not-is_chan.false) c.failing_row.ensures c.in-Some.is)

pub returns : goal.returns
returns c = verdict_goes _ _ c.requires.rows_value _ (sym c.is_chan.ensures ∙ c.if-not-is_chan.false) c.failing_row.ensures c.in_default.is c.lone_words.ensures
