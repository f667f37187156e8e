-- All is marked but those of the send rows so far that fail.
use Rattle.store.specs.Rows.{store_program}
use Rattle.tables.specs.Tables.{store_flow, store_comm}
use Rattle.channel_asks.specs.Channels.{send_test}
use Rattle.channel_asks.proofs.Channels.{Fails}
use Rattle.channel_asks.proofs.passing_sends.Given as goal

abbrev pub invariant-loop-s : goal.invariant-loop-s
invariant-loop-s l =
    Fails l.rows l.sends l.s-index (send_test (store_program l.rows l.store) (store_flow l.store) (store_comm l.store) l.given) l.marks
