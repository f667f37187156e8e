-- Each of the channels so far that is in the set passes.
use Prim.Native.Nat.{ℕ, ◌<◌}
use mathlib.Core.Bool.{So, ◌&&◌}
use Rattle.program.specs.Flow.{row, lies}
use Rattle.format.specs.Text.{byte_at}
use Rattle.store.specs.Rows.{store_program}
use Rattle.tables.specs.Tables.{store_comm}
use Rattle.sets.specs.Sets.{set_of}
use Rattle.channel_asks.proofs.chans_hold.Given as goal

abbrev pub invariant-loop-k : goal.invariant-loop-k
invariant-loop-k l =
    (j : ℕ) → j < l.k-index → So (set_of l.from (row (byte_at l.chans j))) → So (l.given && lies (store_program l.rows l.store) (set_of l.set) (store_comm l.store (byte_at l.chans j)))
