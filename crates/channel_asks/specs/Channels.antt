-- What is asked of the channels of a send row.
use Rattle.std.specs.Prelude.{ℕ, ◌≤◌, ◌<◌, Bool, ◌&&◌, length}
use Rattle.std.proofs.Math.Bool.{So}
use Rattle.program.specs.Maybe.{when}
use Rattle.program.specs.Program.{Program, send_at}
use Rattle.program.specs.Flow.{Abstract, Table, lies, for_each_chan}
use Rattle.format.specs.Text.{Bytes}
use Rattle.format.specs.Document.{member}
use Rattle.calls.specs.Layout.{member_limit}
use Rattle.store.specs.Rows.{store_program}
use Rattle.tables.specs.Tables.{store_flow, store_comm}
use Rattle.row_lists.specs.Lists.{of_kind, chan_kind}
use Rattle.sets.specs.Sets.{PassingSet, set_of}

module _ (p : Program) (flow comm : Table) where
  -- what a sync asks of a send row, by whether unit is in its own set
  unfoldable pub send_test : Bool → ℕ → Bool
  send_test given s = when (send_at p s) λ (c, m). for_each_chan p (flow c) λ k. given && lies p (flow m) (comm k)

-- the send rows that pass a sync with or without unit in its set, and the rows that are none, as a set of bytes
abbrev pub Sends : ℕ → Bytes → Bool → Bytes → Type 0
Sends rows s given marks = PassingSet rows (send_test (store_program rows s) (store_flow s) (store_comm s) given) marks

-- every channel of the first n rows holds the members of a set of bytes
pub record AllHold (n : ℕ) (s all : Bytes) : Type 0 where
  pub size : member_limit ≤ length all
  pub each : (k : ℕ) → k < n → So (of_kind s chan_kind k) → (a : Abstract) → member a < member_limit → So (set_of all a) → So (store_comm s k a)
