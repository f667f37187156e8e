-- Stores whose sets are emptied, filled by rounds, and left with the smallest tables.
use Rattle.std.specs.Prelude.{ℕ, ◌<◌, ◌≤◌, ◌≡◌}
use Rattle.std.proofs.Math.Bool.{So}
use Rattle.program.specs.Flow.{Table, keeps_all}
use Rattle.least.specs.Least.{smallest_flow, smallest_comm}
use Rattle.format.specs.Text.{Bytes, byte_at}
use Rattle.calls.specs.Layout.{rows_size, claims_start}
use Rattle.store.specs.Rows.{store_program}
use Rattle.tables.specs.Tables.{store_flow, store_comm}
use Rattle.set_adds.specs.Adding.{Flags, Inside}
use Rattle.spreading.specs.Growing.{Resets}

-- s' is the store s with no sets
pub record Cleared (s s' : Bytes) : Type 0 where
  pub resets : Resets s s'
  pub none : (q : ℕ) → rows_size ≤ q → q < claims_start → byte_at s' q ≡ 0

-- with sets that keep the rules, and lie in those of all tables that do and hold the sets of s
pub record Settles (n : ℕ) (s s' : Bytes) : Type 0 where
  pub resets : Resets s s'
  pub flags : Flags s → Flags s'
  pub inside : (flow comm : Table) → So (keeps_all (store_program n s) flow comm) → Inside flow comm s → Inside flow comm s'
  pub keeps : So (keeps_all (store_program n s) (store_flow s') (store_comm s'))

-- with the smallest tables
pub record Least (n : ℕ) (s s' : Bytes) : Type 0 where
  pub resets : Resets s s'
  pub flags : Flags s'
  pub flows : store_flow s' ≡ smallest_flow (store_program n s)
  pub comms : store_comm s' ≡ smallest_comm (store_program n s)
