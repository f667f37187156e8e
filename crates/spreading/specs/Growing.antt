-- Stores whose sets grow by what the rules ask, and not always by all of it.
use Rattle.std.specs.Prelude.{ℕ, ◌<◌, ◌≤◌, Bool, true, ◌≡◌, length}
use Rattle.std.proofs.Math.Bool.{So}
use Rattle.program.specs.Flow.{Table, keeps_all}
use Rattle.format.specs.Text.{Bytes, byte_at}
use Rattle.calls.specs.Layout.{rows_size, claims_start}
use Rattle.store.specs.Rows.{store_program}
use Rattle.set_adds.specs.Adding.{zeros, Flags, Inside}

-- s' is the store s with its rows, its claims and what is behind them, and with other sets
pub record Resets (s s' : Bytes) : Type 0 where
  pub size : length s' ≡ length s
  pub rows : (q : ℕ) → q < rows_size → byte_at s' q ≡ byte_at s q
  pub rest : (q : ℕ) → claims_start ≤ q → byte_at s' q ≡ byte_at s q

-- with members added that all tables have that keep the rules and hold the sets of s
pub record Grows (n : ℕ) (s s' : Bytes) (more : Bool) : Type 0 where
  pub resets : Resets s s'
  pub flags : Flags s → Flags s'
  pub fewer : zeros s' ≤ zeros s
  pub really : more ≡ true → zeros s' < zeros s
  pub inside : (flow comm : Table) → So (keeps_all (store_program n s) flow comm) → Inside flow comm s → Inside flow comm s'
