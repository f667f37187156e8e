-- What a sync asks of each row in its set.
use Rattle.std.specs.Prelude.{ℕ, Bool, ◌&&◌}
use Rattle.program.specs.Maybe.{when}
use Rattle.program.specs.Program.{Program, recv_at}
use Rattle.program.specs.Flow.{u, Set, Table, lies, for_each, for_each_chan}
use Rattle.channel_asks.specs.Channels.{send_test}

module _ (p : Program) (flow comm : Table) where
  -- what a sync asks of a recv row, where its own set is t
  unfoldable pub recv_test : Set → ℕ → Bool
  recv_test t s = when (recv_at p s) λ c. for_each_chan p (flow c) λ k. lies p (comm k) t

  -- what a sync asks of each row in the set of name e, where its own set is t
  unfoldable pub sync_test : Set → ℕ → Bool
  sync_test t e = for_each p (flow e) λ s. send_test p flow comm (t u) s && recv_test t s
