-- How many records are lent counts only up to those that may be in use: with more than these, the calls are what they are with these.
use Prim.Native.Nat.{ℕ, ◌≤◌}
use native.Mathlib.Omega.{arith}
use mathlib.Core.Path.{◌≡◌}
use borrow.Author.Tests.{le-ltb}
use Rattle.format.specs.Text.{Bytes}
use Rattle.machine.specs.Machine.{Order, thread_limit}
use Rattle.run_calls.specs.RunCalls.{too_short, store_opened, run_opened, begin_on, move_on}
use Rattle.lent_runs.proofs.Copies.{Threads}

module _ (store run : Bytes) (lent : ℕ) (enough : thread_limit ≤ lent) where
  same_short : too_short store run lent ≡ too_short store run thread_limit
  unfolding too_short
  same_short = rw (le-ltb lent thread_limit enough, le-ltb thread_limit thread_limit (omega arith))

  pub begin_enough : (ts : Threads) → begin_on store run lent ts ≡ begin_on store run thread_limit ts
  unfolding begin_on store_opened
  begin_enough ts = rw same_short

  pub move_enough : (ts : Threads) (o : Order) → move_on store run lent ts o ≡ move_on store run thread_limit ts o
  unfolding move_on run_opened
  move_enough ts o = rw same_short
