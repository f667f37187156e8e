-- The places of a channel on one side.
use Rattle.std.specs.Prelude.{ℕ, ◌+◌, Bool, length}
use Rattle.program.specs.Test.{any}
use Rattle.program.specs.Maybe.{has}
use Rattle.program.specs.Program.{Program, send_at, recv_at}
use Rattle.program.specs.Flow.{Table, row}
use Rattle.program.specs.Walk.{send_place, receive_place}
use Rattle.format.specs.Text.{Bytes, byte_at}
use Rattle.place_marks.specs.declared.Side.{Side}
use Rattle.place_marks.specs.declared.Side.TheVariants.{Sends, Receives}
use Rattle.row_lists.specs.Lists.{send_kind, recv_kind}
use Rattle.row_marks.specs.RowMarks.{on}

-- the kind of the side's rows in a store
unfoldable pub kind_on : Side → ℕ
kind_on Sends = send_kind
kind_on Receives = recv_kind

module _ (p : Program) (flow : Table) where
  -- row s is a send or a recv, by the side, whose channel has row c in its set
  unfoldable pub event_on : Side → ℕ → ℕ → Bool
  event_on Sends c s = has (send_at p s) λ (k, m). flow k (row c)
  event_on Receives c s = has (recv_at p s) λ k. flow k (row c)

  unfoldable pub place : Side → ℕ → ℕ → Bool
  place Sends c = send_place p flow c
  place Receives c = receive_place p flow c

-- one of the rows in a list is in the set whose rows begin at a position of a store
unfoldable pub one_in : Bytes → ℕ → Bytes → Bool
one_in s at list = any (length list) λ i. on s (at + byte_at list i)
