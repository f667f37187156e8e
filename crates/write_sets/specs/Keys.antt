-- Which sets can have a member, as a mark for each key.
use Rattle.std.specs.Prelude.{ℕ, ◌*◌, ◌<◌, ◌≤◌, [], ◌≡◌, length, take, drop}
use Rattle.format.specs.Limits.{row_limit}
use Rattle.format.specs.Text.{Bytes, byte_at}
use Rattle.calls.specs.Layout.{member_limit, rows_size, comms_start, members_from}

-- every set whose key has no mark is empty
pub record Keyed (keys sets : Bytes) : Type 0 where
  pub size : row_limit ≤ length keys
  pub empty : (n : ℕ) → n < row_limit → byte_at keys n ≡ 0 → members_from 0 (take member_limit (drop (n * member_limit) sets)) ≡ []

-- the marks of the names and of the channel rows of a store
pub record StoreKeys (names chans store : Bytes) : Type 0 where
  pub flows : Keyed names (drop rows_size store)
  pub comms : Keyed chans (drop comms_start store)
