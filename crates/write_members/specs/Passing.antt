-- Bytes of a set that are passed over.
use Rattle.std.specs.Prelude.{ℕ, ◌+◌, ◌<◌, ◌≤◌, ◌≡◌, length, drop}
use Rattle.format.specs.Text.{Bytes}
use Rattle.calls.specs.Layout.{members_from}

-- the k bytes from m on, at least one, mark no member
pub record Passes (flags : Bytes) (m k : ℕ) : Type 0 where
  pub some : 0 < k
  pub inside : m + k ≤ length flags
  pub same : members_from m (drop m flags) ≡ members_from (m + k) (drop (m + k) flags)
