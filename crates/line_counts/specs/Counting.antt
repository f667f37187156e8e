-- The counts of the lines of a store, where its rows have been counted.
use Rattle.std.specs.Prelude.{ℕ, length}
use Rattle.format.specs.Text.{Bytes}
use Rattle.calls.specs.declared.Counts.{Counts}
use Rattle.calls.specs.Layout.{decode}

unfoldable pub store_counts : ℕ → Bytes → Counts
store_counts n s = let d = decode s in record { rows = n; flows = length d.flows; comms = length d.comms; claims = length d.claims }
