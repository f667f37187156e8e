-- The loop goes down from the number of records in use; `Turns` says that each turn keeps what the whole loop leads to.
use Rattle.std.proofs.Common.{◌≡◌, ◌≤◌, min, length}
use Rattle.machine.specs.Machine.{thread_limit}
use Rattle.thread_records.specs.Records.{records_in}
use Rattle.thread_records.proofs.Turns.{filled}
use Rattle.thread_records.proofs.records_in.Given as goal

abbrev pub invariant-loop-k : goal.invariant-loop-k
invariant-loop-k l =
    (l.k ≤ min (length l.threads) thread_limit) × (filled l.k l.threads l.records ≡ records_in l.threads)
