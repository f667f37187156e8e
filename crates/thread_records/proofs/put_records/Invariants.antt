-- The loop goes down from the number of records in use; `Turns` says that each turn keeps what the whole loop leads to.
use Rattle.std.proofs.Common.{◌≡◌, ◌≤◌, min, length}
use Rattle.machine.specs.Machine.{thread_limit}
use Rattle.thread_records.specs.Records.{copied, put_records}
use Rattle.thread_records.proofs.put_records.Given as goal

abbrev pub invariant-loop-k : goal.invariant-loop-k
invariant-loop-k l =
    (l.k ≤ min (length l.initial.threads) thread_limit) × (copied l.k l.records.list l.threads ≡ put_records l.initial.threads l.records)
