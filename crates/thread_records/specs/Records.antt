-- The thread records that may be in use, taken out of a lent list and put back into it.
use Rattle.std.specs.Prelude.{ℕ, zero, suc, min, List, length, get_or, set, replicate}
use Rattle.machine.specs.declared.ThreadRecord.{ThreadRecord}
use Rattle.machine.specs.Machine.{thread_limit}
use Rattle.thread_records.specs.declared.Records.{Records}

abbrev pub no_record : ThreadRecord
no_record = record { row = 0; cell = 0; frame = 0 }

abbrev pub with_record : Records → ℕ → ThreadRecord → Records
with_record r k t = record { lent = r.lent; list = set r.list k t }

-- no record yet, of a list of this length
abbrev pub no_records : ℕ → Records
no_records lent = record { lent = lent; list = replicate thread_limit no_record }

-- a list whose first k records are those of another
unfoldable pub copied : ℕ → List ThreadRecord → List ThreadRecord → List ThreadRecord
copied zero from into = into
copied (suc k) from into = copied k from (set into k (get_or from k no_record))

-- how many of the records lent may be in use
unfoldable pub within : List ThreadRecord → ℕ
within ts = min (length ts) thread_limit

-- the records of a lent list; where it is too short, others that say nothing
unfoldable pub records_in : List ThreadRecord → Records
records_in ts = record { lent = length ts; list = copied (within ts) ts (replicate thread_limit no_record) }

-- the lent list with these records in the place of its first ones
unfoldable pub put_records : List ThreadRecord → Records → List ThreadRecord
put_records ts r = copied (within ts) r.list ts
