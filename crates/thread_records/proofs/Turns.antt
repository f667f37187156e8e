-- Both loops go down from the number of records in use and follow `copied` one record at a time: what is still to come leads to the whole result.
use mathlib.Core.Path.{◌≡◌, refl}
use Prim.Native.Nat.{ℕ, zero, suc, ◌<◌, ◌-◌, min}
use native.Mathlib.Omega.{arith}
use mathlib.Core.List.{List}
use lib.ListN.{length, get_or, set}
use Rattle.machine.specs.declared.ThreadRecord.{ThreadRecord}
use Rattle.machine.specs.Machine.{thread_limit}
use Rattle.thread_records.specs.declared.Records.{Records}
use Rattle.thread_records.specs.Records.{no_record, no_records, with_record, copied, within, records_in, put_records}

-- the records with the first k of a list in their places
unfoldable pub filled : ℕ → List ThreadRecord → Records → Records
filled k ts r = record { lent = r.lent; list = copied k ts r.list }

pub filled_first : (ts : List ThreadRecord) (n : ℕ) (r : Records) → n ≡ min (length ts) thread_limit → r ≡ no_records (length ts) → filled n ts r ≡ records_in ts
unfolding filled records_in within
filled_first ts n r e e' = rw (e, e')

pub filled_next : (ts : List ThreadRecord) (n : ℕ) (r r' : Records) → 0 < n → r' ≡ with_record r (n - 1) (get_or ts (n - 1) no_record) → filled (n - 1) ts r' ≡ filled n ts r
unfolding filled copied
filled_next ts zero r r' l e = absurd (omega arith)
filled_next ts (suc k) r r' l e = let q : suc k - 1 ≡ k = omega arith in rw (e, q)

pub filled_last : (ts : List ThreadRecord) (n : ℕ) (r : Records) → (0 < n → ⊥) → filled n ts r ≡ r
unfolding filled copied
filled_last ts zero r l = refl
filled_last ts (suc k) r l = absurd (l (omega arith))

pub put_first : (ts : List ThreadRecord) (n : ℕ) (r : Records) → n ≡ min (length ts) thread_limit → copied n r.list ts ≡ put_records ts r
unfolding put_records within
put_first ts n r e = rw e

pub put_next : (from into : List ThreadRecord) (n : ℕ) (t : ThreadRecord) → 0 < n → t ≡ get_or from (n - 1) no_record → copied (n - 1) from (set into (n - 1) t) ≡ copied n from into
unfolding copied
put_next from into zero t l e = absurd (omega arith)
put_next from into (suc k) t l e = let q : suc k - 1 ≡ k = omega arith in rw (e, q)

pub put_last : (from into : List ThreadRecord) (n : ℕ) → (0 < n → ⊥) → copied n from into ≡ into
unfolding copied
put_last from into zero l = refl
put_last from into (suc k) l = absurd (l (omega arith))
