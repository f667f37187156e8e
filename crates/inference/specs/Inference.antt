-- "The smallest tables from the program alone", as a call: the answer and the lent bytes afterwards, as a function of the store.
--   infer   `opened` of calls, then `smallest_document`, then `stored` of calls   (20, 21, 22)
-- The contract of the public function is equality with `infer`, by `Leaves` of calls.
use Rattle.std.specs.Prelude.{ℕ, zero, suc, List}
use Rattle.program.specs.Test.{pick}
use Rattle.program.specs.Each.{collect}
use Rattle.program.specs.Flow.{Abstract, u, row, Set, Table}
use Rattle.least.specs.Least.{smallest_flow, smallest_comm}
use Rattle.format.specs.Limits.{row_limit}
use Rattle.format.specs.Text.{Bytes}
use Rattle.format.specs.Refusals.{accepted}
use Rattle.format.specs.Document.{Entry, Document, with_tables}
use Rattle.calls.specs.Answers.{LoadAnswer}
use Rattle.calls.specs.Layout.{member_limit, counting, decode_sets}
use Rattle.calls.specs.Calls.{Outcome, opened, stored, and_then}

-- unit is member 0, row r is member r + 1
unfoldable pub abstract_of : ℕ → Abstract
abstract_of zero = u
abstract_of (suc r) = row r

-- a byte for each member
unfoldable pub set_flags : Set → Bytes
set_flags s = counting member_limit 0 λ m. pick (s (abstract_of m)) 1 0

-- the sets of k names or channel rows from n on
unfoldable pub table_flags : ℕ → ℕ → Table → Bytes
table_flags k n t = collect (λ n. set_flags (t n)) (counting k n λ n. n)

-- the lines of a table: a name or channel row with nothing has no line
unfoldable pub entries_of : Table → List Entry
entries_of t = decode_sets row_limit 0 (table_flags row_limit 0 t)

-- the document with the smallest tables of its program in the place of its own
unfoldable pub smallest_document : Document → Document
smallest_document d = with_tables d (entries_of (smallest_flow d.rows)) (entries_of (smallest_comm d.rows))

-- "Given a loaded store, the checker shall put in its own flow and comm sets, whatever was there before"; "The call answers the counts that load would on the outcome's text, were
-- there no length limit"
unfoldable pub infer : Bytes → Outcome LoadAnswer
infer store = stored store (and_then (opened store) λ d. accepted (smallest_document d))
