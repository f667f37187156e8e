-- The document in a store of which the first n rows count, and its sets as tables.
use Rattle.std.specs.Prelude.{ℕ, ◌+◌, take, drop, ltb, leb}
use Rattle.program.specs.Test.{pick}
use Rattle.program.specs.Flow.{Table}
use Rattle.format.specs.Limits.{row_limit}
use Rattle.format.specs.Text.{Bytes, byte_at}
use Rattle.format.specs.Document.{Document, member}
use Rattle.calls.specs.Layout.{member_limit, rows_size, comms_start, claims_start, flow_at, comm_at, decode_sets, decode_claims}
use Rattle.store.specs.Rows.{store_program}

-- the document in a store with n rows: `decode` of the bytes of the fixed size, where these are the rows before the first of kind 0
unfoldable pub store_document : ℕ → Bytes → Document
store_document n s =
    record {
      rows = store_program n s;
      flows = decode_sets row_limit 0 (drop rows_size s);
      comms = decode_sets row_limit 0 (drop comms_start s);
      claims = decode_claims 0 (take row_limit (drop claims_start s));
    }

-- the byte of member m in a set that begins at a position: 0 where there is no such name, row or member
unfoldable pub flag_at : Bytes → (ℕ → ℕ) → ℕ → ℕ → ℕ
flag_at s position n m = pick (leb row_limit n) 0 (pick (leb member_limit m) 0 (byte_at s (position n + m)))

unfoldable pub flow_flag : Bytes → ℕ → ℕ → ℕ
flow_flag s n m = flag_at s flow_at n m

unfoldable pub comm_flag : Bytes → ℕ → ℕ → ℕ
comm_flag s c m = flag_at s comm_at c m

unfoldable pub store_flow : Bytes → Table
store_flow s n a = ltb 0 (flow_flag s n (member a))

unfoldable pub store_comm : Bytes → Table
store_comm s c a = ltb 0 (comm_flag s c (member a))
