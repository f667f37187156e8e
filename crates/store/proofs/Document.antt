-- The document in a store is the one that its bytes decode to, where as many rows are counted; and its tables.
use Prim.Native.Nat.{ℕ, zero, suc, ◌+◌, ◌*◌, ◌≤◌, ◌<◌}
use native.Mathlib.Omega.{arith}
use mathlib.Core.Path.{◌≡◌, refl, sym, ap, ◌∙◌}
use lib.ListN.{length, take, drop, length-take, length-drop}
use lib.Seq.{get_or-take, take_all, take-take, drop-drop}
use Rattle.format.specs.Limits.{row_limit}
use Rattle.format.specs.Text.{Bytes}
use Rattle.format.specs.Structure.{flow_line, comm_line, claim_line}
use Rattle.calls.specs.Layout.{row_size, member_limit, rows_size, sets_size, comms_start, claims_start, store_size, decode, decode_sets, decode_claims}
use Rattle.calls.specs.Canonical.{count_rows}
use Rattle.calls.specs.Judging.{flow_table, comm_table}
use Rattle.calls.proofs.Canonical.{rows_decoded}
use Rattle.calls.proofs.Canonical.Rows.{count_rows-le}
use Rattle.calls.proofs.Codec.Sparse.{counting_same}
use Rattle.calls.proofs.Canonical.Lists.{drop-take}
use Rattle.store.specs.Rows.{store_row, store_program, cells_at}
use Rattle.store.specs.Document.{store_document, store_flow, store_comm}
use Rattle.store.proofs.Laws.{row_cells, program_length}
use Rattle.store.proofs.Tables.{flow_table_lem, comm_table_lem}

-- ---- its parts

module _ (n : ℕ) (s : Bytes) where
  pub rows_are : (store_document n s).rows ≡ store_program n s
  unfolding store_document
  rows_are = refl

  pub flows_are : (store_document n s).flows ≡ decode_sets row_limit 0 (drop rows_size s)
  unfolding store_document
  flows_are = refl

  pub comms_are : (store_document n s).comms ≡ decode_sets row_limit 0 (drop comms_start s)
  unfolding store_document
  comms_are = refl

  pub claims_are : (store_document n s).claims ≡ decode_claims 0 (take row_limit (drop claims_start s))
  unfolding store_document
  claims_are = refl

  -- the line of its first claim
  pub claim_line_lem : claim_line (store_document n s) ≡ n + 2 + length (decode_sets row_limit 0 (drop rows_size s)) + length (decode_sets row_limit 0 (drop comms_start s))
  unfolding store_document claim_line comm_line flow_line
  claim_line_lem = rw (program_length n s)

-- ---- bytes past a part do not matter

sets_take : (k n j : ℕ) (bs : Bytes) → decode_sets k n (take (k * member_limit + j) bs) ≡ decode_sets k n bs
unfolding decode_sets
sets_take zero n j bs = refl
sets_take (suc k) n j bs =
    let q : suc k * member_limit + j ≡ member_limit + (k * member_limit + j) = omega arith in
    rw (q, drop-take member_limit (k * member_limit + j) bs, take-take member_limit (member_limit + (k * member_limit + j)) bs (omega arith), sets_take k (suc n) j (drop member_limit bs))

head_row : (s : Bytes) (r : ℕ) → r < row_limit → store_row (take store_size s) r ≡ store_row s r
unfolding cells_at
head_row s r h =
    let p = r * row_size in
    rw (row_cells (take store_size s) r, row_cells s r)
    (simp (
      get_or-take store_size s p 0 (omega arith),
      get_or-take store_size s (p + 1) 0 (omega arith),
      get_or-take store_size s (p + 2) 0 (omega arith),
      get_or-take store_size s (p + 3) 0 (omega arith),
      get_or-take store_size s (p + 4) 0 (omega arith),
      get_or-take store_size s (p + 5) 0 (omega arith),
      get_or-take store_size s (p + 6) 0 (omega arith),
      get_or-take store_size s (p + 7) 0 (omega arith),
    ))

-- ---- it is what the bytes of the fixed size decode to

-- its rows and its tables, of any bytes
module _ (s : Bytes) where
  pub rows_decode : (n : ℕ) → n ≡ count_rows row_limit s → (decode s).rows ≡ store_program n s
  unfolding store_program store_row
  rows_decode n e = rw (e, ← rows_decoded s) refl

  pub flow_is : flow_table (decode s) ≡ store_flow s
  unfolding flow_table decode
  flow_is = flow_table_lem s

  pub comm_is : comm_table (decode s) ≡ store_comm s
  unfolding comm_table decode
  comm_is = rw (drop-drop sets_size rows_size s) (comm_table_lem s)

-- of bytes that are not more than a store's
module _ (n : ℕ) (s : Bytes) (size : length s ≤ store_size) where
  claims_same : drop sets_size (drop sets_size (drop rows_size s)) ≡ take row_limit (drop claims_start s)
  claims_same =
      ap (drop sets_size) (drop-drop sets_size rows_size s)
      ∙ drop-drop sets_size comms_start s
      ∙ sym (take_all row_limit (drop claims_start s) (simp length-drop (omega arith)))

  pub document_is : n ≡ count_rows row_limit s → store_document n s ≡ decode s
  unfolding store_document decode store_program store_row
  document_is e = rw (claims_same, drop-drop sets_size rows_size s, e, ← rows_decoded s)

-- of bytes with a store at their head
module _ (n : ℕ) (s : Bytes) (e : n ≡ count_rows row_limit (take store_size s)) where
  rows_same : store_program n s ≡ store_program n (take store_size s)
  unfolding store_program
  rows_same =
      sym (counting_same n 0 (store_row (take store_size s)) (store_row s) λ r i l. head_row s r (omega (arith, e, count_rows-le row_limit (take store_size s))))

  flows_same : decode_sets row_limit 0 (drop rows_size (take store_size s)) ≡ decode_sets row_limit 0 (drop rows_size s)
  flows_same = ap (decode_sets row_limit 0) (drop-take rows_size (sets_size + (sets_size + row_limit)) s) ∙ sets_take row_limit 0 (sets_size + row_limit) (drop rows_size s)

  comms_same : decode_sets row_limit 0 (drop comms_start (take store_size s)) ≡ decode_sets row_limit 0 (drop comms_start s)
  comms_same = ap (decode_sets row_limit 0) (drop-take comms_start (sets_size + row_limit) s) ∙ sets_take row_limit 0 row_limit (drop comms_start s)

  codes_same : take row_limit (drop claims_start (take store_size s)) ≡ take row_limit (drop claims_start s)
  codes_same = ap (take row_limit) (drop-take claims_start row_limit s) ∙ take_all row_limit (take row_limit (drop claims_start s)) (simp length-take (omega arith))

  head_same : store_document n s ≡ store_document n (take store_size s)
  unfolding store_document
  head_same = rw (rows_same, flows_same, comms_same, codes_same)

  pub head_is : store_document n s ≡ decode (take store_size s)
  head_is = head_same ∙ document_is n (take store_size s) (simp length-take (omega arith)) e
