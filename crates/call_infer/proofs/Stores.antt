-- A store that opens, before and after: it is ready, and with the smallest tables it holds the bytes of the document with these.
use Prim.Native.Nat.{ℕ, zero, suc, ◌+◌, ◌*◌, ◌<◌, ◌≤◌}
use native.Mathlib.Omega.{arith}
use mathlib.Core.Bool.{not, So}
use mathlib.Core.List.{[], ◌∷◌, ◌++◌, append_assoc}
use mathlib.Core.Path.{◌≡◌, refl, sym, ap, ◌∙◌}
use lib.ListN.{length, get_or, take, drop, length-take, length-drop, take-append-drop}
use lib.Seq.{get_or-take, get_or-drop, ext_get_or, drop-drop}
use lib.Dec.{ltb}
use borrow.Author.Tests.{lt-leb, lt-ltb}
use Rattle.program.specs.declared.Row.{Row}
use Rattle.program.specs.Test.{pick}
use Rattle.program.specs.Each.{every}
use Rattle.program.specs.Program.{Program, row_at, name_of}
use Rattle.program.specs.Flow.{Table}
use Rattle.least.specs.Least.{smallest_flow, smallest_comm}
use Rattle.program.specs.Each.{Each, nil, ◌&◌}
use Rattle.program.proofs.Each.{each_left}
use Rattle.format.specs.Limits.{row_limit}
use Rattle.format.specs.Text.{Bytes, byte_at}
use Rattle.format.specs.Document.{Document, member}
use Rattle.format.specs.Document as document
use Rattle.format.specs.Print.{form_numbers, row_lines, lines_of}
use Rattle.format.specs.Read.{row_numbers, line_numbers, above_limit}
use Rattle.format.specs.Refusals.{accepted}
use Rattle.format.proofs.Order.{orderly_iff}
use Rattle.format.proofs.Rising.{every_left, every_head, every_tail}
use Rattle.format.proofs.Structure.{orderly_of}
use Rattle.calls.specs.Layout.{member_limit, rows_size, sets_size, claims_start, comms_start, store_size, flow_at, comm_at, sets_bytes, encode, decode}
use Rattle.calls.specs.Canonical.{count_rows}
use Rattle.calls.specs.Calls.{opened}
use Rattle.inference.specs.Inference.{abstract_of, set_flags, table_flags, smallest_document}
use Rattle.calls.proofs.Codec.{low, decode-encode}
use Rattle.calls.proofs.Codec.Sets.{sets_bytes-length}
use Rattle.calls.proofs.Calls.{opened_is}
use Rattle.calls.proofs.Canonical.{rows_decoded}
use Rattle.calls.proofs.Canonical.Lists.{chunks_iff}
use Rattle.calls.proofs.Canonical.Rows.{count_rows-le}
use Rattle.inference.proofs.Inference.{encode_smallest, store_parts, rows_size_lem, first_part, last_part, rows_part, claims_part}
use Rattle.inference.proofs.Tables.{flag_at_lem, flags_size}
use Rattle.store.specs.Rows.{store_row, store_program}
use Rattle.tables.specs.Tables.{flag_at, flow_flag, comm_flag, store_flow, store_comm}
use Rattle.forms.specs.Forms.{form_in}
use Rattle.set_adds.specs.Adding.{Flags}
use Rattle.send_adds.specs.Sends.{Ready}
use Rattle.smallest.specs.Smallest.{Least}
use Rattle.set_adds.proofs.Adding.{rows_same}

-- ---- the numbers of a program's rows

row_low : (r : ℕ) (x : Row) → Each (λ n. n < row_limit) (line_numbers (document.row r x)) → (name_of x < row_limit) × Each (λ n. n < row_limit) (form_numbers (form_in x))
unfolding line_numbers row_numbers name_of form_in form_numbers
row_low r (Row.Result n) (i & j & h) = (j, nil)
row_low r (Row.Bind b) (i & j & h) = (j, each_left (form_numbers b.form) (b.rest ∷ []) h)

rows_low : (k : ℕ) (p : Program) (r : ℕ) → So (every (λ l. not (above_limit l)) (row_lines k p)) → (name_of (row_at p r) < row_limit) × Each (λ n. n < row_limit) (form_numbers (form_in (row_at p r)))
unfolding row_lines row_at name_of form_in form_numbers
rows_low k [] r t = (omega arith, nil)
rows_low k (x ∷ p) zero t = row_low k x (low (document.row k x) (every_head _ (document.row k x) (row_lines (suc k) p) t))
rows_low k (x ∷ p) (suc r) t = rows_low (suc k) p r (every_tail _ (document.row k x) (row_lines (suc k) p) t)

-- bytes in four parts
four_parts : (s : Bytes) → s ≡ take rows_size s ++ (take sets_size (drop rows_size s) ++ (take sets_size (drop comms_start s) ++ drop claims_start s))
four_parts s =
    let a = sym (take-append-drop rows_size s) in
    let b = sym (take-append-drop sets_size (drop rows_size s)) in
    let c = sym (take-append-drop sets_size (drop comms_start s)) in
    let d = drop-drop sets_size rows_size s in
    let e = drop-drop sets_size comms_start s in
    a ∙ ap (λ (x : Bytes). take rows_size s ++ x) (b ∙ ap (λ (x : Bytes). take sets_size (drop rows_size s) ++ x) (d ∙ c ∙ ap (λ (x : Bytes). take sets_size (drop comms_start s) ++ x) e))

-- ---- a store that opens

module _ (s : Bytes) (d : Document) (e : opened s ≡ accepted d) (n : ℕ) (q : n ≡ count_rows row_limit (take store_size s)) where
  size : store_size ≤ length s
  size = (opened_is s d e).long

  few : n ≤ row_limit
  few = omega (arith, q, count_rows-le row_limit (take store_size s))

  pub program_is : store_program n s ≡ d.rows
  unfolding store_program store_row
  program_is =
      sym (rows_same n s (take store_size s) few (λ i l. get_or-take store_size s i 0 (omega arith)))
      ∙ rw q (sym (rows_decoded (take store_size s))) ∙ ap (λ (x : Bytes). (decode x).rows) (opened_is s d e).holds
      ∙ ap (λ (x : Document). x.rows) (decode-encode d (orderly_of d (opened_is s d e).well))

  numbers : (r : ℕ) → (name_of (row_at d.rows r) < row_limit) × Each (λ n. n < row_limit) (form_numbers (form_in (row_at d.rows r)))
  unfolding lines_of
  numbers r = rows_low 0 d.rows r (every_left _ (row_lines 0 d.rows) _ ((orderly_iff d).0 (orderly_of d (opened_is s d e).well)).1.numbers)

  pub ready : Ready n s
  ready = record { size = size; few = few; names = λ r. rw program_is (numbers r).0; numbers = λ r. rw program_is (numbers r).1 }

  module _ (s' : Bytes) (h : Least n s s') where
    -- a byte of 0 or 1 is the flag of its test
    flag_is : (b : ℕ) → b < 2 → pick (ltb 0 b) 1 0 ≡ b
    flag_is zero l = refl
    flag_is (suc b) l = rw (lt-ltb 0 (suc b) (omega arith)) (omega arith)

    member_is : (m : ℕ) → member (abstract_of m) ≡ m
    unfolding member abstract_of
    member_is zero = refl
    member_is (suc r) = refl

    -- one set of a table
    set_part : (base : ℕ) (t : Table) → rows_size ≤ base → base + sets_size ≤ claims_start
        → ((k m : ℕ) → k < row_limit → m < member_limit → t k (abstract_of m) ≡ ltb 0 (byte_at s' (base + k * member_limit + m)))
        → table_flags row_limit 0 t ≡ take sets_size (drop base s')
    unfolding table_flags Flags
    set_part base t l k tells =
        (chunks_iff member_limit (λ n. set_flags (t n)) (λ n. flags_size (t n)) row_limit (λ n. n) (drop base s')).1 λ j lj.
        ext_get_or 0 (set_flags (t j)) (take member_limit (drop (j * member_limit) (drop base s')))
        (flags_size (t j) ∙ simp (length-take, length-drop) (omega (arith, h.resets.size, size)))
        λ m lm.
        let few : m < member_limit = omega (arith, flags_size (t j)) in
        let b : byte_at s' (base + j * member_limit + m) < 2 = h.flags (base + j * member_limit + m) (omega arith) (omega arith) in
        let here : get_or (take member_limit (drop (j * member_limit) (drop base s'))) m 0 ≡ byte_at s' (base + (j * member_limit + m)) =
        get_or-take member_limit (drop (j * member_limit) (drop base s')) m 0 few ∙ get_or-drop (j * member_limit) (drop base s') m 0 ∙ get_or-drop base s' (j * member_limit + m) 0 in
        let place : base + (j * member_limit + m) ≡ base + j * member_limit + m = omega arith in
        let told : pick (t j (abstract_of m)) 1 0 ≡ byte_at s' (base + j * member_limit + m) = rw (tells j m lj few) (flag_is _ b) in
        flag_at_lem (t j) m few ∙ told ∙ sym (here ∙ ap (byte_at s') place)

    flag_told : (f : ℕ → ℕ) (k m : ℕ) → k < row_limit → m < member_limit → ltb 0 (flag_at s' f k (member (abstract_of m))) ≡ ltb 0 (byte_at s' (f k + m))
    unfolding flag_at
    flag_told f k m l few = rw (member_is m, lt-leb row_limit k l, lt-leb member_limit m few)

    flows_part_lem : table_flags row_limit 0 (smallest_flow d.rows) ≡ take sets_size (drop rows_size s')
    unfolding store_flow flow_flag
    flows_part_lem = set_part rows_size (smallest_flow d.rows) (omega arith) (omega arith) λ k m l few.
        ap (λ (p : Program). smallest_flow p k (abstract_of m)) (sym program_is) ∙ ap (λ (t : Table). t k (abstract_of m)) (sym h.flows) ∙ flag_told flow_at k m l few

    comms_part_lem : table_flags row_limit 0 (smallest_comm d.rows) ≡ take sets_size (drop comms_start s')
    unfolding store_comm comm_flag
    comms_part_lem = set_part comms_start (smallest_comm d.rows) (omega arith) (omega arith) λ k m l few.
        ap (λ (p : Program). smallest_comm p k (abstract_of m)) (sym program_is) ∙ ap (λ (t : Table). t k (abstract_of m)) (sym h.comms) ∙ flag_told comm_at k m l few

    -- the rows and the rest stay
    rows_part_lem : take rows_size s' ≡ rows_part s d e
    rows_part_lem =
        ext_get_or 0 (take rows_size s') (take rows_size s) (simp length-take (omega (arith, h.resets.size)))
        (λ i l. let k : i < rows_size = omega (arith, length-take rows_size s') in get_or-take rows_size s' i 0 k ∙ h.resets.rows i k ∙ sym (get_or-take rows_size s i 0 k))
        ∙ ap (take rows_size) (store_parts s d e) ∙ first_part (rows_part s d e) (sets_bytes d.flows) (sets_bytes d.comms) (claims_part s d e) (drop store_size s) (rows_size_lem s d e)

    rest_part_lem : drop claims_start s' ≡ claims_part s d e ++ drop store_size s
    rest_part_lem =
        ext_get_or 0 (drop claims_start s') (drop claims_start s) (simp length-drop (omega (arith, h.resets.size)))
        (λ i l. get_or-drop claims_start s' i 0 ∙ h.resets.rest (claims_start + i) (omega arith) ∙ sym (get_or-drop claims_start s i 0))
        ∙ ap (drop claims_start) (store_parts s d e)
        ∙ last_part (rows_part s d e) (sets_bytes d.flows) (sets_bytes d.comms) (claims_part s d e) (drop store_size s) (rows_size_lem s d e) (sets_bytes-length d.flows)
        (sets_bytes-length d.comms)

    -- the bytes left are those of the document with the smallest tables
    pub bytes_left : s' ≡ encode (smallest_document d) ++ drop store_size s
    bytes_left =
        let f = table_flags row_limit 0 (smallest_flow d.rows) in
        let c = table_flags row_limit 0 (smallest_comm d.rows) in
        let k = claims_part s d e in
        let four : s' ≡ take rows_size s' ++ (take sets_size (drop rows_size s') ++ (take sets_size (drop comms_start s') ++ drop claims_start s')) = four_parts s' in
        let joined : rows_part s d e ++ (f ++ (c ++ (k ++ drop store_size s))) ≡ (rows_part s d e ++ (f ++ (c ++ k))) ++ drop store_size s = sym (simp append_assoc) in
        four ∙ rw (rows_part_lem, ← flows_part_lem, ← comms_part_lem, rest_part_lem) joined ∙ ap (λ (x : Bytes). x ++ drop store_size s) (sym (encode_smallest d))
