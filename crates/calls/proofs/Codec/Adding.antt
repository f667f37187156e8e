-- A line added to a document changes one part of the store, which was 0 before.
use Prim.Native.Nat.{ℕ, zero, suc, ◌+◌, ◌*◌, ◌-◌, ◌≤◌, ◌<◌}
use native.Mathlib.Omega.{arith}
use native.Mathlib.Nat.{add-zero, zero-add}
use mathlib.Core.Bool.{Bool, true, false, So}
use mathlib.Core.List.{List, [], ◌∷◌, ◌++◌, append_assoc, append-nil}
use mathlib.Core.Path.{◌≡◌, refl, sym, ap, ◌∙◌, subst}
use mathlib.Core.Logic.{◌≢◌}
use lib.ListN.{length, take, drop, replicate, length-append, length-replicate, replicate-append-replicate}
use lib.Seq.{take_at, drop_at}
use lib.Dec.{ltb, eqb}
use borrow.Author.Tests.{ltb-true, eq-eqb, ne_eqb}
use Rattle.program.specs.declared.Row.{Row}
use Rattle.program.specs.Test.{pick}
use Rattle.program.specs.Each.{every, collect, elem}
use Rattle.program.specs.Program.{Program}
use Rattle.program.proofs.Test.{and_left, and_right}
use Rattle.format.specs.Limits.{row_limit}
use Rattle.format.specs.Text.{Bytes}
use Rattle.format.specs.Document.{Entry, Claim, Document, row, flow, comm, claim, members_at, with_tables}
use Rattle.format.specs.Read.{add, no_lines}
use Rattle.calls.specs.Layout.{row_size, rows_size, sets_size, comms_start, claims_start, member_limit, store_size, flow_at, comm_at, claim_at, counting, padded, row_bytes, flags_of, sets_bytes}
use Rattle.calls.specs.Layout.{word_code, claim_code, encode}
use Rattle.calls.proofs.Patches.{patch, patch_middle}
use Rattle.calls.proofs.Codec.Sparse.{counting-length, counting_same}
use Rattle.calls.proofs.Codec.Rows.{rows_length, row_size_lem, rows_part_length}
use Rattle.calls.proofs.Codec.Sets.{flags_length, sets_bytes-length}

-- ---- parts of equal size, one for each number

chunks : (ℕ → Bytes) → ℕ → ℕ → Bytes
chunks g n i = collect g (counting n i λ n. n)

chunks_split : (g : ℕ → Bytes) (k m i : ℕ) → chunks g (k + suc m) i ≡ chunks g k i ++ (g (i + k) ++ chunks g m (suc (i + k)))
unfolding chunks collect counting
chunks_split g zero m i = rw (zero-add, add-zero)
chunks_split g (suc k) m i =
    let e : suc k + suc m ≡ suc (k + suc m) = omega arith in
    let q : suc i + k ≡ i + suc k = omega arith in
    rw e (ap (λ (x : Bytes). g i ++ x) (chunks_split g k m (suc i)) ∙ rw q (sym (append_assoc (g i) (chunks g k (suc i)) (g (i + suc k) ++ chunks g m (suc (i + suc k))))))

chunks_same : (g h : ℕ → Bytes) (k i : ℕ) → ((n : ℕ) → i ≤ n → n < i + k → g n ≡ h n) → chunks g k i ≡ chunks h k i
unfolding chunks collect counting
chunks_same g h zero i e = refl
chunks_same g h (suc k) i e = rw (e i (omega arith) (omega arith), chunks_same g h k (suc i) (λ n l m. e n (omega arith) (omega arith)))

chunks_length : (g : ℕ → Bytes) (k i : ℕ) → ((n : ℕ) → length (g n) ≡ member_limit) → length (chunks g k i) ≡ k * member_limit
unfolding chunks collect counting
chunks_length g zero i e = refl
chunks_length g (suc k) i e = length-append (g i) (chunks g k (suc i)) ∙ rw (e i, chunks_length g k (suc i) e) (omega arith)

-- ---- sets

members_other : (es : List Entry) (e : Entry) (n : ℕ) → n ≢ e.key → members_at (es ++ (e ∷ [])) n ≡ members_at es n
unfolding members_at
members_other [] e n d = rw (ne_eqb n e.key d, members_at)
members_other (f ∷ es) e n d = go (eqb n f.key) (members_other es e n d)
  where
    go : (b : Bool) → members_at (es ++ (e ∷ [])) n ≡ members_at es n
        → ◌≡◌ {A = List ℕ} (elim b [ true ↦ f.members | false ↦ members_at (es ++ (e ∷ [])) n ]) (elim b [ true ↦ f.members | false ↦ members_at es n ])
    go true h = refl
    go false h = h

-- a key above all that are there has no set yet
members_new : (es : List Entry) (e : Entry) → So (every (λ f. ltb f.key e.key) es) → (members_at es e.key ≡ []) × (members_at (es ++ (e ∷ [])) e.key ≡ e.members)
unfolding members_at every
members_new [] e h = (refl, rw (eq-eqb e.key e.key refl, members_at))
members_new (f ∷ es) e h =
    let l = ltb-true f.key e.key (and_left (ltb f.key e.key) _ h) in
    let (a, b) = members_new es e (and_right (ltb f.key e.key) _ h) in
    let d : eqb e.key f.key ≡ false = ne_eqb e.key f.key (λ q. omega arith) in
    (rw (d, members_at) a, rw (d, members_at) b)

flags_none : (n i : ℕ) → counting {A = ℕ} n i (λ m. pick (elem m []) 1 0) ≡ replicate n 0
unfolding counting elem
flags_none zero i = refl
flags_none (suc n) i = ap (λ (l : Bytes). 0 ∷ l) (flags_none n (suc i))

-- a part of some bytes and what came in its place, between what stays
pub record Swapped (old new gone part : Bytes) (at : ℕ) : Type 0 where
  pub before : Bytes
  pub after : Bytes
  pub size : length before ≡ at
  pub same : length gone ≡ length part
  pub was : old ≡ before ++ (gone ++ after)
  pub is : new ≡ before ++ (part ++ after)

-- the part that a new line fills was 0
abbrev pub Filled : Bytes → Bytes → Bytes → ℕ → Type 0
Filled old new part at = Swapped old new (replicate (length part) 0) part at

-- two lists of sets that differ in one set at most
pub sets_swapped : (es fs : List Entry) (n : ℕ) → n < row_limit → ((k : ℕ) → k ≢ n → members_at fs k ≡ members_at es k)
    → Swapped (sets_bytes es) (sets_bytes fs) (flags_of (members_at es n)) (flags_of (members_at fs n)) (n * member_limit)
unfolding sets_bytes chunks
sets_swapped es fs n l others =
    let m = row_limit - suc n in
    let q : row_limit ≡ n + suc m = omega arith in
    let z : 0 + n ≡ n = zero-add n in
    record {
      before = chunks g n 0;
      after = chunks g m (suc (0 + n));
      size = chunks_length g n 0 (λ n. flags_length (members_at es n));
      same = flags_length (members_at es n) ∙ sym (flags_length (members_at fs n));
      was = ap (λ (i : ℕ). chunks g i 0) q ∙ chunks_split g n m 0 ∙ ap (λ (i : ℕ). chunks g n 0 ++ (g i ++ chunks g m (suc (0 + n)))) z;
      is = ap (λ (i : ℕ). chunks k i 0) q ∙ chunks_split k n m 0 ∙ rw (
        chunks_same k g n 0 (λ i a b. other i (λ d. omega arith)),
        chunks_same k g m (suc (0 + n)) (λ i a b. other i (λ d. omega arith)),
        z,
      );
    }
  where
    g : ℕ → Bytes
    g n = flags_of (members_at es n)

    k : ℕ → Bytes
    k n = flags_of (members_at fs n)

    other : (i : ℕ) → i ≢ n → k i ≡ g i
    other i d = ap flags_of (others i d)

pub sets_filled : (es : List Entry) (e : Entry) → So (every (λ f. ltb f.key e.key) es) → e.key < row_limit
    → Filled (sets_bytes es) (sets_bytes (es ++ (e ∷ []))) (flags_of e.members) (e.key * member_limit)
unfolding flags_of
sets_filled es e h l =
    let (old, new) = members_new es e h in
    let none : flags_of [] ≡ replicate (length (flags_of e.members)) 0 = flags_none member_limit 0 ∙ ap (λ (n : ℕ). replicate n 0) (sym (flags_length e.members)) in
    subst (λ (b : Bytes). Swapped (sets_bytes es) (sets_bytes (es ++ (e ∷ []))) b (flags_of e.members) (e.key * member_limit)) (ap flags_of old ∙ none)
    (subst (λ (ms : List ℕ). Swapped (sets_bytes es) (sets_bytes (es ++ (e ∷ []))) (flags_of (members_at es e.key)) (flags_of ms) (e.key * member_limit)) new
    (sets_swapped es (es ++ (e ∷ [])) e.key l (members_other es e)))

-- ---- claims

counting_split : (f : ℕ → ℕ) (k m i : ℕ) → counting (k + suc m) i f ≡ counting k i f ++ (f (i + k) ∷ counting m (suc (i + k)) f)
unfolding counting
counting_split f zero m i = rw (zero-add, add-zero)
counting_split f (suc k) m i =
    let e : suc k + suc m ≡ suc (k + suc m) = omega arith in
    let q : suc i + k ≡ i + suc k = omega arith in
    rw e (ap (λ (x : Bytes). f i ∷ x) (counting_split f k m (suc i)) ∙ rw q)

claim_other : (cs : List Claim) (c : Claim) (n : ℕ) → n ≢ c.channel → claim_code (cs ++ (c ∷ [])) n ≡ claim_code cs n
unfolding claim_code
claim_other [] c n d = rw (ne_eqb n c.channel d, claim_code)
claim_other (k ∷ cs) c n d = go (eqb n k.channel) (claim_other cs c n d)
  where
    go : (b : Bool) → claim_code (cs ++ (c ∷ [])) n ≡ claim_code cs n
        → ◌≡◌ {A = ℕ} (elim b [ true ↦ word_code k.word | false ↦ claim_code (cs ++ (c ∷ [])) n ]) (elim b [ true ↦ word_code k.word | false ↦ claim_code cs n ])
    go true h = refl
    go false h = h

claim_new : (cs : List Claim) (c : Claim) → So (every (λ k. ltb k.channel c.channel) cs) → (claim_code cs c.channel ≡ 0) × (claim_code (cs ++ (c ∷ [])) c.channel ≡ word_code c.word)
unfolding claim_code every
claim_new [] c h = (refl, rw (eq-eqb c.channel c.channel refl, claim_code))
claim_new (k ∷ cs) c h =
    let l = ltb-true k.channel c.channel (and_left (ltb k.channel c.channel) _ h) in
    let (a, b) = claim_new cs c (and_right (ltb k.channel c.channel) _ h) in
    let d : eqb c.channel k.channel ≡ false = ne_eqb c.channel k.channel (λ q. omega arith) in
    (rw (d, claim_code) a, rw (d, claim_code) b)

pub claims_filled : (cs : List Claim) (c : Claim) → So (every (λ k. ltb k.channel c.channel) cs) → c.channel < row_limit
    → Filled (counting row_limit 0 (claim_code cs)) (counting row_limit 0 (claim_code (cs ++ (c ∷ [])))) (word_code c.word ∷ []) c.channel
claims_filled cs c h l =
    let m = row_limit - suc c.channel in
    let q : row_limit ≡ c.channel + suc m = omega arith in
    let (old, new) = claim_new cs c h in
    let z : 0 + c.channel ≡ c.channel = zero-add c.channel in
    let f = claim_code cs in
    let g = claim_code (cs ++ (c ∷ [])) in
    record {
      before = counting c.channel 0 f;
      after = counting m (suc (0 + c.channel)) f;
      size = counting-length c.channel 0 f;
      same = refl;
      was = ap (λ (n : ℕ). counting n 0 f) q ∙ counting_split f c.channel m 0 ∙ rw (z, old);
      is = ap (λ (n : ℕ). counting n 0 g) q ∙ counting_split g c.channel m 0 ∙ rw (
        counting_same c.channel 0 g f (λ n a b. claim_other cs c n (λ d. omega arith)),
        counting_same m (suc (0 + c.channel)) g f (λ n a b. claim_other cs c n (λ d. omega arith)),
        z,
        new,
      );
    }

-- ---- rows

collect_snoc : (xs : Program) (x : Row) → collect row_bytes (xs ++ (x ∷ [])) ≡ collect row_bytes xs ++ row_bytes x
unfolding collect
collect_snoc [] x = append-nil (row_bytes x)
collect_snoc (y ∷ xs) x = ap (λ (l : Bytes). row_bytes y ++ l) (collect_snoc xs x) ∙ sym (append_assoc (row_bytes y) (collect row_bytes xs) (row_bytes x))

pub rows_filled : (xs : Program) (x : Row) → length xs < row_limit
    → Filled (padded rows_size (collect row_bytes xs)) (padded rows_size (collect row_bytes (xs ++ (x ∷ [])))) (row_bytes x) (length xs * row_size)
unfolding padded
rows_filled xs x l =
    let b = collect row_bytes xs in
    let n : length b ≡ length xs * row_size = rows_length xs in
    let s : length (row_bytes x) ≡ row_size = row_size_lem x in
    let m = rows_size - length b - row_size in
    let split : rows_size - length b ≡ length (row_bytes x) + m = omega arith in
    let rest : rows_size - length (b ++ row_bytes x) ≡ m = omega (arith, length-append b (row_bytes x)) in
    record {
      before = b;
      after = replicate m 0;
      size = n;
      same = length-replicate (length (row_bytes x)) 0;
      was = ap (λ (l : Bytes). b ++ l) (ap (λ (n : ℕ). replicate n 0) split ∙ sym (replicate-append-replicate (length (row_bytes x)) m 0));
      is = rw (collect_snoc xs x, rest, append_assoc b (row_bytes x) (replicate m 0));
    }

-- ---- the whole store

joined : (pre before part after post : Bytes) → pre ++ ((before ++ (part ++ after)) ++ post) ≡ (pre ++ before) ++ (part ++ (after ++ post))
joined pre before part after post =
    rw (append_assoc before (part ++ after) post, append_assoc part after post, append_assoc pre before (part ++ (after ++ post)))

module _ {old new gone part : Bytes} {at : ℕ} (pre post : Bytes) (f : Swapped old new gone part at) where
  place : length (pre ++ f.before) ≡ length pre + at
  place = length-append pre f.before ∙ ap (λ (n : ℕ). length pre + n) f.size

  whole : pre ++ (old ++ post) ≡ (pre ++ f.before) ++ (gone ++ (f.after ++ post))
  whole = ap (λ (x : Bytes). pre ++ (x ++ post)) f.was ∙ joined pre f.before gone f.after post

  pub swapped_patch : patch (length pre + at) part (pre ++ (old ++ post)) ≡ pre ++ (new ++ post)
  swapped_patch =
      ap (patch (length pre + at) part) whole ∙ patch_middle (pre ++ f.before) gone part (f.after ++ post) (length pre + at) place f.same
      ∙ sym (ap (λ (x : Bytes). pre ++ (x ++ post)) f.is ∙ joined pre f.before part f.after post)

  -- what stood there before
  pub swapped_old : take (length part) (drop (length pre + at) (pre ++ (old ++ post))) ≡ gone
  swapped_old = rw (whole, drop_at (pre ++ f.before) (gone ++ (f.after ++ post)) (length pre + at) place) (take_at gone (f.after ++ post) (length part) f.same)

-- where each part begins
rows_part_lem : (d : Document) → length d.rows ≤ row_limit → length (padded rows_size (collect row_bytes d.rows)) ≡ rows_size
rows_part_lem d l = rows_part_length row_limit d.rows l

-- a row more, where there is room for it
pub add_row : (d : Document) (r : ℕ) (x : Row) → length d.rows < row_limit → encode (add d (row r x)) ≡ patch (length d.rows * row_size) (row_bytes x) (encode d)
unfolding encode add
add_row d r x l =
    let e : length d.rows * row_size ≡ length {A = ℕ} [] + length d.rows * row_size = sym (zero-add (length d.rows * row_size)) in
    rw e (sym (swapped_patch [] (sets_bytes d.flows ++ (sets_bytes d.comms ++ counting row_limit 0 (claim_code d.claims))) (rows_filled d.rows x l)))

module _ (d : Document) (fit : length d.rows ≤ row_limit) where
  -- a flow line more, whose name is above all that have one: its set was empty
  pub add_flow : (e : Entry) → So (every (λ f. ltb f.key e.key) d.flows) → e.key < row_limit
      → (encode (add d (flow e)) ≡ patch (flow_at e.key) (flags_of e.members) (encode d)) × (take member_limit (drop (flow_at e.key) (encode d)) ≡ replicate member_limit 0)
  unfolding encode add
  add_flow e h l =
      let f = sets_filled d.flows e h l in
      let pre = padded rows_size (collect row_bytes d.rows) in
      let post = sets_bytes d.comms ++ counting row_limit 0 (claim_code d.claims) in
      let n : length pre ≡ rows_size = rows_part_lem d fit in
      (rw n at (sym (swapped_patch pre post f)), rw (n, flags_length e.members) at (swapped_old pre post f))

  -- other flow lines that differ in the set of one name at most
  pub other_flow : (fs : List Entry) (n : ℕ) → n < row_limit → ((k : ℕ) → k ≢ n → members_at fs k ≡ members_at d.flows k)
      → encode (with_tables d fs d.comms) ≡ patch (flow_at n) (flags_of (members_at fs n)) (encode d)
  unfolding encode
  other_flow fs n l others =
      let pre = padded rows_size (collect row_bytes d.rows) in
      let post = sets_bytes d.comms ++ counting row_limit 0 (claim_code d.claims) in
      rw (rows_part_lem d fit) at (sym (swapped_patch pre post (sets_swapped d.flows fs n l others)))

  pub add_comm : (e : Entry) → So (every (λ f. ltb f.key e.key) d.comms) → e.key < row_limit
      → (encode (add d (comm e)) ≡ patch (comm_at e.key) (flags_of e.members) (encode d)) × (take member_limit (drop (comm_at e.key) (encode d)) ≡ replicate member_limit 0)
  unfolding encode add
  add_comm e h l =
      let f = sets_filled d.comms e h l in
      let rows = padded rows_size (collect row_bytes d.rows) in
      let flows = sets_bytes d.flows in
      let post = counting row_limit 0 (claim_code d.claims) in
      let n : length (rows ++ flows) ≡ comms_start = length-append rows flows ∙ rw (rows_part_lem d fit, sets_bytes-length d.flows) in (
        rw (n, append_assoc rows flows (sets_bytes d.comms ++ post), append_assoc rows flows (sets_bytes (d.comms ++ (e ∷ [])) ++ post)) at (sym (swapped_patch (rows ++ flows) post f)),
        rw (n, flags_length e.members, append_assoc rows flows (sets_bytes d.comms ++ post)) at (swapped_old (rows ++ flows) post f),
      )

  pub add_claim : (c : Claim) → So (every (λ k. ltb k.channel c.channel) d.claims) → c.channel < row_limit
      → encode (add d (claim c)) ≡ patch (claim_at c.channel) (word_code c.word ∷ []) (encode d)
  unfolding encode add
  add_claim c h l =
      let f = claims_filled d.claims c h l in
      let rows = padded rows_size (collect row_bytes d.rows) in
      let flows = sets_bytes d.flows in
      let comms = sets_bytes d.comms in
      let n : length (rows ++ (flows ++ comms)) ≡ claims_start = length-append rows (flows ++ comms)
      ∙ rw (length-append flows comms, rows_part_lem d fit, sets_bytes-length d.flows, sets_bytes-length d.comms) in
      let old : rows ++ (flows ++ comms) ++ (counting row_limit 0 (claim_code d.claims) ++ []) ≡ rows ++ (flows ++ (comms ++ counting row_limit 0 (claim_code d.claims))) =
      rw (
        append-nil (counting row_limit 0 (claim_code d.claims)),
        append_assoc rows (flows ++ comms) (counting row_limit 0 (claim_code d.claims)),
        append_assoc flows comms (counting row_limit 0 (claim_code d.claims)),
      ) in
      let new : rows ++ (flows ++ comms) ++ (counting row_limit 0 (claim_code (d.claims ++ (c ∷ []))) ++ []) ≡ rows ++ (flows ++ (comms ++ counting row_limit 0 (claim_code (d.claims ++ (c ∷ []))))) =
      rw (
        append-nil (counting row_limit 0 (claim_code (d.claims ++ (c ∷ [])))),
        append_assoc rows (flows ++ comms) (counting row_limit 0 (claim_code (d.claims ++ (c ∷ [])))),
        append_assoc flows comms (counting row_limit 0 (claim_code (d.claims ++ (c ∷ [])))),
      ) in
      sym (ap (λ (k : ℕ). patch (k + c.channel) (word_code c.word ∷ []) (rows ++ (flows ++ (comms ++ counting row_limit 0 (claim_code d.claims))))) (sym n)
      ∙ ap (patch (length (rows ++ (flows ++ comms)) + c.channel) (word_code c.word ∷ [])) (sym old) ∙ swapped_patch (rows ++ (flows ++ comms)) [] f ∙ new)

-- ---- nothing read: every byte is 0

zeros : (g : ℕ → Bytes) (n i : ℕ) → ((k : ℕ) → g k ≡ replicate member_limit 0) → chunks g n i ≡ replicate (n * member_limit) 0
unfolding chunks collect counting
zeros g zero i e = refl
zeros g (suc n) i e =
    let q : suc n * member_limit ≡ member_limit + n * member_limit = omega arith in
    ap (λ (l : Bytes). g i ++ l) (zeros g n (suc i) e) ∙ ap (λ (l : Bytes). l ++ replicate (n * member_limit) 0) (e i) ∙ replicate-append-replicate member_limit (n * member_limit) 0
    ∙ ap (λ (k : ℕ). replicate k 0) (sym q)

no_flags : (n : ℕ) → flags_of (members_at [] n) ≡ replicate member_limit 0
unfolding flags_of members_at
no_flags n = flags_none member_limit 0

no_sets : sets_bytes [] ≡ replicate sets_size 0
unfolding sets_bytes chunks
no_sets = zeros (λ n. flags_of (members_at [] n)) row_limit 0 no_flags

claims_none : (n i : ℕ) → counting n i (claim_code []) ≡ replicate n 0
unfolding counting claim_code
claims_none zero i = refl
claims_none (suc n) i = ap (λ (l : Bytes). 0 ∷ l) (claims_none n (suc i))

-- of any length: at the sizes of the store the prover would write the zeros out
padded_none : (n : ℕ) → padded n [] ≡ replicate n 0
unfolding padded
padded_none n =
    let e : n - 0 ≡ n = omega arith in
    ap (λ (k : ℕ). replicate k 0) e

zeros_joined : (a b c d n : ℕ) (p q r s : Bytes) → a + (b + (c + d)) ≡ n → p ≡ replicate a 0 → q ≡ replicate b 0 → r ≡ replicate c 0 → s ≡ replicate d 0
    → p ++ (q ++ (r ++ s)) ≡ replicate n 0
zeros_joined a b c d n p q r s e first second third fourth =
    rw (first, second, third, fourth)
    (ap (λ (l : Bytes). replicate a 0 ++ (replicate b 0 ++ l)) (replicate-append-replicate c d 0) ∙ ap (λ (l : Bytes). replicate a 0 ++ l) (replicate-append-replicate b (c + d) 0)
    ∙ replicate-append-replicate a (b + (c + d)) 0 ∙ ap (λ (k : ℕ). replicate k 0) e)

no_rows : padded rows_size (collect row_bytes []) ≡ replicate rows_size 0
unfolding collect
no_rows = padded_none rows_size

pub encode_none : encode no_lines ≡ replicate store_size 0
unfolding encode no_lines
encode_none = zeros_joined rows_size sets_size sets_size row_limit store_size _ _ _ _ refl no_rows no_sets no_sets (claims_none row_limit 0)
