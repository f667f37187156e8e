-- How large the lines and values of an answer can be, whatever the file and the store.
use Prim.Native.Nat.{ℕ, zero, suc, ◌+◌, ◌≤◌, ◌<◌}
use native.Mathlib.Omega.{arith}
use mathlib.Core.Bool.{Bool, true, false, not, So}
use mathlib.Core.List.{List, [], ◌∷◌, map}
use Rattle.std.specs.Prelude.{Option, None as none, Some as some}
use mathlib.Core.Path.{◌≡◌, refl, subst}
use lib.ListN.{length, take, drop, length-take, length-drop}
use lib.Dec.{ltb, eqb}
use borrow.Author.Tests.{ltb-true, ltb-false}
use Rattle.program.specs.Test.{pick, least}
use Rattle.program.specs.Maybe.{◌>>=◌}
use Rattle.program.specs.Program.{chan_row}
use Rattle.program.specs.Flow.{keeps_at}
use Rattle.program.proofs.Test.{Least, none_passes, smallest, least_is, and_left}
use Rattle.program.proofs.Maybe.{Found, nothing, found, found_either, found_bind, found_map}
use Rattle.program.specs.Each.{Each, nil, ◌&◌}
use Rattle.format.specs.declared.Reason.{Reason}
use Rattle.format.specs.declared.Reason.TheVariants.{NotALine, OutOfCount, WrongPointer, BoundTwice, OutOfScope, NotAllowed, StoreTooShort, StoreEmpty, StoreUnsound, FlowRuleFails}
use Rattle.format.specs.declared.Refusal.{Refusal}
use Rattle.format.specs.Limits.{row_limit, byte_limit}
use Rattle.format.specs.Text.{Bytes, expect}
use Rattle.format.specs.Print.{header}
use Rattle.format.specs.Document.{Entry, Document, Line}
use Rattle.format.specs.Refusals.{refusal, Result, refused, accepted}
use Rattle.format.specs.Read.{present, read_line, line_fault, add, no_lines, read_lines, read_file}
use Rattle.format.specs.Structure.{row_line, pointer_fault, binder_fault, scope_line, flow_allowed, comm_allowed, claim_allowed, first_failing, flow_line, comm_line, claim_line, not_allowed, structure_fault}
use Rattle.format.specs.Scope.{scope_fault}
use Rattle.format.specs.WellFormed.{orderly, well_formed}
use Rattle.format.specs.Check.{check_structure, check_any, check}
use Rattle.format.proofs.Files.{print_read, check_iff}
pub use Rattle.bounds.specs.LastLine.{last_line}
use Rattle.calls.specs.Answers.{Answer, turned_back, answered, refusal_answer, load_answer, judge_answer, yes_or_no, status_answer, verdict_answer}
use Rattle.calls.specs.Layout.{rows_size, member_limit, sets_size, store_size, encode, decode, members_from, with_entry, decode_sets, decode_claims}
use Rattle.calls.specs.Judging.{verdict_words, word_holds, reaches, flow_table, comm_table, failing_row, failing_claim, after10, judge_claims, judge_document, verdict_document}
use Rattle.calls.specs.Calls.{unsound, is_empty, opened_fixed, opened, counts, loaded, load, judge_answered, and_then, judge, verdict_of, verdict_given, verdict}
use Rattle.calls.proofs.Codec.{encode-length, decode-encode}
use Rattle.calls.proofs.Codec.Sparse.{either}
use Rattle.calls.proofs.Canonical.Rows.{count_rows-le, rows_count}

-- no line above the one, no value above the other
pub data Within (line value : ℕ) : Answer → Type 0 where
  line_within : {n l : ℕ} → l ≤ line → Within line value (turned_back n l)
  values_within : {vs : List ℕ} → Each (λ v. v ≤ value) vs → Within line value (answered vs)

-- ---- counts

-- each kind of line at most once for each row number
pub record Few (d : Document) : Type 0 where
  pub few_rows : length d.rows ≤ row_limit
  pub few_flows : length d.flows ≤ row_limit
  pub few_comms : length d.comms ≤ row_limit
  pub few_claims : length d.claims ≤ row_limit

entry_few : (n : ℕ) (ms : List ℕ) (es : List Entry) → length (with_entry n ms es) ≤ suc (length es)
unfolding with_entry
entry_few n [] es = omega arith
entry_few n (m ∷ ms) es = omega arith

-- each name or channel has one line at most
pub sets_few : (k n : ℕ) (bs : Bytes) → length (decode_sets k n bs) ≤ k
unfolding decode_sets
sets_few zero n bs = omega arith
sets_few (suc k) n bs =
    let more = decode_sets k (suc n) (drop member_limit bs) in
    omega (arith, entry_few n (members_from 0 (take member_limit bs)) more, sets_few k (suc n) (drop member_limit bs))

pub claims_few : (c : ℕ) (ks : Bytes) → length (decode_claims c ks) ≤ length ks
unfolding decode_claims
claims_few c [] = omega arith
claims_few c (k ∷ ks) =
    let more = claims_few (suc c) ks in
    either (eqb k 0) (λ e. rw (e, decode_claims) (omega arith)) (λ e. rw (e, decode_claims) (omega arith))

decoded_few : (s : Bytes) → length s ≤ store_size → Few (decode s)
unfolding decode
decoded_few s h =
    let sets = drop rows_size s in
    let more = drop sets_size sets in
    record {
      few_rows = omega (arith, rows_count row_limit s, count_rows-le row_limit s);
      few_flows = sets_few row_limit 0 sets;
      few_comms = sets_few row_limit 0 more;
      few_claims = omega (arith, claims_few 0 (drop sets_size more), length-drop sets_size more, length-drop sets_size sets, length-drop rows_size s);
    }

pub orderly_few : (d : Document) → So (orderly d) → Few d
orderly_few d ok = subst (λ (x : Document). Few x) (decode-encode d ok) (decoded_few (encode d) (omega (arith, encode-length d ok)))

-- ---- lines

-- the line of a refusal, 0 where there is none
abbrev line_of : {A : Type 0} → Result A → ℕ
line_of (refused r) = r.line
line_of (accepted a) = 0

-- each line read is one more
read_lines_lem : (k : ℕ) (s : Bytes) (at line : ℕ) (d : Document) → line_of (read_lines k s at line d) ≤ line + k
unfolding read_lines
read_lines_lem zero s at line d = omega arith
read_lines_lem (suc k) s at line d = go (eqb at (length s)) (present d.rows) (read_line s at) (λ x. read_lines_lem k s x.1 (line + 1) (add d x.0))
  where
    faulty : (x : Line × ℕ) (o : Option Reason) → line_of (read_lines k s x.1 (line + 1) (add d x.0)) ≤ line + 1 + k
        → line_of {A = Document} (elim o as (λ o. Result Document) [ some reason ↦ refused (refusal reason line) | none ↦ read_lines k s x.1 (line + 1) (add d x.0) ]) ≤ line + suc k
    faulty x none h = omega arith
    faulty x (some reason) h = omega arith

    go : (b rows : Bool) (o : Option (Line × ℕ)) → ((x : Line × ℕ) → line_of (read_lines k s x.1 (line + 1) (add d x.0)) ≤ line + 1 + k)
        → line_of {A = Document} (elim b as (λ b. Result Document) [
          | true ↦ pick rows (accepted d) (refused (refusal OutOfCount line))
          | false ↦ elim o [
            | none ↦ refused (refusal NotALine line)
            | some x ↦ elim (line_fault d x.0) [ some reason ↦ refused (refusal reason line) | none ↦ read_lines k s x.1 (line + 1) (add d x.0) ]
          ]
        ]) ≤ line + suc k
    go true true o h = omega arith
    go true false o h = omega arith
    go false rows none h = omega arith
    go false rows (some x) h = faulty x (line_fault d x.0) (h x)

read_file_lem : (s : Bytes) → line_of (read_file s) ≤ length s + 2
unfolding read_file
read_file_lem s = go (expect header s 0)
  where
    go : (o : Option ℕ) → line_of {A = Document} (elim o as (λ o. Result Document) [ some at ↦ read_lines (length s) s at 2 no_lines | none ↦ refused (refusal NotALine 1) ]) ≤ length s + 2
    go none = omega arith
    go (some at) = omega (arith, read_lines_lem (length s) s at 2 no_lines)

-- the smallest number that passes a test is below the bound
least_below : (n : ℕ) (f : ℕ → Bool) → Found (λ i. i < n) (least n f)
least_below n f = go (least n f) (least_is n f)
  where
    go : (o : Option ℕ) → Least n f o → Found (λ i. i < n) o
    go none (none_passes h) = nothing
    go (some i) (smallest l t h) = found l

-- the line of the first that fails is one of theirs
first_below : {A : Type 0} (ok : A → Bool) (line : ℕ) (xs : List A) → Found (λ l. l < line + length xs) (first_failing ok line xs)
unfolding first_failing
first_below ok line [] = nothing
first_below ok line (x ∷ xs) = go (ok x) (first_failing ok (line + 1) xs) (first_below ok (line + 1) xs)
  where
    go : (b : Bool) (o : Option ℕ) → Found (λ l. l < line + 1 + length xs) o → Found (λ l. l < line + length (x ∷ xs)) (elim b as (λ b. Option ℕ) [ true ↦ o | false ↦ some line ])
    go false o h = found {a = line} (omega arith)
    go true none nothing = nothing
    go true (some l) (found h) = found {a = l} (omega arith)

scope_below : (d : Document) → Found (λ r. r < length d.rows) (scope_line d.rows)
unfolding scope_line
scope_below d = either (ltb (scope_fault d.rows) (length d.rows)) (λ e. rw e (found (ltb-true _ _ e))) (λ e. rw e nothing)

abbrev Early : Refusal → Type 0
Early r = r.line ≤ last_line

module _ (d : Document) (few : Few d) where
  row_line_lem : {o : Option ℕ} (reason : Reason) → Found (λ r. r < length d.rows) o → Found Early (o >>= λ r. some (refusal reason (row_line r)))
  row_line_lem reason h = found_bind h (λ r l. let m = few.few_rows in found {a = refusal reason (row_line r)} (omega arith))

  line_early : (l : ℕ) → l < claim_line d + length d.claims → l ≤ last_line
  unfolding claim_line comm_line flow_line
  line_early l h = omega (arith, few.few_rows, few.few_flows, few.few_comms, few.few_claims)

  -- 6 to 9
  structure_line : Found Early (structure_fault d)
  unfolding structure_fault not_allowed
  structure_line =
      found_either (row_line_lem WrongPointer (least_below (length d.rows) (pointer_fault d.rows)))
      (found_either (row_line_lem BoundTwice (least_below (length d.rows) (binder_fault d.rows)))
      (found_either (row_line_lem OutOfScope (scope_below d))
      (found_bind is_not_allowed (λ line l. found {a = refusal NotAllowed line} l))))
    where
      weaken : {o : Option ℕ} (most : ℕ) → most ≤ claim_line d + length d.claims → Found (λ l. l < most) o → Found (λ l. l ≤ last_line) o
      weaken most h = found_map (λ l k. line_early l (omega arith))

      is_not_allowed : Found (λ l. l ≤ last_line) (not_allowed d)
      is_not_allowed =
          unfold not_allowed in
          found_either (weaken (flow_line d + length d.flows) (unfold claim_line comm_line in omega arith) (first_below (flow_allowed d.rows) (flow_line d) d.flows))
          (found_either (weaken (comm_line d + length d.comms) (unfold claim_line in omega arith) (first_below (comm_allowed d.rows) (comm_line d) d.comms))
          (weaken (claim_line d + length d.claims) (omega arith) (first_below (claim_allowed d.rows) (claim_line d) d.claims)))

  -- 10, and then what comes after it
  after_line : {A : Type 0} (rest : Result A) → line_of rest ≤ last_line → line_of (after10 d rest) ≤ last_line
  unfolding after10 failing_row
  after_line {A} rest h = go (failing_row d) (least_below (length d.rows) (λ r. not (keeps_at d.rows (flow_table d) (comm_table d) r)))
    where
      go : (o : Option ℕ) → Found (λ r. r < length d.rows) o → line_of {A = A} (elim o as (λ o. Result A) [ some r ↦ refused (refusal FlowRuleFails (row_line r)) | none ↦ rest ]) ≤ last_line
      go none nothing = h
      go (some r) (found l) = omega (arith, few.few_rows)

-- ---- load

check_line : (file : Bytes) → line_of (check file) ≤ byte_limit + 2
unfolding check
check_line file = either (ltb byte_limit (length file)) (λ e. rw (e, check) (omega arith)) (λ e. rw (e, check) (any (ltb-false byte_limit (length file) e)))
  where
    structured : (d : Document) (o : Option Refusal) → Found Early o → line_of {A = Document} (elim o as (λ o. Result Document) [ some r ↦ refused r | none ↦ accepted d ]) ≤ byte_limit + 2
    structured d none nothing = omega arith
    structured d (some r) (found h) = omega arith

    read : length file ≤ byte_limit → (x : Result Document) → read_file file ≡ x → line_of x ≤ length file + 2 → line_of (check_structure x) ≤ byte_limit + 2
    read short (refused r) e h = unfold check_structure in omega arith
    read short (accepted d) e h = unfold check_structure in structured d (structure_fault d) (structure_line d (orderly_few d (print_read file d e).1))

    any : length file ≤ byte_limit → line_of (check_any file) ≤ byte_limit + 2
    any short = unfold check_any in read short (read_file file) refl (read_file_lem file)

pub load_within : (file store : Bytes) → Within (byte_limit + 2) row_limit (load_answer (load file store).answer)
unfolding load loaded load_answer refusal_answer counts
load_within file store = either (ltb (length store) store_size) (λ e. rw (e, load) (line_within {l = 0} (omega arith))) (λ e. rw (e, load) (go (check file) refl (check_line file)))
  where
    go : (x : Result Document) → check file ≡ x → line_of x ≤ byte_limit + 2 → Within (byte_limit + 2) row_limit (load_answer (loaded store x).answer)
    go (refused r) e h = line_within h
    go (accepted d) e h =
        let few = orderly_few d (unfold well_formed in and_left (orderly d) _ ((check_iff file d).0 e).1) in
        values_within (few.few_rows & few.few_flows & few.few_comms & few.few_claims & nil)

-- ---- a store that opens

-- 20, 21 and 22 are at line 0; a store that opens gives the document of its bytes
pub data OpensTo (store : Bytes) : Result Document → Type 0 where
  not_opened : {reason : Reason} → OpensTo store (refused (refusal reason 0))
  decoded : {d : Document} → d ≡ decode (take store_size store) → OpensTo store (accepted d)

pub opens_to : (store : Bytes) → OpensTo store (opened store)
unfolding opened opened_fixed
opens_to store = go (ltb (length store) store_size) (is_empty (take store_size store)) (unsound (take store_size store))
  where
    go : (a b c : Bool) → OpensTo store (elim a [
      | true ↦ refused (refusal StoreTooShort 0)
      | false ↦ elim b [ true ↦ refused (refusal StoreEmpty 0) | false ↦ elim c [ true ↦ refused (refusal StoreUnsound 0) | false ↦ accepted (decode (take store_size store)) ] ]
    ])
    go true b c = not_opened
    go false true c = not_opened
    go false false true = not_opened
    go false false false = decoded refl

opened_few : (store : Bytes) (d : Document) → d ≡ decode (take store_size store) → Few d
opened_few store d e = rw e (decoded_few (take store_size store) (omega (arith, length-take store_size store)))

-- ---- judge

claims_line : (d : Document) → Few d → (reach : ℕ → ℕ → Bool) → line_of (judge_claims d (failing_claim d reach)) ≤ last_line
unfolding judge_claims failing_claim
claims_line d few reach = go (failing_claim d reach) (first_below (λ k. word_holds d reach k.channel k.word) (claim_line d) d.claims)
  where
    go : (o : Option ℕ) → Found (λ l. l < claim_line d + length d.claims) o → line_of (judge_claims d o) ≤ last_line
    go none nothing = omega arith
    go (some l) (found h) = line_early d few l h

-- what judge accepts is the count of claims
judged_count : (d : Document) → Few d → (n : ℕ) → judge_document d ≡ accepted n → n ≤ row_limit
unfolding judge_document after10
judged_count d few n e = go (failing_row d) (failing_claim d (reaches d)) e
  where
    go : (o p : Option ℕ) → ◌≡◌ {A = Result ℕ} (elim o [ some r ↦ refused (refusal FlowRuleFails (row_line r)) | none ↦ judge_claims d p ]) (accepted n) → n ≤ row_limit
    go (some r) p h = let z : ◌≡◌ {A = ℕ} 0 1 = cc in absurd (omega arith)
    go none (some l) h = let z : ◌≡◌ {A = ℕ} 0 1 = unfold judge_claims in cc in absurd (omega arith)
    go none none h = let q : length d.claims ≡ n = unfold judge_claims in cc in omega (arith, few.few_claims)

pub judge_within : (store : Bytes) → Within last_line row_limit (judge_answer (judge store))
unfolding judge judge_answered and_then judge_answer refusal_answer
judge_within store = go (opened store) (opens_to store)
  where
    judged : (x : Result ℕ) → line_of x ≤ last_line → ((n : ℕ) → x ≡ accepted n → n ≤ row_limit) → Within last_line row_limit (judge_answer (judge_answered x))
    judged (refused r) l h = line_within l
    judged (accepted n) l h = values_within (h n refl & nil)

    go : (x : Result Document) → OpensTo store x → Within last_line row_limit (judge_answer (judge_answered (and_then x judge_document)))
    go (refused r) not_opened = line_within {l = 0} (omega arith)
    go (accepted d) (decoded e) =
        let few = opened_few store d e in
        judged (judge_document d) (unfold judge_document in after_line d few _ (claims_line d few (reaches d))) (judged_count d few)

-- ---- verdict

-- a yes or no is 0 or 1
bit_within : (b : Bool) → yes_or_no b ≤ 1
unfolding yes_or_no
bit_within true = omega arith
bit_within false = omega arith

bits_within : (bs : List Bool) → Each (λ v. v ≤ 1) (map yes_or_no bs)
bits_within [] = nil
bits_within (b ∷ bs) = bit_within b & bits_within bs

-- the lines of a verdict are early, and it has every word, also where it is refused
record Worded (x : Result (List Bool)) : Type 0 where
  early : line_of x ≤ last_line
  whole : length (verdict_given x).words ≡ length verdict_words

after_worded : (d : Document) → Few d → (bs : List Bool) → length bs ≡ length verdict_words → Worded (after10 d (accepted bs))
unfolding after10 verdict_given
after_worded d few bs h = record { early = after_line d few (accepted bs) (omega arith); whole = go (failing_row d) }
  where
    go : (o : Option ℕ) → length (verdict_given (elim o as (λ o. Result (List Bool)) [ some r ↦ refused (refusal FlowRuleFails (row_line r)) | none ↦ accepted bs ])).words ≡ length verdict_words
    go (some r) = refl
    go none = h

verdict_worded : (store : Bytes) (c : ℕ) → Worded (and_then (opened store) (verdict_of c))
unfolding and_then verdict_of verdict_given verdict_document
verdict_worded store c = go (opened store) (opens_to store)
  where
    go : (x : Result Document) → OpensTo store x → Worded (and_then x (verdict_of c))
    go (refused r) not_opened = record { early = omega arith; whole = refl }
    go (accepted d) (decoded q) =
        either (chan_row d.rows c) (λ e. rw (e, verdict_of) (after_worded d (opened_few store d q) (map (word_holds d (reaches d) c) verdict_words) refl))
        (λ e. rw (e, verdict_of) (record { early = omega arith; whole = refl }))

pub verdict_within : (store : Bytes) (c : ℕ) → Within last_line 1 (verdict_answer (verdict store c))
unfolding verdict verdict_given verdict_answer status_answer refusal_answer
verdict_within store c = go (and_then (opened store) (verdict_of c)) (verdict_worded store c).early
  where
    go : (x : Result (List Bool)) → line_of x ≤ last_line → Within last_line 1 (verdict_answer (verdict_given x))
    go (refused r) h = line_within h
    go (accepted bs) h = values_within (bits_within bs)

pub every_word : (store : Bytes) (c : ℕ) → length (verdict store c).words ≡ length verdict_words
unfolding verdict
every_word store c = (verdict_worded store c).whole
