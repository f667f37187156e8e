-- A file that has been read into a store: its document is the store's, and what load leaves of it.
use Rattle.std.specs.Prelude.{Ok, Err}
use Prim.Native.Nat.{ℕ, ◌≤◌, ◌<◌}
use mathlib.Core.Bool.{So}
use mathlib.Core.List.{◌++◌}
use Rattle.std.specs.Prelude.{None as none, Some as some}
use mathlib.Core.Path.{◌≡◌, refl, sym, ap, ◌∙◌, subst}
use native.Mathlib.Omega.{arith}
use lib.ListN.{length, take, drop, replicate, length-replicate, length-append, take-append-drop}
use lib.Seq.{take_at, drop_at}
use borrow.Author.Tests.{lt-ltb, le-ltb}
use Rattle.format.specs.declared.Refusal.{Refusal}
use Rattle.format.specs.declared.Reason.TheVariants.{TooLong, StoreTooShort}
use Rattle.format.specs.Limits.{row_limit, byte_limit}
use Rattle.format.specs.Text.{Bytes}
use Rattle.format.specs.Refusals.{refusal, Result, refused, accepted}
use Rattle.format.specs.Document.{Document}
use Rattle.format.specs.WellFormed.{orderly}
use Rattle.format.specs.Read.{read_file, no_lines}
use Rattle.format.specs.Structure.{structure_fault}
use Rattle.format.specs.Check.{check_structure, check_any, check}
use Rattle.format.proofs.Files.{print_read}
use Rattle.calls.specs.Answers.{LoadAnswer}
use Rattle.calls.specs.Layout.{store_size, encode, decode}
use Rattle.calls.specs.Calls.{Leaves, counts, refilled, loaded, load}
use Rattle.calls.specs.Canonical.{count_rows}
use Rattle.calls.proofs.Codec.{decode-encode}
use Rattle.calls.proofs.Codec.Adding.{encode_none}
use Rattle.calls.proofs.Codec.Sparse.{counting-length}
use Rattle.calls.proofs.Canonical.{rows_decoded}
use Rattle.store.specs.Document.{store_document}
use Rattle.store.proofs.Document.{head_is}
use Rattle.progress.specs.declared.Progress.{Progress}
use Rattle.progress.specs.Progress.{Matches}
use Rattle.load_line.specs.Line.{Stored, Past}
use Rattle.load_lines.specs.File.{FileAnswer, FileIs}
use Rattle.load_file.specs.Finish.{Finishes}

-- ---- the document of a store that holds one

module _ (s : Bytes) (d : Document) (ok : So (orderly d)) (held : Stored s d) where
  decoded : decode (take store_size s) ≡ d
  decoded = ap decode held ∙ decode-encode d ok

  count_is : length d.rows ≡ count_rows row_limit (take store_size s)
  count_is = ap (λ (x : Document). length x.rows) (sym decoded) ∙ ap length (rows_decoded (take store_size s)) ∙ counting-length (count_rows row_limit (take store_size s)) 0 _

  -- the document of the first rows of the store is the one that it holds
  pub store_document_lem : (n : ℕ) → n ≤ row_limit → n ≡ length d.rows → store_document n s ≡ d
  store_document_lem n h e = head_is n s (e ∙ count_is) ∙ decoded

-- ---- zeros at the head of bytes, of any number: of the store's the prover would write them out

module _ (n : ℕ) (rest : Bytes) where
  zeros_long : n ≤ length (replicate n 0 ++ rest)
  zeros_long = rw (length-append (replicate n 0) rest, length-replicate {A = ℕ} n 0) (omega arith)

  zeros_taken : take n (replicate n 0 ++ rest) ≡ replicate n 0
  zeros_taken = take_at (replicate n 0) rest n (length-replicate {A = ℕ} n 0)

  zeros_dropped : drop n (replicate n 0 ++ rest) ≡ rest
  zeros_dropped = drop_at (replicate n 0) rest n (length-replicate {A = ℕ} n 0)

-- ---- what load leaves

-- of the lent bytes, only those past the fixed size count
refilled_same : (s t fixed : Bytes) → drop store_size s ≡ drop store_size t → refilled s fixed ≡ refilled t fixed
unfolding refilled
refilled_same s t fixed e = ap (λ (rest : Bytes). fixed ++ rest) e

same_past : (s t : Bytes) (x : Result Document) → drop store_size s ≡ drop store_size t → loaded s x ≡ loaded t x
unfolding loaded
same_past s t (refused r) e = ap (λ (left : Bytes). record { answer = Err r; bytes = left }) (refilled_same s t (replicate store_size 0) e)
same_past s t (accepted d) e = ap (λ (left : Bytes). record { answer = Ok (counts d); bytes = left }) (refilled_same s t (encode d) e)

pub too_short : (file store : Bytes) → length store < store_size → Leaves (load file store) (Err (refusal StoreTooShort 0)) store
unfolding load
too_short file store l = rw (lt-ltb (length store) store_size l, load) (record { answer_is = refl; bytes_are = refl })

pub long_enough : (file store : Bytes) {a : LoadAnswer} {left : Bytes} → store_size ≤ length store → Leaves (loaded store (check file)) a left → Leaves (load file store) a left
unfolding load
long_enough file store l h = rw (le-ltb (length store) store_size l, load) h

pub emptied : (store : Bytes) (r : Refusal) → Leaves (loaded store (refused r)) (Err r) (replicate store_size 0 ++ drop store_size store)
unfolding loaded refilled
emptied store r = record { answer_is = refl; bytes_are = refl }

pub too_long : (file store : Bytes) {a : LoadAnswer} {left : Bytes} → byte_limit < length file
    → Leaves (loaded store (refused (refusal TooLong 0))) a left → Leaves (loaded store (check file)) a left
unfolding check
too_long file store l h = rw (lt-ltb byte_limit (length file) l, check) h

pub no_lines_stored : (store : Bytes) {left : Bytes} → left ≡ replicate store_size 0 ++ drop store_size store → Stored left no_lines
no_lines_stored store e = ap (take store_size) e ∙ zeros_taken store_size (drop store_size store) ∙ sym encode_none

-- ---- refusals 6 to 9 of a store that holds a document

pub finish_refused : (p : Progress) (s : Bytes) (r : Refusal) {a : LoadAnswer} {left : Bytes} → p.rows ≤ row_limit → some r ≡ structure_fault (store_document p.rows s)
    → Leaves (loaded s (refused r)) a left → Finishes p s a left
unfolding check_structure
finish_refused p s r small e h =
    record {
      finishes = λ d ok held m.
          let q : structure_fault d ≡ some r = ap structure_fault (sym (store_document_lem s d ok held p.rows small (sym m.rows_are))) ∙ sym e in
          rw (q, check_structure) h;
    }

pub finish_sound : (p : Progress) (s : Bytes) → p.rows ≤ row_limit → none ≡ structure_fault (store_document p.rows s)
    → Finishes p s (Ok (record { rows = p.rows; flows = p.flows; comms = p.comms; claims = p.claims })) s
unfolding check_structure loaded refilled counts
finish_sound p s small e =
    record {
      finishes = λ d ok held m.
          let q : structure_fault d ≡ none = ap structure_fault (sym (store_document_lem s d ok held p.rows small (sym m.rows_are))) ∙ sym e in
          rw (q, check_structure) (record {
            answer_is = rw (m.rows_are, m.flows_are, m.comms_are, m.claims_are) refl;
            bytes_are = sym (ap (λ (x : Bytes). x ++ drop store_size s) (sym held) ∙ take-append-drop store_size s);
          });
    }

-- ---- a whole file

-- what reading the lines leaves to do
module _ (file store : Bytes) (left : Bytes) (short : length file ≤ byte_limit) where
  abbrev cleared : Bytes
  cleared = replicate store_size 0 ++ drop store_size store

  check_is : check file ≡ check_structure (read_file file)
  unfolding check check_any
  check_is = rw (le-ltb byte_limit (length file) short, check)

  past_same : Past cleared left → drop store_size left ≡ drop store_size store
  past_same h = h.rest_stays ∙ zeros_dropped store_size (drop store_size store)

  pub lines_refused : (r : Refusal) {a : LoadAnswer} {next : Bytes} → FileIs (read_file file) cleared (Err r) left → Leaves (loaded left (refused r)) a next
      → Leaves (loaded store (check file)) a next
  unfolding check_structure
  lines_refused r {a} {next} h l = go (read_file file) refl h.answers
    where
      go : (x : Result Document) → read_file file ≡ x → FileAnswer x (Err r) left → Leaves (loaded store (check file)) a next
      go (refused q) e k =
          let same : r ≡ q = cc in
          rw (check_is, e, ← same, ← same_past left store (refused r) (past_same h.past)) l
      go (accepted d) e k = let w = k.answer_is in let z : ◌≡◌ {A = ℕ} 0 1 = cc in absurd (omega arith)

  pub lines_accepted : (p : Progress) {a : LoadAnswer} {next : Bytes} → FileIs (read_file file) cleared (Ok p) left → Finishes p left a next
      → Leaves (loaded store (check file)) a next
  unfolding check_structure
  lines_accepted p {a} {next} h l = go (read_file file) refl h.answers
    where
      go : (x : Result Document) → read_file file ≡ x → FileAnswer x (Ok p) left → Leaves (loaded store (check file)) a next
      go (refused q) e k = let z : ◌≡◌ {A = ℕ} 0 1 = cc in absurd (omega arith)
      go (accepted d) e k =
          let w = k.answer_is in
          let same : p ≡ k.progress = cc in
          rw (check_is, e, ← same_past left store (check_structure (accepted d)) (past_same h.past))
          (l.finishes d (print_read file d e).1 k.stored (subst (λ (q : Progress). Matches d q) (sym same) k.matches))

-- the rows of a file that has been read are within the limit
pub rows_small : (x : Result Document) (p : Progress) {store left : Bytes} → FileIs x store (Ok p) left → p.rows ≤ row_limit
rows_small x p {store} {left} h = go x h.answers
  where
    go : (y : Result Document) → FileAnswer y (Ok p) left → p.rows ≤ row_limit
    go (refused r) k = let z : ◌≡◌ {A = ℕ} 0 1 = cc in absurd (omega arith)
    go (accepted d) k =
        let w = k.answer_is in
        let same : p ≡ k.progress = cc in
        subst (λ (q : Progress). q.rows ≤ row_limit) (sym same) (subst (λ (n : ℕ). n ≤ row_limit) k.matches.rows_are k.matches.rows_fit)

pub cleared_long : (store : Bytes) {left : Bytes} → left ≡ replicate store_size 0 ++ drop store_size store → store_size ≤ length left
cleared_long store e = subst (λ (l : Bytes). store_size ≤ length l) (sym e) (zeros_long store_size (drop store_size store))
