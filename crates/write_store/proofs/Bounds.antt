-- Crude bounds on the lengths of texts: the text of a store's document is far shorter than 2 ^ 64 bytes.
use Prim.Native.Nat.{ℕ, zero, suc, ◌+◌, ◌*◌, ◌≤◌}
use mathlib.Core.List.{List, [], ◌∷◌}
use native.Mathlib.Omega.{arith}
use lib.ListN.{length, take, drop, length-append, length-take, length-drop}
use lib.Dec.{eqb}
use Rattle.program.specs.declared.Row.{Row}
use Rattle.program.specs.declared.Form.{Form}
use Rattle.program.specs.declared.Form.TheVariants.{Chan, Send, Recv, Pair, Left, Right, Fun, Spawn, Sync, First, Second, Case, Apply}
use Rattle.program.specs.declared.Word.{Word}
use Rattle.program.specs.declared.Word.TheVariants.{OneShot, OneToOne, FanOut, FanIn, Many, OneSync}
use Rattle.program.specs.Each.{collect}
use Rattle.program.specs.Program.{Program}
use Rattle.format.specs.Limits.{row_limit}
use Rattle.format.specs.Text.{Bytes, ascii}
use Rattle.format.specs.Document.{Claim, Document, row, claim}
use Rattle.format.specs.Print.{form_word, form_numbers, form_text, row_text, member_text, members_text, set_text, word_text, line_text, row_lines, header, document_text}
use Rattle.format.proofs.Lengths.{digits-length, argument-length, arguments-length}
use Rattle.calls.specs.Layout.{member_limit, rows_size, members_from, with_entry, decode_sets, word_of, decode_claims, comms_start, claims_start}
use Rattle.calls.proofs.Codec.Sparse.{either}
use Rattle.store.proofs.Laws.{program_length}
use Rattle.store.specs.Document.{store_document}
use Rattle.write_sets.specs.Texts.{entry_text}
use Rattle.write_sets.proofs.Parts.{with_entry_lem}
use Rattle.write_claims.proofs.Claims.{claims_text}
use Rattle.write_store.proofs.Parts.{document_parts}

-- ---- rows

pub form_parts : (f : Form) → (length (ascii (form_word f)) ≤ 7) × (length (form_numbers f) ≤ 5)
unfolding ascii form_word form_numbers
form_parts Form.Unit = (omega arith, omega arith)
form_parts Chan = (omega arith, omega arith)
form_parts (Send c m) = (omega arith, omega arith)
form_parts (Recv c) = (omega arith, omega arith)
form_parts (Pair a b) = (omega arith, omega arith)
form_parts (Left a) = (omega arith, omega arith)
form_parts (Right a) = (omega arith, omega arith)
form_parts (Fun f x t) = (omega arith, omega arith)
form_parts (Spawn t) = (omega arith, omega arith)
form_parts (Sync e) = (omega arith, omega arith)
form_parts (First a) = (omega arith, omega arith)
form_parts (Second a) = (omega arith, omega arith)
form_parts (Case s l t r w) = (omega arith, omega arith)
form_parts (Apply f a) = (omega arith, omega arith)

pub row_length : (x : Row) → length (row_text x) ≤ 80
unfolding row_text form_text ascii
row_length (Row.Result n) = simp length-append (omega (arith, argument-length n))
row_length (Row.Bind b) =
    simp length-append
    (omega (arith, argument-length b.name, (form_parts b.form).0, (form_parts b.form).1, arguments-length (form_numbers b.form), argument-length b.rest))

row_line_length : (r : ℕ) (x : Row) → length (line_text (row r x)) ≤ 100
unfolding line_text ascii
row_line_length r x = simp length-append (omega (arith, argument-length r, row_length x))

pub rows_length : (r : ℕ) (xs : Program) → length (collect line_text (row_lines r xs)) ≤ 100 * length xs
unfolding collect row_lines
rows_length r [] = omega arith
rows_length r (x ∷ xs) = simp length-append (omega (arith, row_line_length r x, rows_length (suc r) xs))

-- ---- sets

member_length : (m : ℕ) → length (member_text m) ≤ 5
unfolding member_text ascii
member_length zero = omega arith
member_length (suc r) = digits-length r

pub members_length : (ms : List ℕ) → length (members_text ms) ≤ 6 * length ms + 1
unfolding members_text ascii
members_length [] = omega arith
members_length (m ∷ ms) = simp length-append (omega (arith, member_length m, members_length ms))

set_length : (ms : List ℕ) → length (set_text ms) ≤ 6 * length ms + 2
unfolding set_text ascii
set_length [] = omega arith
set_length (m ∷ ms) = simp length-append (omega (arith, member_length m, members_length ms))

pub members_from-length : (m : ℕ) (bs : Bytes) → length (members_from m bs) ≤ length bs
unfolding members_from
members_from-length m [] = omega arith
members_from-length m (b ∷ bs) =
    let more = members_from-length (suc m) bs in
    either (eqb b 0) (λ e. rw (e, members_from) (omega arith)) (λ e. rw (e, members_from) (omega arith))

module _ (word : Bytes) (short : length word ≤ 10) where
  entry_length : (n : ℕ) (ms : List ℕ) → length ms ≤ member_limit → length (collect (entry_text word) (with_entry n ms [])) ≤ 1000
  unfolding collect with_entry entry_text ascii
  entry_length n [] h = omega arith
  entry_length n (m ∷ ms) h = simp length-append (omega (arith, argument-length n, set_length (m ∷ ms)))

  pub sets_length : (k n : ℕ) (bs : Bytes) → length (collect (entry_text word) (decode_sets k n bs)) ≤ 1000 * k
  unfolding collect decode_sets
  sets_length zero n bs = omega arith
  sets_length (suc k) n bs =
      let ms = members_from 0 (take member_limit bs) in
      let few : length ms ≤ member_limit = omega (arith, members_from-length 0 (take member_limit bs), length-take member_limit bs) in
      rw (with_entry_lem (entry_text word) n ms (decode_sets k (suc n) (drop member_limit bs)), length-append)
      (omega (arith, entry_length n ms few, sets_length k (suc n) (drop member_limit bs)))

-- ---- claims

pub word_length : (w : Word) → length (ascii (word_text w)) ≤ 10
unfolding ascii word_text
word_length OneShot = omega arith
word_length OneToOne = omega arith
word_length FanOut = omega arith
word_length FanIn = omega arith
word_length Many = omega arith
word_length OneSync = omega arith

claim_length : (k : Claim) → length (line_text (claim k)) ≤ 40
unfolding line_text ascii
claim_length k = simp length-append (omega (arith, argument-length k.channel, word_length k.word))

pub claims_length : (c : ℕ) (bs : Bytes) → length (claims_text (decode_claims c bs)) ≤ 40 * length bs
unfolding collect decode_claims
claims_length c [] = omega arith
claims_length c (b ∷ bs) =
    let more = claims_length (suc c) bs in
    let k : Claim = record { channel = c; word = word_of b } in
    either (eqb b 0) (λ e. rw (e, decode_claims) (omega arith))
    (λ e. rw (e, decode_claims) (simp length-append (omega (arith, claim_length k))))

-- ---- a document

module _ (d : Document) (k c : ℕ) where
  document_length : length (collect (entry_text (ascii "[flow")) d.flows) ≤ 1000 * k → length (collect (entry_text (ascii "[comm")) d.comms) ≤ 1000 * k
      → length (claims_text d.claims) ≤ 40 * c → length (document_text d) ≤ 100 * length d.rows + 2000 * k + 40 * c + 14
  unfolding header ascii
  document_length f g h = rw (document_parts d) (simp length-append (omega (arith, rows_length 0 d.rows)))

shorter : (a : ℕ) (s : Bytes) → length (take row_limit (drop a s)) ≤ length s
shorter a s = simp (length-take, length-drop) (omega arith)

module _ (n : ℕ) (s : Bytes) where
  pub stored_bound : length (document_text (store_document n s)) ≤ 100 * n + 2000 * row_limit + 40 * length s + 14
  unfolding store_document ascii
  stored_bound =
      let codes = take row_limit (drop claims_start s) in
      let all =
      document_length (store_document n s) row_limit (length codes) (sets_length (ascii "[flow") (omega arith) row_limit 0 (drop rows_size s))
      (sets_length (ascii "[comm") (omega arith) row_limit 0 (drop comms_start s))
      (claims_length 0 codes) in
      omega (arith, all, program_length n s, shorter claims_start s)
