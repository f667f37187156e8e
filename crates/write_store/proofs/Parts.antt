-- A document's text in parts.
use Prim.Native.Nat.{ℕ, ◌-◌}
use mathlib.Core.List.{List, [], ◌∷◌, ◌++◌, map}
use mathlib.Core.Path.{◌≡◌, refl, ◌∙◌}
use native.Mathlib.Omega.{arith}
use lib.ListN.{length, drop, take, length-drop}
use lib.Seq.{take_all}
use Rattle.program.specs.Each.{collect}
use Rattle.program.proofs.Each.{collect-append}
use Rattle.format.specs.Limits.{row_limit}
use Rattle.format.specs.Text.{Bytes, ascii}
use Rattle.format.specs.Document.{Entry, Document, Line, flow, comm, claim}
use Rattle.format.specs.Print.{line_text, row_lines, lines_of, header, document_text}
use Rattle.calls.specs.Layout.{rows_size, decode_sets, decode_claims, comms_start, claims_start, store_size}
use Rattle.store.specs.Rows.{store_program}
use Rattle.store.specs.Document.{store_document}
use Rattle.write_sets.specs.Texts.{entry_text}
use Rattle.write_sets.specs.Keys.{Keyed}
use Rattle.write_claims.proofs.Claims.{claims_text}

-- ---- a document

entries : (word : Bytes) (g : Entry → Line) → ((e : Entry) → line_text (g e) ≡ entry_text word e) → (es : List Entry) → collect line_text (map g es) ≡ collect (entry_text word) es
unfolding collect
entries word g h [] = refl
entries word g h (e ∷ es) = rw (h e, entries word g h es)

flows : (es : List Entry) → collect line_text (map flow es) ≡ collect (entry_text (ascii "[flow")) es
unfolding line_text entry_text
flows es = entries (ascii "[flow") flow (λ e. refl) es

comms : (es : List Entry) → collect line_text (map comm es) ≡ collect (entry_text (ascii "[comm")) es
unfolding line_text entry_text
comms es = entries (ascii "[comm") comm (λ e. refl) es

pub document_parts : (d : Document) → document_text d
    ≡ header
    ++ (collect line_text (row_lines 0 d.rows)
    ++ (collect (entry_text (ascii "[flow")) d.flows ++ (collect (entry_text (ascii "[comm")) d.comms ++ claims_text d.claims)))
unfolding document_text lines_of
document_parts d =
    rw (
      collect-append line_text (row_lines 0 d.rows) (map flow d.flows ++ (map comm d.comms ++ map claim d.claims)),
      collect-append line_text (map flow d.flows) (map comm d.comms ++ map claim d.claims),
      collect-append line_text (map comm d.comms) (map claim d.claims),
      flows d.flows,
      comms d.comms,
    )

-- the bytes from a on, as the code cuts them out
abbrev pub behind : ℕ → Bytes → Bytes
behind a s = take (length s - a) (drop a s)

behind_is : (a : ℕ) (s : Bytes) → behind a s ≡ drop a s
behind_is a s = take_all (length s - a) (drop a s) (simp length-drop (omega arith))

pub behind-length : (a : ℕ) (s : Bytes) → length (behind a s) ≡ length s - a
behind-length a s = rw (behind_is a s) (length-drop a s)

-- marks of its sets
pub behind_keyed : (a : ℕ) (s keys : Bytes) → Keyed keys (drop a s) → Keyed keys (behind a s)
behind_keyed a s keys k = rw (behind_is a s) k

-- the text of a store's document, by the parts of the store
abbrev pub parts_text : ℕ → Bytes → Bytes
parts_text n s =
    header
    ++ (collect line_text (row_lines 0 (store_program n s))
    ++ (collect (entry_text (ascii "[flow")) (decode_sets row_limit 0 (behind rows_size s))
    ++ (collect (entry_text (ascii "[comm")) (decode_sets row_limit 0 (behind comms_start s)) ++ claims_text (decode_claims 0 (behind claims_start s)))))

pub stored_parts : (n : ℕ) (s : Bytes) → length s ≡ store_size → document_text (store_document n s) ≡ parts_text n s
unfolding store_document
stored_parts n s size =
    let codes : take row_limit (drop claims_start s) ≡ drop claims_start s = take_all row_limit (drop claims_start s) (simp length-drop (omega arith)) in
    document_parts (store_document n s) ∙ rw (behind_is rows_size s, behind_is comms_start s, behind_is claims_start s, codes)
