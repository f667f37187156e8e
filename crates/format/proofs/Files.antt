-- Reading and printing are inverse: load takes exactly the texts of well-formed documents.
use Prim.Native.Nat.{ℕ, zero, suc, ◌+◌, ◌<◌, ◌≤◌}
use mathlib.Core.Bool.{Bool, true, false, ◌&&◌, So, false≢true}
use mathlib.Core.List.{List, [], ◌∷◌, ◌++◌, map, append_assoc, append-nil}
use Rattle.std.specs.Prelude.{Option, None as none, Some as some}
use mathlib.Core.Path.{◌≡◌, refl, sym, ap, ◌∙◌, subst}
use mathlib.Core.Logic.{◌↔◌}
use native.Mathlib.Omega.{arith}
use native.Mathlib.Nat.{add-zero, zero-add}
use lib.ListN.{length, length-append}
use lib.Seq.{drop-length}
use lib.Dec.{ltb, eqb}
use borrow.Author.Tests.{eqb-true, eq-eqb, ne_eqb, ltb-true, ltb-false, le-ltb, not-false, not-true}
use Rattle.program.specs.declared.Row.{Row}
use Rattle.program.specs.Test.{pick}
use Rattle.program.specs.Each.{every, collect, Each, nil, ◌&◌}
use Rattle.program.proofs.Each.{each_imp, each_both, each_append, each_map, each_all, every_elim}
use Rattle.program.proofs.Maybe.{Found, nothing, found, found_at}
use Rattle.program.proofs.Test.{and_left, and_right, and_intro}
use Rattle.format.specs.declared.Reason.{Reason}
use Rattle.format.specs.declared.Reason.TheVariants.{NotALine, OutOfCount, TooLong}
use Rattle.format.specs.declared.Refusal.{Refusal}
use Rattle.format.specs.Limits.{row_limit, byte_limit}
use Rattle.format.specs.Refusals.{refusal, Result, refused, accepted}
use Rattle.format.specs.Text.{Bytes, ascii, expect}
use Rattle.format.specs.Document.{Entry, Document, Line, row, flow, comm, claim}
use Rattle.format.specs.Print.{line_text, row_lines, lines_of, header, document_text}
use Rattle.format.specs.Read.{present, rising, row_numbers, set_rows, line_numbers, above_limit, line_fault, add, no_lines, read_line, read_lines, read_file}
use Rattle.format.specs.Structure.{structure_fault}
use Rattle.format.specs.WellFormed.{entries_rise, orderly, well_formed}
use Rattle.format.specs.Check.{check_structure, check_any, check}
use Rattle.format.proofs.Stands.{Stands, stands_nil, stands_append, stands_left, stands_right, stands_end, stands_within, expect_found, expect_stands}
use Rattle.format.proofs.Sets.{RowMember}
use Rattle.format.proofs.Lines.{SetReadable, Readable, line_found, line_stands}
use Rattle.format.proofs.Rising.{every_head, every_tail}
use Rattle.format.proofs.Order.{faultless_iff, Partly, orderly_iff, lines_add, add_partly, Leads, end, step, document_leads}

-- ---- the lines of an orderly document can be read

numbers_below : (l : Line) → above_limit l ≡ false → Each (λ n. n < row_limit) (line_numbers l)
unfolding above_limit
numbers_below l e = each_imp (λ n h. ltb-true n row_limit h) (every_elim _ (line_numbers l) (not-false _ e))

rows_readable : (m : ℕ) (ms : List ℕ) → So (every (ltb m) ms) → Each (λ n. n < row_limit) (set_rows ms) → Each RowMember ms
unfolding set_rows
rows_readable m [] h k = nil
rows_readable m (zero ∷ ms) h k = absurd (omega (arith, ltb-true m zero (every_head (ltb m) zero ms h)))
rows_readable m (suc r ∷ ms) h (l & k) = let b : r < 1000 = omega arith in b & rows_readable m ms (every_tail (ltb m) (suc r) ms h) k

set_readable : (ms : List ℕ) → So (present ms && rising ms) → Each (λ n. n < row_limit) (set_rows ms) → SetReadable ms
unfolding present rising set_rows
set_readable [] h k = absurd (false≢true h)
set_readable (zero ∷ ms) h k = (tt, rows_readable zero ms (and_left (every (ltb zero) ms) (rising ms) h) k)
set_readable (suc r ∷ ms) h (l & k) = (omega arith, rows_readable (suc r) ms (and_left (every (ltb (suc r)) ms) (rising ms) h) k)

entry_readable : (e : Entry) → So (present e.members && rising e.members) → Each (λ n. n < row_limit) (e.key ∷ set_rows e.members) → (e.key < 1000) × SetReadable e.members
entry_readable e h (l & k) = (omega arith, set_readable e.members h k)

small : {ns : List ℕ} → Each (λ n. n < row_limit) ns → Each (λ n. n < 1000) ns
small h = each_imp (λ n l. omega arith) h

-- what each line of a document says, beside its numbers
abbrev Shaped : Line → Type 0
Shaped (row r x) = Unit {0}
Shaped (flow e) = So (present e.members && rising e.members)
Shaped (comm e) = So (present e.members && rising e.members)
Shaped (claim c) = Unit {0}

line_readable : (l : Line) → Shaped l → above_limit l ≡ false → Readable l
unfolding line_numbers
line_readable (row r x) h e = go (numbers_below (row r x) e)
  where
    go : Each (λ n. n < row_limit) (r ∷ row_numbers x) → (r < 1000) × Each (λ n. n < 1000) (row_numbers x)
    go (l & k) = (omega arith, small k)
line_readable (flow e) h q = entry_readable e h (numbers_below (flow e) q)
line_readable (comm e) h q = entry_readable e h (numbers_below (comm e) q)
line_readable (claim c) h e = go (numbers_below (claim c) e)
  where
    go : Each (λ n. n < row_limit) (c.channel ∷ []) → (c.channel < 1000) × Unit {0}
    go (l & nil) = (omega arith, tt)

-- ---- reading what was printed

line_length : (l : Line) → 0 < length (line_text l)
unfolding line_text ascii
line_length (row r x) = omega arith
line_length (flow e) = omega arith
line_length (comm e) = omega arith
line_length (claim c) = omega arith

lines_length : (ls : List Line) → length ls ≤ length (collect line_text ls)
unfolding collect
lines_length [] = omega arith
lines_length (l ∷ ls) = omega (arith, length-append (line_text l) (collect line_text ls), lines_length ls, line_length l)

module _ (s : Bytes) where
  lines_read : (k at line : ℕ) {d d' : Document} {ls : List Line} → Leads d ls d' → Each Readable ls → So (present d'.rows) → length ls < k
      → Stands (collect line_text ls) s at (length s) → read_lines k s at line d ≡ accepted d'
  unfolding read_lines collect
  lines_read zero at line h b p l t = absurd (omega arith)
  lines_read (suc k) at line end nil p l t = rw (eq-eqb at (length s) (sym (t.past ∙ add-zero at)), read_lines) (rw p)
  lines_read (suc k) at line (step {d = d} {l = l} {ls = ls} f h) (b & bs) p n t =
      let next = at + length (line_text l) in
      let here : Stands (line_text l) s at next = stands_left (line_text l) (collect line_text ls) s at (length s) t in
      let inside : at + length (line_text l) ≤ length s = stands_within (line_text l) s at next (line_length l) here in
      rw (ne_eqb at (length s) (λ e. omega (arith, line_length l)), read_lines)
      (rw (line_stands s l at next b here)
      (rw ((faultless_iff d l).1 f)
      (lines_read k next (line + 1) h bs p (omega arith) (stands_right (line_text l) (collect line_text ls) s at (length s) t))))

-- ---- printing what was read

-- what has been read from a position on, behind d
record ReadOn (s : Bytes) (at : ℕ) (d d' : Document) : Type 0 where
  partly : Partly d'
  rows : So (present d'.rows)
  lines : List Line
  more : lines_of d' ≡ lines_of d ++ lines
  stands : Stands (collect line_text lines) s at (length s)

-- the arms that an accepted reading took
module _ {X : Type 0} (d' : Document) where
  at_end : (t : Bool) (x rest : Result Document) → ◌≡◌ {A = Result Document} (elim t [ true ↦ x | false ↦ rest ]) (accepted d')
      → (t ≡ true → x ≡ accepted d' → X) → (t ≡ false → rest ≡ accepted d' → X) → X
  at_end true x rest h f g = f refl h
  at_end false x rest h f g = g refl h

  at_line : (o : Option (Line × ℕ)) (r : Refusal) (rest : Line × ℕ → Result Document) → ◌≡◌ {A = Result Document} (elim o [ none ↦ refused r | some x ↦ rest x ]) (accepted d')
      → ((x : Line × ℕ) → o ≡ some x → rest x ≡ accepted d' → X) → X
  at_line none r rest h f = let z : ◌≡◌ {A = ℕ} 0 1 = cc in absurd (omega arith)
  at_line (some x) r rest h f = f x refl h

  at_fault : (o : Option Reason) (r : Reason → Refusal) (rest : Result Document) → ◌≡◌ {A = Result Document} (elim o [ some reason ↦ refused (r reason) | none ↦ rest ]) (accepted d')
      → (o ≡ none → rest ≡ accepted d' → X) → X
  at_fault none r rest h f = f refl h
  at_fault (some x) r rest h f = let z : ◌≡◌ {A = ℕ} 0 1 = cc in absurd (omega arith)

module _ (s : Bytes) where
  -- the end of the file
  ended : (at line : ℕ) (d d' : Document) → Partly d → eqb at (length s) ≡ true → (b : Bool) → present d.rows ≡ b
      → pick b (accepted d) (refused (refusal OutOfCount line)) ≡ accepted d' → ReadOn s at d d'
  unfolding collect
  ended at line d d' p e false q h = let z : ◌≡◌ {A = ℕ} 0 1 = cc in absurd (omega arith)
  ended at line d d' p e true q h =
      let same : d ≡ d' = cc in
      let r : ReadOn s at d d =
      record { partly = p; rows = q; lines = []; more = sym (append-nil (lines_of d)); stands = rw (eqb-true at (length s) e) (stands_nil s (length s)) } in
      subst (λ (x : Document). ReadOn s at d x) same r

  lines_found : (k at line : ℕ) (d d' : Document) → Partly d → read_lines k s at line d ≡ accepted d' → ReadOn s at d d'
  unfolding read_lines collect
  lines_found zero at line d d' p h = let z : ◌≡◌ {A = ℕ} 0 1 = cc in absurd (omega arith)
  lines_found (suc k) at line d d' p h =
      at_end d' (eqb at (length s)) _ _ h (λ e q. ended at line d d' p e (present d.rows) refl q) λ e q.
      at_line d' (read_line s at) _ _ q λ (l, next) o r.
      at_fault d' (line_fault d l) _ _ r λ f t.
      let (here, written) = found_at o (line_found s at) in
      let g = (faultless_iff d l).0 f in
      let on = lines_found k next (line + 1) (add d l) d' (add_partly d l p written g) t in
      record {
        partly = on.partly;
        rows = on.rows;
        lines = l ∷ on.lines;
        more = on.more ∙ ap (λ (ls : List Line). ls ++ on.lines) (lines_add d l g) ∙ append_assoc (lines_of d) (l ∷ []) on.lines;
        stands = stands_append (line_text l) (collect line_text on.lines) s at next (length s) here on.stands;
      }

-- ---- whole files

row_lines_shaped : (r : ℕ) (p : List Row) → Each Shaped (row_lines r p)
unfolding row_lines
row_lines_shaped r [] = nil
row_lines_shaped r (x ∷ xs) = tt & row_lines_shaped (suc r) xs

entries_shaped : (es : List Entry) → So (entries_rise es) → Each (λ (e : Entry). So (present e.members && rising e.members)) es
unfolding entries_rise
entries_shaped es h = every_elim _ es (and_right (rising (map (λ (e : Entry). e.key) es)) _ h)

lines_readable : (d : Document) → Partly d → Each Readable (lines_of d)
unfolding lines_of
lines_readable d p =
    each_imp (λ l h. line_readable l h.0 (not-true _ h.1))
    (each_both
    (each_append (row_lines_shaped 0 d.rows) (each_append (each_map flow (entries_shaped d.flows p.flows))
    (each_append (each_map comm (entries_shaped d.comms p.comms)) (each_map claim (each_all d.claims λ c. tt)))))
    (every_elim _ (lines_of d) p.numbers))

-- a document that is orderly is read back from its text
pub read_print : (d : Document) → So (orderly d) → read_file (document_text d) ≡ accepted d
unfolding read_file document_text header ascii no_lines
read_print d o =
    let s = document_text d in
    let (p, h) = (orderly_iff d).0 o in
    let whole : Stands (header ++ collect line_text (lines_of d)) s 0 (length s) = stands_end s s 0 refl (zero-add (length s)) in
    let n : length s ≡ length header + length (collect line_text (lines_of d)) = length-append header (collect line_text (lines_of d)) in
    rw (expect_stands header s 0 (length header) (stands_left header (collect line_text (lines_of d)) s 0 (length s) whole), read_file)
    (lines_read s (length s) (length header) 2 (document_leads d o) (lines_readable d h) p (omega (arith, lines_length (lines_of d)))
    (stands_right header (collect line_text (lines_of d)) s 0 (length s) whole))

nothing_read : Partly no_lines
unfolding no_lines lines_of row_lines entries_rise rising every
nothing_read = record { numbers = refl; flows = refl; comms = refl; claims = refl }

-- a file that is read is the text of its document, which is orderly
pub print_read : (s : Bytes) (d : Document) → read_file s ≡ accepted d → (s ≡ document_text d) × So (orderly d)
unfolding read_file document_text
print_read s d h = go (expect header s 0) (expect_found header s 0 nonzero_header) h
  where
    nonzero_header : So (every (ltb 0) header)
    nonzero_header = unfold header ascii every in refl

    go : (o : Option ℕ) → Found (Stands header s 0) o → ◌≡◌ {A = Result Document} (elim o [ some at ↦ read_lines (length s) s at 2 no_lines | none ↦ refused (refusal NotALine 1) ]) (accepted d)
        → (s ≡ header ++ collect line_text (lines_of d)) × So (orderly d)
    go none nothing h = let z : ◌≡◌ {A = ℕ} 0 1 = cc in absurd (omega arith)
    go (some at) (found t) h =
        let r = lines_found s (length s) at 2 no_lines d nothing_read h in
        let e : lines_of d ≡ r.lines = r.more ∙ unfold no_lines lines_of row_lines in refl in
        let whole = stands_append header (collect line_text r.lines) s 0 at (length s) t r.stands in (
          whole.text_here ∙ ap (λ (x : Bytes). header ++ collect line_text r.lines ++ x) (drop-length s) ∙ append-nil (header ++ collect line_text r.lines)
              ∙ ap (λ (ls : List Line). header ++ collect line_text ls) (sym e),
          (orderly_iff d).1 (r.rows, r.partly),
        )

-- ---- what load takes

-- the same with 6 to 9, the length limit set aside
pub check_any_iff : (file : Bytes) (d : Document) → (check_any file ≡ accepted d) ↔ ((file ≡ document_text d) × So (well_formed d))
unfolding check_any check_structure well_formed
check_any_iff file d = (λ h. taken (read_file file) refl h, λ (e, w). rw (e, read_print d (and_left (orderly d) _ w)) (sound (structure_fault d) (and_right (orderly d) _ w)))
  where
    structured : (d' : Document) (o : Option Refusal) → structure_fault d' ≡ o → ◌≡◌ {A = Result Document} (elim o [ some r ↦ refused r | none ↦ accepted d' ]) (accepted d)
        → (d' ≡ d) × So (elim (structure_fault d') [ none ↦ true | some r ↦ false ])
    structured d' (some r) q h = let z : ◌≡◌ {A = ℕ} 0 1 = cc in absurd (omega arith)
    structured d' none q h = (let e : d' ≡ d = cc in e, rw q)

    taken : (r : Result Document) → read_file file ≡ r → check_structure r ≡ accepted d → (file ≡ document_text d) × So (orderly d && elim (structure_fault d) [ none ↦ true | some r ↦ false ])
    taken (refused r) e h = let z : ◌≡◌ {A = ℕ} 0 1 = cc in absurd (omega arith)
    taken (accepted d') e h =
        let (q, t) = structured d' (structure_fault d') refl h in
        let (p, o) = print_read file d' e in
        (p ∙ ap document_text q, rw (← q) (and_intro o t))

    sound : (o : Option Refusal) → So (elim o [ none ↦ true | some r ↦ false ]) → ◌≡◌ {A = Result Document} (elim o [ some r ↦ refused r | none ↦ accepted d ]) (accepted d)
    sound none t = refl
    sound (some r) t = absurd (false≢true t)

-- Load takes exactly the files of the format: the texts of well-formed documents that are short enough
pub check_iff : (file : Bytes) (d : Document) → (check file ≡ accepted d) ↔ ((file ≡ document_text d) × So (well_formed d) × (length file ≤ byte_limit))
unfolding check
check_iff file d = (λ h. short (ltb byte_limit (length file)) refl h, λ (e, w, l). rw (le-ltb byte_limit (length file) l, check) ((check_any_iff file d).1 (e, w)))
  where
    short : (t : Bool) → ltb byte_limit (length file) ≡ t → ◌≡◌ {A = Result Document} (elim t [ true ↦ refused (refusal TooLong 0) | false ↦ check_any file ]) (accepted d)
        → (file ≡ document_text d) × So (well_formed d) × (length file ≤ byte_limit)
    short true e h = let z : ◌≡◌ {A = ℕ} 0 1 = cc in absurd (omega arith)
    short false e h = let (p, w) = (check_any_iff file d).0 h in (p, w, ltb-false byte_limit (length file) e)
