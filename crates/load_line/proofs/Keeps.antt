-- What a function that reads a line answers, from what it read: no line, a faulty line, or a line that is kept.
use Prim.Native.Nat.{ℕ, ◌+◌, ◌-◌, ◌*◌, ◌≤◌, ◌<◌}
use mathlib.Core.List.{List, [], ◌∷◌, ◌++◌}
use Rattle.std.specs.Prelude.{Option, None as none, Some as some, Ok, Err}
use Rattle.std.specs.Option.{ok_or}
use mathlib.Core.Path.{◌≡◌, refl, sym, ap, ◌∙◌, subst}
use native.Mathlib.Omega.{arith}
use lib.ListN.{length, set, take, drop, replicate}
use lib.Seq.{sets}
use Rattle.program.specs.declared.Row.{Row}
use Rattle.program.specs.declared.Word.{Word}
use Rattle.program.specs.Maybe.{◌>>=◌}
use Rattle.format.specs.declared.Reason.{Reason}
use Rattle.format.specs.declared.Reason.TheVariants.{NotALine}
use Rattle.format.specs.Limits.{row_limit}
use Rattle.format.specs.declared.Section.{Section}
use Rattle.format.specs.declared.Section.TheVariants.{Rows, Claims}
use Rattle.format.specs.Text.{Bytes, ascii, expect, one_of, read_argument}
use Rattle.format.specs.Document.{Document, Line, row, claim}
use Rattle.format.specs.Read.{read_row, read_set, read_content, claim_words, line_words, read_line, line_fault, add}
use Rattle.calls.specs.Layout.{store_size, row_size, member_limit, row_bytes, flags_of, word_code, claim_at, encode}
use Rattle.calls.proofs.Codec.Rows.{row_size_lem}
use Rattle.calls.proofs.Codec.Sets.{flags_length}
use Rattle.calls.proofs.Patches.{patch, sets_patched, set_patched, patched_length, patched_take, patched_drop}
use Rattle.store.proofs.Laws.{placed}
use Rattle.raw_rows.specs.Raw.{row_above}
use Rattle.read_sets.specs.declared.SetFault.{SetFault}
use Rattle.read_sets.specs.Sets.{set_fault, marks, SetIs}
use Rattle.read_sets.proofs.Marks.{marks_flags}
use Rattle.read_sets.proofs.Members.{set_found, set_missing}
use Rattle.progress.specs.declared.Progress.{Progress}
use Rattle.tables.specs.declared.Table.{Table}
use Rattle.tables.specs.declared.Table.TheVariants.{Flow, Comm}
use Rattle.tables.specs.Starts.{start}
use Rattle.progress.specs.Progress.{Matches, Small}
use Rattle.load_line.specs.Line.{Past, LineRead, LineKept, FaultIs, AnswerIs, LineIs, read_rest}
use Rattle.progress.specs.Lines.{section_of, set_line, place_of, with_row, with_set, with_claim, row_line_fault, set_line_fault, claim_line_fault}
use Rattle.progress.proofs.Faults.{row_fault_lem, set_fault_lem, claim_fault, row_fits, set_fits, claim_fits}
use Rattle.progress.proofs.Adding.{row_matches, set_matches, claim_matches, row_stored, set_stored, claim_stored, row_small, set_small, claim_small}

untouched : (store : Bytes) → Past store store
untouched store = record { length_stays = refl; rest_stays = refl }

module _ (line : Option (Line × ℕ)) (p : Progress) (store : Bytes) where
  -- no line was read
  pub unread : line ≡ none → LineIs line p store (Err NotALine) store
  unread e = record { past = untouched store; small = tt; answers = λ d s m. subst (λ (o : Option (Line × ℕ)). AnswerIs d o (Err NotALine) store) (sym e) refl }

  -- a part of it was not found, which is told as no line
  pub turned_back : {A : Type 0} {o : Option A} {x y : Reason} → x ≡ y → Err y ≡ ok_or o NotALine → o ≡ none → line ≡ none → LineIs line p store (Err x) store
  turned_back {o = o} {x} {y} same told missing e =
      let reason : y ≡ NotALine = cc (told, missing) in
      rw (same ∙ reason) (unread e)

  -- a line was read, and it is faulty
  pub faulty : (l : Line) (next : ℕ) (reason : Reason) → line ≡ some (l, next) → ((d : Document) → Matches d p → line_fault d l ≡ some reason)
      → LineIs line p store (Err reason) store
  faulty l next reason e h = record {
    past = untouched store;
    small = tt;
    answers = λ d s m.
        subst (λ (o : Option (Line × ℕ)). AnswerIs d o (Err reason) store) (sym e)
        (subst (λ (o : Option Reason). FaultIs d l next o (Err reason) store) (sym (h d m)) refl);
  }

  -- a line was read and kept, with a part of the store replaced
  pub kept : (l : Line) (next : ℕ) (q : Progress) (at : ℕ) (new : Bytes) → line ≡ some (l, next) → Small q → at + length new ≤ store_size → store_size ≤ length store
      → ((d : Document) → Matches d p → (line_fault d l ≡ none) × Matches (add d l) q × (encode (add d l) ≡ patch at new (encode d)))
      → LineIs line p store (Ok (q, next)) (patch at new store)
  kept l next q at new e small within long h = record {
    past = record { length_stays = patched_length store at new (omega arith); rest_stays = patched_drop store_size store at new within long };
    small = small;
    answers = λ d s m.
        let (f, k, c) = h d m in
        let r : LineKept d l next (Ok (q, next)) (patch at new store) =
        record { progress = q; answer_is = refl; matches = k; stored = patched_take store_size store at new within long ∙ ap (patch at new) s ∙ sym c } in
        subst (λ (o : Option (Line × ℕ)). AnswerIs d o (Ok (q, next)) (patch at new store)) (sym e)
        (subst (λ (o : Option Reason). FaultIs d l next o (Ok (q, next)) (patch at new store)) (sym f) r);
  }

-- ---- a row's line

pub row_read_lem : (s : Bytes) (at n : ℕ) (x : Row) (e next : ℕ) → read_row s at ≡ some (x, e) → expect (ascii "]\n") s e ≡ some next
    → read_rest Rows n s at ≡ some (row n x, next)
unfolding read_rest read_content ◌>>=◌
row_read_lem s at n x e next h k = rw (h, k)

module _ (line : Option (Line × ℕ)) (p : Progress) (store : Bytes) (n : ℕ) (x : Row) (next : ℕ) (read : line ≡ some (row n x, next)) where
  pub row_refused : (reason : Reason) → row_line_fault p n (row_above x) ≡ some reason → LineIs line p store (Err reason) store
  row_refused reason h = faulty line p store (row n x) next reason read (λ d m. row_fault_lem d p m n x ∙ h)

  pub row_kept : Small p → store_size ≤ length store → row_line_fault p n (row_above x) ≡ none
      → LineIs line p store (Ok (with_row p, next)) (sets store (n * row_size) (row_bytes x))
  row_kept small long h =
      let (low, own, count) = row_fits p n (row_above x) h in
      let s : length (row_bytes x) ≡ row_size = row_size_lem x in
      let within : n * row_size + length (row_bytes x) ≤ store_size = omega arith in
      let fits : p.rows < row_limit = omega arith in
      rw (sets_patched store (n * row_size) (row_bytes x) (omega arith))
      (kept line p store (row n x) next (with_row p) (n * row_size) (row_bytes x) read (row_small p small fits) within long
      λ d m. (row_fault_lem d p m n x ∙ h, row_matches d p m n x fits, row_stored d p m n x low count))

pub row_room : (n m : ℕ) → store_size ≤ m → n < row_limit → n * row_size + row_size ≤ m
row_room n m h l = omega arith

-- ---- the line of a set, in either table

content_of : (t : Table) (n : ℕ) (s : Bytes) (at : ℕ) → read_content (section_of t) n s at ≡ (read_set s at >>= λ x. some (set_line t n x.0, x.1))
unfolding read_content
content_of Flow n s at = refl
content_of Comm n s at = refl

module _ (t : Table) (s : Bytes) (at n : ℕ) where
  line_of : (e next : ℕ) (ms : List ℕ) → read_set s at ≡ some (ms, e) → expect (ascii "]\n") s e ≡ some next → read_rest (section_of t) n s at ≡ some (set_line t n ms, next)
  unfolding read_rest ◌>>=◌
  line_of e next ms o k = rw (content_of t n s at, o, k)

  cut_of : (e : ℕ) (ms : List ℕ) → read_set s at ≡ some (ms, e) → expect (ascii "]\n") s e ≡ none → read_rest (section_of t) n s at ≡ none
  unfolding read_rest ◌>>=◌
  cut_of e ms o k = rw (content_of t n s at, o, k)

module _ (t : Table) (s : Bytes) (at n : ℕ) (flags left : Bytes) {r : Option (ℕ × Option SetFault)} (h : SetIs set_fault (read_set s at) flags r left) where
  pub set_line_missing : r ≡ none → read_rest (section_of t) n s at ≡ none
  unfolding read_rest ◌>>=◌
  set_line_missing e = rw (content_of t n s at, set_missing (read_set s at) flags _ left h e)

  pub set_line_cut : {e : ℕ} {f : Option SetFault} → r ≡ some (e, f) → expect (ascii "]\n") s e ≡ none → read_rest (section_of t) n s at ≡ none
  set_line_cut q k = let x = set_found (read_set s at) flags _ left h q in cut_of t s at n _ x.members x.reads k

  -- the line that was read, the fault of its set, and its members' bytes
  pub set_line_lem : {e next : ℕ} {f : Option SetFault} → r ≡ some (e, f) → expect (ascii "]\n") s e ≡ some next → flags ≡ replicate member_limit 0
      → (ms : List ℕ) × (read_rest (section_of t) n s at ≡ some (set_line t n ms, next)) × (f ≡ set_fault ms) × (left ≡ flags_of ms)
  set_line_lem q k z =
      let x = set_found (read_set s at) flags _ left h q in
      (x.members, line_of t s at n _ _ x.members x.reads k, x.fault_is_set, x.marked ∙ ap (marks x.members) z ∙ marks_flags x.members)

pub place_is : (t : Table) (n : ℕ) → start t + n * member_limit ≡ place_of t n
unfolding start
place_is Flow n = refl
place_is Comm n = refl

place_within : (t : Table) (n : ℕ) → n < row_limit → place_of t n + member_limit ≤ store_size
place_within Flow n l = omega arith
place_within Comm n l = omega arith

pub set_room : (t : Table) (p : Progress) (n m : ℕ) (f : Option SetFault) → store_size ≤ m → set_line_fault t p n f ≡ none → place_of t n + member_limit ≤ m
set_room t p n m f long h = let w : place_of t n + member_limit ≤ store_size = place_within t n (set_fits t p n f h).0 in omega arith

module _ (t : Table) (line : Option (Line × ℕ)) (p : Progress) (store : Bytes) (n : ℕ) (ms : List ℕ) (next : ℕ)
    (read : line ≡ some (set_line t n ms, next)) (f : Option SetFault) (fault_is : f ≡ set_fault ms) where
  line_fault_lem : (o : Option Reason) → set_line_fault t p n f ≡ o → (d : Document) → Matches d p → line_fault d (set_line t n ms) ≡ o
  line_fault_lem o h d m = set_fault_lem d p m t n ms ∙ ap (set_line_fault t p n) (sym fault_is) ∙ h

  pub set_refused : (reason : Reason) → set_line_fault t p n f ≡ some reason → LineIs line p store (Err reason) store
  set_refused reason h = faulty line p store (set_line t n ms) next reason read (line_fault_lem (some reason) h)

  pub set_kept : Small p → store_size ≤ length store → set_line_fault t p n f ≡ none
      → LineIs line p store (Ok (with_set t (n + 1) p, next)) (sets store (place_of t n) (flags_of ms))
  set_kept small long h =
      let (low, rise) = set_fits t p n f h in
      let s : length (flags_of ms) ≡ member_limit = flags_length ms in
      let w : place_of t n + member_limit ≤ store_size = place_within t n low in
      let within : place_of t n + length (flags_of ms) ≤ store_size = omega arith in
      rw (sets_patched store (place_of t n) (flags_of ms) (omega arith))
      (kept line p store (set_line t n ms) next (with_set t (n + 1) p) (place_of t n) (flags_of ms) read (set_small p small t n low rise) within long
      λ d m. (line_fault_lem none h d m, set_matches d p m t n ms rise, set_stored d p m t n ms low rise))

  -- the flags put in the place of the set
  pub set_put : Small p → store_size ≤ length store → set_line_fault t p n f ≡ none
      → LineIs line p store (Ok (with_set t (n + 1) p, next)) (take (place_of t n) store ++ (flags_of ms ++ drop (place_of t n + member_limit - place_of t n) (drop (place_of t n) store)))
  set_put small long h =
      let s : length (flags_of ms) ≡ member_limit = flags_length ms in
      let e : place_of t n + member_limit ≡ place_of t n + length (flags_of ms) = omega arith in
      subst (λ (left : Bytes). LineIs line p store (Ok (with_set t (n + 1) p, next)) left)
      (sym (placed (place_of t n) (place_of t n + member_limit) store (flags_of ms) e (set_room t p n (length store) f long h))) (set_kept small long h)

-- ---- a claim's line

pub claim_read : (s : Bytes) (at n : ℕ) (w : Word) (e next : ℕ) → one_of claim_words s at ≡ some (w, e) → expect (ascii "]\n") s e ≡ some next
    → read_rest Claims n s at ≡ some (claim (record { channel = n; word = w }), next)
unfolding read_rest read_content ◌>>=◌
claim_read s at n w e next h k = rw (h, k)

module _ (line : Option (Line × ℕ)) (p : Progress) (store : Bytes) (n : ℕ) (w : Word) (next : ℕ) (read : line ≡ some (claim (record { channel = n; word = w }), next)) where
  pub claim_refused : (reason : Reason) → claim_line_fault p n ≡ some reason → LineIs line p store (Err reason) store
  claim_refused reason h = faulty line p store (claim (record { channel = n; word = w })) next reason read (λ d m. claim_fault d p m n w ∙ h)

  pub claim_kept : Small p → store_size ≤ length store → claim_line_fault p n ≡ none
      → LineIs line p store (Ok (with_claim (n + 1) p, next)) (set store (claim_at n) (word_code w))
  claim_kept small long h =
      let (low, rise) = claim_fits p n h in
      let within : claim_at n + 1 ≤ store_size = omega arith in
      rw (set_patched store (claim_at n) (word_code w) (omega arith))
      (kept line p store (claim (record { channel = n; word = w })) next (with_claim (n + 1) p) (claim_at n) (word_code w ∷ []) read (claim_small p small n low rise)
      within long
      λ d m. (claim_fault d p m n w ∙ h, claim_matches d p m n w rise, claim_stored d p m n w low rise))

pub claim_room : (p : Progress) (n m : ℕ) → store_size ≤ m → claim_line_fault p n ≡ none → claim_at n < m
claim_room p n m long h = let l : n < row_limit = (claim_fits p n h).0 in omega arith

-- ---- a line from its section, its number and its rest

pub line_rest : (s : Bytes) (at p n q r : ℕ) (section : Section) → one_of line_words s at ≡ some (section, p) → read_argument s p ≡ some (n, q) → expect (ascii " ") s q ≡ some r
    → read_line s at ≡ read_rest section n s r
unfolding read_line read_rest ◌>>=◌
line_rest s at p n q r section h k l = rw (h, k, l)

pub line_kept : (s : Bytes) (at p n q r : ℕ) (found section : Section) → one_of line_words s at ≡ some (found, p) → found ≡ section
    → read_argument s p ≡ some (n, q) → expect (ascii " ") s q ≡ some r
    → {progress : Progress} {store left : Bytes} {answer : LineRead} → LineIs (read_rest section n s r) progress store answer left → LineIs (read_line s at) progress store answer left
line_kept s at p n q r found section h e k l {progress} {store} {left} {answer} i =
    subst (λ (o : Option (Line × ℕ)). LineIs o progress store answer left) (sym (line_rest s at p n q r section (h ∙ ap (λ (x : Section). some (x, p)) e) k l)) i
