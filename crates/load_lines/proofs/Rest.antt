-- Reading on: what has been read is that of a document, and what is left to read decides the file.
use Prim.Native.Nat.{ℕ, zero, suc, ◌+◌, ◌-◌, ◌≤◌, ◌<◌}
use Rattle.std.specs.Prelude.{Option, None as none, Some as some, Ok, Err}
use mathlib.Core.Path.{◌≡◌, refl, sym, ap, ◌∙◌, subst}
use mathlib.Core.Logic.{◌≢◌}
use native.Mathlib.Omega.{arith}
use native.Mathlib.Decide.{dec_lt}
use lib.ListN.{length}
use borrow.Author.Tests.{eq-eqb, ne_eqb, le-leb, lt-ltb, le-ltb}
use Rattle.program.specs.Test.{pick}
use Rattle.program.specs.Each.{every}
use Rattle.format.specs.declared.Reason.{Reason}
use Rattle.format.specs.declared.Reason.TheVariants.{NotALine, OutOfCount}
use Rattle.format.specs.Refusals.{refusal, Result, refused, accepted}
use Rattle.format.specs.Text.{Bytes, expect}
use Rattle.format.specs.Print.{header}
use Rattle.format.specs.Document.{Document, Line}
use Rattle.format.specs.Read.{present, read_line, line_fault, add, no_lines, read_lines, read_file}
use Rattle.calls.specs.Layout.{store_size}
use Rattle.progress.specs.declared.Progress.{Progress}
use Rattle.load_lines.specs.Answers.{FileRead}
use Rattle.progress.specs.Progress.{Matches, Small}
use Rattle.load_line.specs.Line.{LineRead, SmallAnswer, Stored, Past, FaultIs, AnswerIs, LineIs}
use Rattle.load_lines.specs.File.{line_refusal, FileKept, FileAnswer, FileIs}
use Rattle.progress.proofs.Faults.{present-length}

pub record Reading (file : Bytes) (start : ℕ) (store₀ store : Bytes) (at line : ℕ) (p : Progress) (left : ℕ) : Type 0 where
  pub doc : Document
  pub past : Past store₀ store
  pub stored : Stored store doc
  pub matches : Matches doc p
  pub small : Small p
  pub lines : line + left ≡ length file + 2
  pub same : read_lines left file at line doc ≡ read_lines (length file) file start 2 no_lines

abbrev pub nothing : Progress
nothing = record { rows = 0; flows = 0; comms = 0; claims = 0; flow_least = 0; comm_least = 0; claim_least = 0 }

pub begin : (file : Bytes) (start : ℕ) (store : Bytes) → Stored store no_lines → Reading file start store store start 2 nothing (length file + 2 - 2)
unfolding no_lines every
begin file start store s = let all : length file + 2 - 2 ≡ length file = omega arith in rw all (record {
  doc = no_lines;
  past = record { length_stays = refl; rest_stays = refl };
  stored = s;
  matches = record {
    rows_are = refl;
    flows_are = refl;
    comms_are = refl;
    claims_are = refl;
    rows_fit = omega arith;
    flows_rise = λ k. sym (le-leb 0 k (omega arith));
    comms_rise = λ k. sym (le-leb 0 k (omega arith));
    claims_rise = λ k. sym (le-leb 0 k (omega arith));
  };
  small = record {
    rows_small = omega arith;
    flows_small = omega arith;
    comms_small = omega arith;
    claims_small = omega arith;
    flow_limit = omega arith;
    comm_limit = omega arith;
    within_claim_limit = omega arith;
  };
  lines = omega arith;
  same = refl;
})

-- ---- one round of the definition

module _ (s : Bytes) (at line : ℕ) (d : Document) where
  read_end : (left : ℕ) → 0 < left → at ≡ length s → read_lines left s at line d ≡ pick (present d.rows) (accepted d) (refused (refusal OutOfCount line))
  unfolding read_lines
  read_end zero h e = absurd (omega arith)
  read_end (suc k) h e = rw (eq-eqb at (length s) e, read_lines)

  read_out : (left : ℕ) → left ≤ 0 → read_lines left s at line d ≡ refused (refusal NotALine line)
  unfolding read_lines
  read_out zero h = refl
  read_out (suc k) h = absurd (omega arith)

  read_missing : (left : ℕ) → 0 < left → at ≢ length s → read_line s at ≡ none → read_lines left s at line d ≡ refused (refusal NotALine line)
  unfolding read_lines
  read_missing zero h n o = absurd (omega arith)
  read_missing (suc k) h n o = rw (ne_eqb at (length s) n, read_lines) (rw o)

  read_faulty : (left : ℕ) (l : Line) (next : ℕ) (reason : Reason) → 0 < left → at ≢ length s → read_line s at ≡ some (l, next) → line_fault d l ≡ some reason
      → read_lines left s at line d ≡ refused (refusal reason line)
  unfolding read_lines
  read_faulty zero l next reason h n o f = absurd (omega arith)
  read_faulty (suc k) l next reason h n o f = rw (ne_eqb at (length s) n, read_lines) (rw (o, f))

  read_kept : (left : ℕ) (l : Line) (next : ℕ) → 0 < left → at ≢ length s → read_line s at ≡ some (l, next) → line_fault d l ≡ none
      → read_lines left s at line d ≡ read_lines (left - 1) s next (line + 1) (add d l)
  unfolding read_lines
  read_kept zero l next h n o f = absurd (omega arith)
  read_kept (suc k) l next h n o f =
      let q : suc k - 1 ≡ k = omega arith in
      rw (ne_eqb at (length s) n, read_lines) (rw (o, f) (ap (λ (m : ℕ). read_lines m s next (line + 1) (add d l)) (sym q)))

kept_same : (x y : Progress × ℕ) → ◌≡◌ {A = LineRead} (Ok x) (Ok y) → x ≡ y
kept_same x y e = cc

past_trans : {a b c : Bytes} → Past a b → Past b c → Past a c
past_trans h k = record { length_stays = k.length_stays ∙ h.length_stays; rest_stays = k.rest_stays ∙ h.rest_stays }

module _ (file : Bytes) (start : ℕ) (store₀ store : Bytes) (at line : ℕ) (p : Progress) (left : ℕ) (r : Reading file start store₀ store at line p left) where
  -- the file's answer is that of what is left
  pub decided : (x : Result Document) (answer : FileRead) (left' : Bytes) → read_lines left file at line r.doc ≡ x → Past store left' → FileAnswer x answer left'
      → FileIs (read_lines (length file) file start 2 no_lines) store₀ answer left'
  decided x answer left' e h a = record { past = past_trans r.past h; answers = subst (λ (y : Result Document). FileAnswer y answer left') (sym e ∙ r.same) a }

  still : Past store store
  still = record { length_stays = refl; rest_stays = refl }

  pub at_end_empty : 0 < left → at ≡ length file → p.rows ≡ 0 → FileIs (read_lines (length file) file start 2 no_lines) store₀ (Err (refusal OutOfCount line)) store
  at_end_empty h e z =
      decided (refused (refusal OutOfCount line)) _ store
      (read_end file at line r.doc left h e ∙ rw (present-length r.doc.rows p.rows r.matches.rows_are, le-ltb 0 p.rows (omega arith)))
      still refl

  pub at_end : 0 < left → at ≡ length file → p.rows ≢ 0 → FileIs (read_lines (length file) file start 2 no_lines) store₀ (Ok p) store
  at_end h e z =
      let there : 0 < p.rows = elim (dec_lt 0 p.rows) [ yes q ↦ q | no q ↦ absurd (z (omega arith)) ] in
      let k : FileKept r.doc (Ok p) store = record { progress = p; answer_is = refl; matches = r.matches; stored = r.stored } in
      decided (accepted r.doc) _ store (read_end file at line r.doc left h e ∙ rw (present-length r.doc.rows p.rows r.matches.rows_are, lt-ltb 0 p.rows there)) still k

  pub out_of_lines : left ≤ 0 → FileIs (read_lines (length file) file start 2 no_lines) store₀ (Err (refusal NotALine line)) store
  out_of_lines h = decided _ _ store (read_out file at line r.doc left h) still refl

  module _ (more : 0 < left) (inside : at ≢ length file) (answer : LineRead) (left' : Bytes) (h : LineIs (read_line file at) p store answer left') where
    answers : (o : Option (Line × ℕ)) → read_line file at ≡ o → AnswerIs r.doc o answer left'
    answers o e = subst (λ (o : Option (Line × ℕ)). AnswerIs r.doc o answer left') e (h.answers r.doc r.stored r.matches)

    -- the line is not kept
    pub line_refused : (reason : Reason) → answer ≡ Err reason → FileIs (read_lines (length file) file start 2 no_lines) store₀ (Err (line_refusal answer line)) left'
    line_refused reason q = go (read_line file at) refl
      where
        fault : (l : Line) (next : ℕ) → read_line file at ≡ some (l, next) → (f : Option Reason) → line_fault r.doc l ≡ f → FaultIs r.doc l next f answer left'
            → FileIs (read_lines (length file) file start 2 no_lines) store₀ (Err (line_refusal answer line)) left'
        fault l next o none f k = let z : ◌≡◌ {A = ℕ} 0 1 = let a = k.answer_is in cc in absurd (omega arith)
        fault l next o (some x) f k = decided _ _ left' (read_faulty file at line r.doc left l next x more inside o f) h.past (ap (λ (a : LineRead). Err (line_refusal a line)) k)

        go : (o : Option (Line × ℕ)) → read_line file at ≡ o → FileIs (read_lines (length file) file start 2 no_lines) store₀ (Err (line_refusal answer line)) left'
        go none o = decided _ _ left' (read_missing file at line r.doc left more inside o) h.past (ap (λ (a : LineRead). Err (line_refusal a line)) (answers none o))
        go (some (l, next)) o = fault l next o (line_fault r.doc l) refl (answers (some (l, next)) o)

    -- the line is kept
    pub line_taken : (q : Progress) (next : ℕ) → answer ≡ Ok (q, next) → Reading file start store₀ left' next (line + 1) q (left - 1)
    line_taken q next e = go (read_line file at) refl
      where
        taken : (l : Line) (m : ℕ) → read_line file at ≡ some (l, m) → (f : Option Reason) → line_fault r.doc l ≡ f → FaultIs r.doc l m f answer left'
            → Reading file start store₀ left' next (line + 1) q (left - 1)
        taken l m o (some x) f k = let z : ◌≡◌ {A = ℕ} 0 1 = cc in absurd (omega arith)
        taken l m o none f k =
            let same = kept_same (k.progress, m) (q, next) (sym k.answer_is ∙ e) in
            let same-progress : k.progress ≡ q = ap (λ (x : Progress × ℕ). x.0) same in
            let same_next : m ≡ next = ap (λ (x : Progress × ℕ). x.1) same in
            record {
              doc = add r.doc l;
              past = past_trans r.past h.past;
              stored = k.stored;
              matches = subst (λ (x : Progress). Matches (add r.doc l) x) same-progress k.matches;
              small = subst SmallAnswer e h.small;
              lines = omega (arith, r.lines);
              same = sym (read_kept file at line r.doc left l next more inside (o ∙ ap (λ (x : ℕ). some (l, x)) same_next) f) ∙ r.same;
            }

        go : (o : Option (Line × ℕ)) → read_line file at ≡ o → Reading file start store₀ left' next (line + 1) q (left - 1)
        go none o = let a = answers none o in let z : ◌≡◌ {A = ℕ} 0 1 = cc in absurd (omega arith)
        go (some (l, m)) o = taken l m o (line_fault r.doc l) refl (answers (some (l, m)) o)

pub long_stays : (m n : ℕ) → store_size ≤ m → n ≡ m → store_size ≤ n
long_stays m n h e = omega arith

-- ---- the first line

pub no_header : (s store : Bytes) → expect header s 0 ≡ none → FileIs (read_file s) store (Err (refusal NotALine 1)) store
unfolding read_file
no_header s store e = record {
  past = record { length_stays = refl; rest_stays = refl };
  answers = subst (λ (y : Result Document). FileAnswer y (Err (refusal NotALine 1)) store) (sym (first e)) refl;
}
  where
    first : expect header s 0 ≡ none → read_file s ≡ refused (refusal NotALine 1)
    first e = rw (e, read_file)

pub with_header : (s : Bytes) (start : ℕ) (store left : Bytes) (answer : FileRead) → expect header s 0 ≡ some start
    → FileIs (read_lines (length s) s start 2 no_lines) store answer left → FileIs (read_file s) store answer left
unfolding read_file
with_header s start store left answer e h = rw (e, read_file) h
