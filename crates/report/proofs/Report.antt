-- The report of a file: no longer than `report_limit`, and put together from what load, judge and verdict answer.
use Rattle.std.specs.Prelude.{Ok, Err}
use Prim.Native.Nat.{ℕ, zero, suc, ◌+◌, ◌*◌, ◌≤◌, ◌<◌}
use native.Mathlib.Omega.{arith}
use mathlib.Core.Bool.{Bool, true, false, So}
use mathlib.Core.List.{List, [], ◌∷◌, ◌++◌, map}
use Rattle.std.specs.Prelude.{Option, None as none, Some as some}
use mathlib.Core.Path.{◌≡◌, refl, ap, subst}
use lib.ListN.{length, drop, length-append}
use borrow.Author.Tests.{le-ltb}
use Rattle.program.specs.Each.{collect}
use Rattle.program.specs.Program.{chan_row}
use Rattle.program.proofs.Test.{and_left}
use Rattle.format.specs.declared.Reason.TheVariants.{FlowRuleFails}
use Rattle.format.specs.declared.Refusal.{Refusal}
use Rattle.format.specs.Limits.{row_limit}
use Rattle.format.specs.Text.{Bytes, ascii}
use Rattle.format.specs.Refusals.{number, refusal, Result, refused, accepted}
use Rattle.format.specs.Document.{Document}
use Rattle.format.specs.Structure.{row_line}
use Rattle.format.specs.WellFormed.{orderly, well_formed}
use Rattle.format.specs.Check.{check}
use Rattle.format.proofs.Files.{check_iff}
use Rattle.format.proofs.Lengths.{pick-length, argument-length, argument_short}
use Rattle.calls.specs.Answers.{LoadAnswer}
use Rattle.calls.specs.Answers.{JudgeAnswer, VerdictStatus}
use Rattle.calls.specs.declared.VerdictAnswer.{VerdictAnswer}
use Rattle.calls.specs.Layout.{store_size, counting, encode, decode}
use Rattle.calls.specs.Judging.{verdict_words, word_holds, reaches, failing_row, failing_claim, after10, judge_claims, judge_document, verdict_document}
use Rattle.calls.specs.Calls.{opened, counts, refilled, loaded, load, judge_answered, and_then, judge, verdict_of, verdict_given, verdict}
use Rattle.report.specs.Report.{refused_text, accepted_text, yes_no_text, more_words_text, words_text, channel_text, channel_line, channel_lines, judged_text, checked_text, report, line_limit, report_limit}
use Rattle.calls.proofs.Codec.{decode-encode}
use Rattle.calls.proofs.Codec.Sparse.{either}
use Rattle.calls.proofs.Canonical.Rows.{count_rows-le, rows_count}
use Rattle.calls.proofs.Calls.{opened_loaded, judge-opened}

-- ---- how long lines are

pub refused_short : (r : Refusal) → length (refused_text r) ≤ line_limit
unfolding refused_text ascii
refused_short r = simp length-append (omega (arith, argument-length (number r.reason), argument-length r.line))

accepted_short : (n : ℕ) → length (accepted_text n) ≤ line_limit
unfolding accepted_text ascii
accepted_short n = simp length-append (omega (arith, argument-length n))

yes_no_short : (b : Bool) → length (yes_no_text b) ≤ 3
unfolding yes_no_text ascii
yes_no_short true = omega arith
yes_no_short false = omega arith

more_words_short : (ws : List Bool) → length (more_words_text ws) ≤ 4 * length ws + 1
unfolding more_words_text ascii
more_words_short [] = omega arith
more_words_short (w ∷ ws) = simp length-append (omega (arith, yes_no_short w, more_words_short ws))

channel_short : (c : ℕ) (w : Bool) (ws : List Bool) → c < 1000 → length (channel_text c (w ∷ ws)) ≤ 4 * length ws + 20
unfolding channel_text words_text ascii
channel_short c w ws h = simp length-append (omega (arith, argument_short c h, yes_no_short w, more_words_short ws))

line_short : (d : Document) (c : ℕ) → c < 1000 → length (channel_line d c) ≤ line_limit
unfolding channel_line
line_short d c h = pick-length line_limit (chan_row d.rows c) (channel_text c (map (word_holds d (reaches d) c) verdict_words)) [] (channel_short c _ _ h) (omega arith)

lines_short : (f : ℕ → Bytes) (k c : ℕ) → ((i : ℕ) → i < c + k → length (f i) ≤ line_limit) → length (collect f (counting k c λ i. i)) ≤ line_limit * k
unfolding collect counting
lines_short f zero c h = omega arith
lines_short f (suc k) c h = simp length-append (omega (arith, h c (omega arith), lines_short f k (suc c) (λ i l. h i (omega arith))))

-- ---- how long a report is

rows_few : (d : Document) → So (well_formed d) → length d.rows ≤ row_limit
rows_few d w =
    let s = encode d in
    let ok : So (orderly d) = unfold well_formed in and_left (orderly d) _ w in
    subst (λ (x : Document). length x.rows ≤ row_limit) (decode-encode d ok) (unfold decode in omega (arith, rows_count row_limit s, count_rows-le row_limit s))

pub judged_short : (d : Document) → length d.rows ≤ row_limit → (x : Result ℕ) → length (judged_text d x) ≤ report_limit
unfolding judged_text channel_lines
judged_short d few (refused r) = omega (arith, refused_short r)
judged_short d few (accepted n) =
    let rows = length d.rows in
    simp length-append (omega (arith, accepted_short n, lines_short (channel_line d) rows 0 (λ i l. line_short d i (omega arith))))

-- what is printed of any file fits `report_limit`
pub report_short : (file : Bytes) → length (report file) ≤ report_limit
unfolding report checked_text
report_short file = go (check file) refl
  where
    go : (x : Result Document) → check file ≡ x → length (checked_text x) ≤ report_limit
    go (refused r) e = omega (arith, refused_short r)
    go (accepted d) e = judged_short d (rows_few d ((check_iff file d).0 e).1) (judge_document d)

-- ---- a report is what the calls answer

-- the line of row c, by the answer of verdict: nothing where it is refused
unfoldable pub status_line : ℕ → VerdictStatus → List Bool → Bytes
status_line c (Ok tt) words = channel_text c words
status_line c (Err r) words = []

unfoldable pub verdict_line : ℕ → VerdictAnswer → Bytes
verdict_line c v = status_line c v.status v.words

-- the text by the answer of judge on a store with so many rows, and those of verdict on the same store
unfoldable pub judge_text : Bytes → ℕ → JudgeAnswer → Bytes
judge_text store rows (Err r) = refused_text r
judge_text store rows (Ok n) = accepted_text n ++ collect (λ c. verdict_line c (verdict store c)) (counting rows 0 λ c. c)

-- the text by the answer of load, and those of the other calls on the store that load leaves
unfoldable pub load_text : Bytes → LoadAnswer → Bytes
load_text store (Err r) = refused_text r
load_text store (Ok c) = judge_text store c.rows (judge store)

-- judge accepts only where every row keeps its rule
no_row_fails : (d : Document) (n : ℕ) → judge_document d ≡ accepted n → failing_row d ≡ none
unfolding judge_document after10
no_row_fails d n e = go (failing_row d) (judge_claims d (failing_claim d (reaches d))) e
  where
    go : (o : Option ℕ) (x : Result ℕ) → ◌≡◌ {A = Result ℕ} (elim o [ some r ↦ refused (refusal FlowRuleFails (row_line r)) | none ↦ x ]) (accepted n) → o ≡ none
    go (some r) x h = let z : ◌≡◌ {A = ℕ} 0 1 = cc in absurd (omega arith)
    go none x h = refl

collect_same : (f g : ℕ → Bytes) (xs : List ℕ) → ((c : ℕ) → f c ≡ g c) → collect f xs ≡ collect g xs
unfolding collect
collect_same f g [] h = refl
collect_same f g (x ∷ xs) h = rw (h x, collect_same f g xs h)

module _ (store : Bytes) (d : Document) (holds : opened store ≡ accepted d) (n : ℕ) (judged : judge_document d ≡ accepted n) where
  -- the line of each row has the words that verdict gives
  pub channel_words : (c : ℕ) → channel_line d c ≡ verdict_line c (verdict store c)
  unfolding channel_line verdict_line status_line verdict and_then verdict_of verdict_given
  channel_words c = rw holds (either (chan_row d.rows c) (λ e. rw (e, verdict_of, given) refl) (λ e. rw (e, verdict_of) refl))
    where
      given : verdict_document d c ≡ accepted (map (word_holds d (reaches d) c) verdict_words)
      given = unfold verdict_document after10 in rw (no_row_fails d n judged, after10)

-- the report is what load, judge and verdict answer, with their numbers, lines, count and words
pub report_calls : (file store : Bytes) → store_size ≤ length store → report file ≡ load_text (load file store).bytes (load file store).answer
unfolding report load
report_calls file store long = rw (le-ltb (length store) store_size long, load) (from_check (check file) refl)
  where
    from_judge : (left : Bytes) (d : Document) → opened left ≡ accepted d → (x : Result ℕ) → judge_document d ≡ x → judged_text d x ≡ judge_text left (length d.rows) (judge_answered x)
    from_judge left d o (refused r) e = unfold judged_text judge_text judge_answered in refl
    from_judge left d o (accepted n) e =
        unfold judged_text judge_text judge_answered channel_lines in
        ap (λ (more : Bytes). accepted_text n ++ more) (collect_same (channel_line d) (λ c. verdict_line c (verdict left c)) (counting (length d.rows) 0 λ c. c) (channel_words left d o n e))

    from_check : (x : Result Document) → check file ≡ x → checked_text x ≡ load_text (loaded store x).bytes (loaded store x).answer
    from_check (refused r) e = unfold checked_text load_text loaded in refl
    from_check (accepted d) e =
        unfold checked_text load_text loaded refilled counts in
        let o = opened_loaded d ((check_iff file d).0 e).1 (drop store_size store) in
        rw (judge-opened (encode d ++ drop store_size store) d o) (from_judge (encode d ++ drop store_size store) d o (judge_document d) refl)
