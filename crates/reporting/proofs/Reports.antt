-- The report of a store and of a file: which text it is, that its numbers have two bytes, and that it has room.
use Rattle.std.specs.Prelude.{Ok, Err}
use Prim.Native.Nat.{ℕ, ◌+◌, ◌≤◌, ◌<◌}
use native.Mathlib.Omega.{arith}
use mathlib.Core.List.{[], ◌∷◌, ◌++◌}
use mathlib.Core.Path.{◌≡◌, refl, sym, ap, ◌∙◌}
use lib.ListN.{length, take, drop}
use borrow.Author.Tests.{lt-ltb, le-ltb}
use Rattle.program.specs.Each.{nil, ◌&◌}
use Rattle.format.specs.declared.Reason.TheVariants.{StoreTooShort, OutputTooShort}
use Rattle.format.specs.declared.Refusal.{Refusal}
use Rattle.format.specs.Limits.{row_limit, byte_limit}
use Rattle.format.specs.Text.{Bytes}
use Rattle.format.specs.Refusals.{number, refusal, Result, refused, accepted}
use Rattle.format.specs.Document.{Document}
use Rattle.format.proofs.Files.{check_iff}
use Rattle.calls.specs.declared.Counts.{Counts}
use Rattle.calls.specs.Answers.{JudgeAnswer, turned_back, answered, refusal_answer, load_answer, judge_answer}
use Rattle.calls.specs.Layout.{store_size, decode}
use Rattle.calls.specs.Judging.{judge_document}
use Rattle.calls.specs.Calls.{opened, load, judge_answered, judge}
use Rattle.report.specs.Report.{refused_text, accepted_text, channel_lines, judged_text, checked_text, report, report_limit, LeavesReport, reported}
use Rattle.bounds.proofs.Bounds.{Within, line_within, values_within, OpensTo, not_opened, decoded, opens_to, last_line, load_within, judge_within}
use Rattle.calls.proofs.Calls.{loaded_is, opened_loaded, judge-opened}
use Rattle.report.proofs.Report.{load_text, refused_short, judged_short, report_short, report_calls}
use Rattle.write_bytes.specs.Write.{Room, Wrote}
use Rattle.write_bytes.proofs.Progress.{at_head}
use Rattle.opening.specs.Opening.{OpenedIs}
use Rattle.opening.proofs.Opening.{refused_is, opens_is, counted}
use Rattle.judging.proofs.Documents.{few_rows}
use Rattle.channel_lines.proofs.Rows.{row_count}

-- ---- numbers

line_small : {value : ℕ} (most n l : ℕ) → Within most value (turned_back n l) → l ≤ most
line_small most n l (line_within h) = h

value_small : {line : ℕ} (most n : ℕ) → Within line most (answered (n ∷ [])) → n ≤ most
value_small most n (values_within (h & nil)) = h

abbrev line_in : Result Document → ℕ
line_in (refused r) = r.line
line_in (accepted d) = 0

-- ---- rooms

pub refused_room : {out : Bytes} → report_limit ≤ length out → (r : Refusal) → Room out 0 (refused_text r)
refused_room l r = record { room = omega (arith, refused_short r) }

accepted_room : {out : Bytes} → report_limit ≤ length out → (d : Document) → length d.rows ≤ row_limit → (n : ℕ) → Room out 0 (accepted_text n ++ channel_lines d)
unfolding judged_text
accepted_room l d few n = record { room = omega (arith, judged_short d few (accepted n)) }

-- ---- a store, by what opening it answers

module _ (store : Bytes) where
  abbrev fixed : Bytes
  fixed = take store_size store

  module _ (r : Refusal) (h : OpenedIs (opened store) fixed (Err r)) where
    closed : opened store ≡ refused r
    closed = refused_is fixed (opened store) r h

    pub closed_line : r.line < 65536
    closed_line = go (opened store) (opens_to store) closed
      where
        go : (x : Result Document) → OpensTo store x → x ≡ refused r → r.line < 65536
        go (refused q) not_opened e = let k : r.line ≡ 0 = ap line_in (sym e) in omega arith
        go (accepted d) (decoded p) e = let z : ◌≡◌ {A = ℕ} 0 1 = cc in absurd (omega arith)

    pub closed_text : checked_text (opened store) ≡ refused_text r
    unfolding checked_text
    closed_text = rw closed

  module _ (n : ℕ) (h : OpenedIs (opened store) fixed (Ok n)) where
    few : length (decode fixed).rows ≤ row_limit
    few = let e = counted store n h in omega (arith, row_count n fixed e, few_rows n fixed e)

    pub opened_room : {out : Bytes} → report_limit ≤ length out → (k : ℕ) → Room out 0 (accepted_text k ++ channel_lines (decode fixed))
    opened_room l k = accepted_room l (decode fixed) few k

    document : opened store ≡ accepted (decode fixed)
    document = (opens_is fixed (opened store) n h).0

    module _ {a : JudgeAnswer} (e : a ≡ judge_answered (judge_document (decode fixed))) where
      pub judged_line : (r : Refusal) → a ≡ Err r → r.line < 65536
      unfolding judge_answer refusal_answer
      judged_line r t =
          let q : judge store ≡ Err r = judge-opened store (decode fixed) document ∙ sym e ∙ t in
          omega (arith, line_small last_line (number r.reason) r.line (rw q at (judge_within store)))

      pub judged_count : (k : ℕ) → a ≡ Ok k → k < 65536
      unfolding judge_answer
      judged_count k t =
          let q : judge store ≡ Ok k = judge-opened store (decode fixed) document ∙ sym e ∙ t in
          omega (arith, value_small row_limit k (rw q at (judge_within store)))

      pub judged_refused : (r : Refusal) → a ≡ Err r → checked_text (opened store) ≡ refused_text r
      unfolding checked_text judged_text judge_answered
      judged_refused r t = rw document (go (judge_document (decode fixed)) (sym e ∙ t))
        where
          go : (x : Result ℕ) → judge_answered x ≡ Err r → judged_text (decode fixed) x ≡ refused_text r
          go (refused q) u = let k : q ≡ r = cc in rw k
          go (accepted m) u = let z : ◌≡◌ {A = ℕ} 0 1 = cc in absurd (omega arith)

      pub judged_accepted : (k : ℕ) → a ≡ Ok k → checked_text (opened store) ≡ accepted_text k ++ channel_lines (decode fixed)
      unfolding checked_text judged_text judge_answered
      judged_accepted k t = rw document (go (judge_document (decode fixed)) (sym e ∙ t))
        where
          go : (x : Result ℕ) → judge_answered x ≡ Ok k → judged_text (decode fixed) x ≡ accepted_text k ++ channel_lines (decode fixed)
          go (refused q) u = let z : ◌≡◌ {A = ℕ} 0 1 = cc in absurd (omega arith)
          go (accepted m) u = let same : m ≡ k = cc in rw same

-- ---- a file

module _ (file store : Bytes) where
  pub load_line : (r : Refusal) → Err r ≡ (load file store).answer → r.line < 65536
  unfolding load_answer refusal_answer
  load_line r e = omega (arith, line_small (byte_limit + 2) (number r.reason) r.line (rw (← e) at (load_within file store)))

  pub refused_report : (r : Refusal) → store_size ≤ length store → Err r ≡ (load file store).answer → report file ≡ refused_text r
  unfolding load_text
  refused_report r long e = report_calls file store long ∙ rw (← e)

  pub loaded_report : (c : Counts) → Ok c ≡ (load file store).answer → {stored : Bytes} → stored ≡ (load file store).bytes → report file ≡ checked_text (opened stored)
  unfolding report
  loaded_report c e t =
      let (d, q, w, s, k, m) = loaded_is file store c (sym e) in
      ap checked_text ((check_iff file d).1 (q, w, s) ∙ sym (ap opened (t ∙ m) ∙ opened_loaded d w (drop store_size store)))

  -- ---- the call

  module _ (out : Bytes) where
    pub store_short : length store < store_size → LeavesReport (reported file store out) (Err (refusal StoreTooShort 0)) store out
    unfolding reported
    store_short h = rw (lt-ltb (length store) store_size h, reported) (record { answer_is = refl; store_is = refl; out_is = refl })

    pub out_short : store_size ≤ length store → length out < report_limit → LeavesReport (reported file store out) (Err (refusal OutputTooShort 0)) store out
    unfolding reported
    out_short l h = rw (le-ltb (length store) store_size l, lt-ltb (length out) report_limit h, reported) (record { answer_is = refl; store_is = refl; out_is = refl })

    pub report_written : store_size ≤ length store → report_limit ≤ length out → {next : ℕ} {stored left : Bytes} → stored ≡ (load file store).bytes → Wrote out 0 (report file) next left
        → LeavesReport (reported file store out) (Ok next) stored left
    unfolding reported
    report_written l h {next} s w =
        let n : next ≡ length (report file) = omega (arith, w.next_is) in
        let fits : length (report file) ≤ length out = omega (arith, report_short file) in
        rw (le-ltb (length store) store_size l, le-ltb (length out) report_limit h, reported)
        (record { answer_is = ap Ok n; store_is = s; out_is = at_head w fits })
