-- Verdict and write on the stores that load leaves of example A and its variants, and what the program prints of them.
use Prim.Native.Nat.{ℕ, pred}
use mathlib.Core.List.{[], ◌∷◌, ◌++◌, map}
use mathlib.Core.Path.{◌≡◌, refl}
use lib.ListN.{replicate, set}
use Rattle.format.specs.Refusals
use Rattle.format.specs.Text
use Rattle.format.specs.Print
use Rattle.calls.specs.declared.VerdictAnswer.{VerdictAnswer}
use Rattle.calls.specs.Layout
use Rattle.calls.specs.Answers
use Rattle.calls.specs.Answers.{Answer, turned_back, answered}
use Rattle.calls.specs.Judging
use Rattle.calls.specs.Calls
use Rattle.report.specs.Report
use Rattle.example_files.proofs.Files.{file, lines_a, variant, tried}

-- what a verdict says: number and line, or the words as 0 and 1
words : VerdictAnswer → Answer
unfolding Answers.verdict_answer Answers.status_answer Answers.yes_or_no Answers.refusal_answer Refusals.number
words v = Answers.verdict_answer v

-- on the store that load leaves of A without flow 4: 24 on row 0, and 10 at line 6 on row 1
without_flow4 : Answer × Answer
unfolding tried variant words Calls.verdict Calls.verdict_of Calls.verdict_given Judging.verdict_document
without_flow4 = let store = (Calls.load (variant 15 []) (replicate Layout.store_size 7)).bytes in (words (Calls.verdict store 0), words (Calls.verdict store 1))

number_first : without_flow4 ≡ (turned_back 24 0, turned_back 10 6)
unfolding without_flow4
number_first = refl

-- on the store that load leaves of A: the verdict on row 1; 24 on row 0; writing into as many bytes as A has, and one more; 23 into one less; 20 on a store of one byte; 22 with a kind that no row has
record OnA : Type 0 where
  channel1 : Answer
  row0 : Answer
  written : Answer
  bytes : Text.Bytes
  short : Answer
  unaltered : Text.Bytes
  cut : Answer
  damaged : Answer

on_a : ℕ → OnA
unfolding tried variant words Calls.verdict Calls.verdict_of Calls.verdict_given Judging.verdict_document Calls.write Calls.written Answers.write_answer
    Print.document_text Print.line_text Print.row_text Print.form_text Print.form_word Print.set_text Print.members_text Print.member_text Print.word_text Text.digits Text.place Text.argument Text.arguments
on_a size =
    let store = (Calls.load (file lines_a) (replicate Layout.store_size 7)).bytes in
    let w = Calls.write store (replicate size 7 ++ (9 ∷ [])) in
    let s = Calls.write store (replicate (pred size) 7) in
    record {
      channel1 = words (Calls.verdict store 1);
      row0 = words (Calls.verdict store 0);
      written = Answers.write_answer w.answer;
      bytes = w.bytes;
      short = Answers.write_answer s.answer;
      unaltered = s.bytes;
      cut = Answers.judge_answer (Calls.judge (7 ∷ []));
      damaged = Answers.judge_answer (Calls.judge (set store 0 16));
    }

-- A has 370 bytes
calls : on_a 370 ≡ record {
  channel1 = answered (1 ∷ 1 ∷ 1 ∷ 1 ∷ 1 ∷ []);
  row0 = turned_back 24 0;
  written = answered (370 ∷ []);
  bytes = file lines_a ++ (9 ∷ []);
  short = turned_back 23 0;
  unaltered = replicate 369 7;
  cut = turned_back 20 0;
  damaged = turned_back 22 0;
}
unfolding on_a
calls = refl

-- what the program prints of a file
printed : Text.Bytes → Text.Bytes
unfolding tried variant Report.report Report.checked_text Report.judged_text Report.channel_lines Report.channel_line Report.channel_text Report.words_text Report.more_words_text
    Report.yes_no_text Report.accepted_text Report.refused_text Text.digits Text.place Text.argument
printed text = Report.report text

-- of A, and of A without flow 4
listings : map printed (file lines_a ∷ variant 15 [] ∷ [])
    ≡ (file ("[accepted 1]" ∷ "[channel 1 [yes yes yes yes yes]]" ∷ []) ∷ file ("[refused 10 6]" ∷ []) ∷ [])
unfolding printed
listings = refl
