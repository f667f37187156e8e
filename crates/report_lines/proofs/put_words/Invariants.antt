-- The loop's invariant: of the text, the words not yet written are left, behind the byte `before`.
use lib.ListN.{drop}
use Rattle.report.specs.Report.{words_text}
use Rattle.write_bytes.proofs.Progress.{Progress}
use Rattle.report_lines.proofs.Parts.{words_left}
use Rattle.report_lines.proofs.put_words.Given as goal

abbrev pub invariant-loop-word : goal.invariant-loop-word
invariant-loop-word l = Progress l.initial.out l.at (words_text l.fn.words) l.out l.next (words_left l.before (drop l.word-index l.word-items))
