-- The four writes, one after the other, are the four parts of the line.
use Rattle.format.specs.Text.{ascii}
use Rattle.write_bytes.proofs.Writing.{then}
use Rattle.report.specs.Report.{refused_text}
use Rattle.report_lines.proofs.Parts.{same_argument}
use Rattle.report_lines.proofs.put_refused.Goals as goal

pub returns : goal.returns
unfolding refused_text ascii
returns c =
    then c.put_word-p.ensures (then (same_argument c.number-code.ensures c.put_argument-q.ensures)
    (then c.put_argument-r.ensures c.put_word.ensures))
