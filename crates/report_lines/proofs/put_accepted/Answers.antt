-- The three writes, one after the other, are the three parts of the line.
use Rattle.format.specs.Text.{ascii}
use Rattle.write_bytes.proofs.Writing.{then}
use Rattle.report.specs.Report.{accepted_text}
use Rattle.report_lines.proofs.put_accepted.Goals as goal

pub returns : goal.returns
unfolding accepted_text ascii
returns c =
    then c.put_word-p.ensures (then c.put_argument-q.ensures c.put_word.ensures)
