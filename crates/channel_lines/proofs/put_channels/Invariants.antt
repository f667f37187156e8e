-- The loop's invariant: of the text, the lines of the rows from `row` on are left.
use Rattle.program.specs.Each.{collect}
use Rattle.calls.specs.Layout.{decode}
use Rattle.report.specs.Report.{channel_line, channel_lines}
use Rattle.write_bytes.proofs.Progress.{Progress}
use Rattle.channel_lines.proofs.Rows.{rows_from}
use Rattle.channel_lines.proofs.put_channels.Given as goal

abbrev pub invariant-loop-row : goal.invariant-loop-row
invariant-loop-row l =
    Progress l.initial.out l.at (channel_lines (decode l.store)) l.out l.next (collect (channel_line (decode l.store)) (rows_from l.rows l.row))
