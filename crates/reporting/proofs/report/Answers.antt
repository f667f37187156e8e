-- 20, then 23, then the report, which fits.
use Rattle.reporting.proofs.Reports.{store_short, out_short, report_written}
use Rattle.reporting.proofs.report.Goals as goal

pub returns-then-store-lt-SIZE : goal.returns-then-store-lt-SIZE
returns-then-store-lt-SIZE c = rw c.at.ensures (store_short _ _ _ c.if-store-lt-SIZE.true)

pub returns-then-out-lt-REPORT_BYTES : goal.returns-then-out-lt-REPORT_BYTES
returns-then-out-lt-REPORT_BYTES c =
    rw c.at-then-out-lt-REPORT_BYTES.ensures (out_short _ _ _ c.if-store-lt-SIZE.false c.if-out-lt-REPORT_BYTES.true)

pub returns : goal.returns
returns c =
    report_written _ _ _ c.if-store-lt-SIZE.false c.if-out-lt-REPORT_BYTES.false c.put_file-length.ensures.loaded c.put_file-length.ensures.wrote
