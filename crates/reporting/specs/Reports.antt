-- What writing the report of a file leaves.
use Rattle.std.specs.Prelude.{ℕ, ◌≡◌}
use Rattle.format.specs.Text.{Bytes}
use Rattle.calls.specs.Calls.{load}
use Rattle.report.specs.Report.{report}
use Rattle.write_bytes.specs.Write.{Wrote}

-- the report is written at the head of out, and the store is as load leaves it
pub record FileReported (file store out : Bytes) (next : ℕ) (stored left : Bytes) : Type 0 where
  pub loaded : stored ≡ (load file store).bytes
  pub wrote : Wrote out 0 (report file) next left
