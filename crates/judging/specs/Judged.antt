-- What judging a store answers and leaves.
use Rattle.std.specs.Prelude.{Ok}
use Rattle.std.specs.Prelude.{ℕ, ◌≡◌}
use Rattle.program.specs.Verdict.{reach}
use Rattle.format.specs.Text.{Bytes}
use Rattle.calls.specs.Answers.{JudgeAnswer}
use Rattle.calls.specs.Layout.{decode}
use Rattle.calls.specs.Judging.{judge_document}
use Rattle.calls.specs.Calls.{judge_answered}
use Rattle.store.specs.Rows.{store_program}
use Rattle.tables.specs.Tables.{store_flow}
use Rattle.grids.specs.Grid.{Shows}

-- the answer is that of the store's document; where it is accepted, the grid shows which rows reach which
pub record Judged (n : ℕ) (s : Bytes) (answer : JudgeAnswer) (grid : Bytes) : Type 0 where
  pub answer_is : answer ≡ judge_answered (judge_document (decode s))
  pub grid_shows : (k : ℕ) → answer ≡ Ok k → Shows (reach (store_program n s) (store_flow s)) grid
