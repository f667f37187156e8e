-- The rule of a form, for each row in its set apart.
use Rattle.std.specs.Prelude.{ℕ, ◌<◌, ◌&&◌}
use Rattle.program.specs.Maybe.{when}
use Rattle.program.specs.Test.{◌⇒◌}
use Rattle.program.specs.Program.{Program, pair_at, left_at, right_at, fun_at, result_name}
use Rattle.program.specs.Flow.{row, lies}
use Rattle.format.specs.Limits.{row_limit}
use Rattle.rule_adds.specs.declared.Ask.{Ask}
use Rattle.set_adds.specs.Adding.{Rule}
use Rattle.send_adds.specs.Sends.{send_row_rule}

module _ (p : Program) (n : ℕ) where
  -- what a form asks of row k in its set
  unfoldable pub ask_rule : Ask → ℕ → Rule
  ask_rule Ask.Send k flow comm = send_row_rule p n k flow comm
  ask_rule Ask.First k flow comm = when (pair_at p k) λ (x, y). lies p (flow x) (flow n)
  ask_rule Ask.Second k flow comm = when (pair_at p k) λ (x, y). lies p (flow y) (flow n)
  ask_rule (Ask.Case x l y r) k flow comm =
      when (left_at p k) (λ a. lies p (flow a) (flow x) && lies p (flow l) (flow n)) &&
      when (right_at p k) (λ a. lies p (flow a) (flow y) && lies p (flow r) (flow n))
  ask_rule (Ask.Apply a) k flow comm = when (fun_at p k) λ (g, x, t). lies p (flow a) (flow x) && lies p (flow (result_name p t)) (flow n)

  -- the same of row k, if it is in the set of name a
  unfoldable pub member_rule : Ask → ℕ → ℕ → Rule
  member_rule ask a k flow comm = flow a (row k) ⇒ ask_rule ask k flow comm

-- the names that an ask holds are below the limit
unfoldable pub AskLow : Ask → Type 0
AskLow Ask.Send = Unit {0}
AskLow Ask.First = Unit {0}
AskLow Ask.Second = Unit {0}
AskLow (Ask.Case x l y r) = (x < row_limit) × (l < row_limit) × (y < row_limit) × (r < row_limit)
AskLow (Ask.Apply a) = a < row_limit
