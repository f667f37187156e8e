-- The row steps by the rows that give them. A law says that together they are `Walk.edge`.
use Rattle.std.specs.Prelude.{ℕ, Bool, false, ◌&&◌, ◌||◌, length}
use Rattle.program.specs.Test.{any}
use Rattle.program.specs.Program.{Program, left_at, right_at, result_row}
use Rattle.program.specs.Flow.{Table, row}
use Rattle.program.specs.Walk.{enters}
use Rattle.grids.specs.Grid.{step}
use Rattle.row_kinds.specs.declared.Kind.{Kind}
use Rattle.row_kinds.specs.declared.Kind.TheVariants.{End, Next, Body, Fork, Branch, Call}
use Rattle.row_kinds.specs.Kinds.{kind_at}
use Rattle.step_marks.specs.Marks.{call_steps, from_both}

module _ (p : Program) where
  -- the call of a row of this kind, if that is a fun row: of its body
  unfoldable pub kind_called : ℕ → ℕ → Kind → ℕ → ℕ → Bool
  kind_called q rest End r s = false
  kind_called q rest (Next rest') r s = false
  kind_called q rest (Body t rest') r s = call_steps q rest t (result_row p t) r s
  kind_called q rest (Fork t rest') r s = false
  kind_called q rest (Branch k t w rest') r s = false
  kind_called q rest (Call f rest') r s = false

  module _ (flow : Table) where
    -- the call of row k, if that is a fun row in the set of name f
    unfoldable pub body_steps : ℕ → ℕ → ℕ → ℕ → ℕ → ℕ → Bool
    body_steps q rest f k r s = flow f (row k) && kind_called q rest (kind_at p k) r s

    -- the same of a row below n
    unfoldable pub any_body : ℕ → ℕ → ℕ → ℕ → ℕ → ℕ → Bool
    any_body q rest f n r s = any n λ k. body_steps q rest f k r s

    -- into the branches t and w of case row q with the subject k, by the sides that are entered
    unfoldable pub entering : ℕ → ℕ → ℕ → ℕ → ℕ → ℕ → Bool
    entering k q t w r s = (enters p flow k (left_at p) && step q t r s) || (enters p flow k (right_at p) && step q w r s)

    -- what a row q of this kind gives
    unfoldable pub kind_steps : ℕ → Kind → ℕ → ℕ → Bool
    kind_steps q End r s = false
    kind_steps q (Next rest) r s = step q rest r s
    kind_steps q (Body t rest) r s = step q rest r s
    kind_steps q (Fork t rest) r s = step q rest r s || step q t r s
    kind_steps q (Branch k t w rest) r s = entering k q t w r s || from_both rest (result_row p t) (result_row p w) r s
    kind_steps q (Call f rest) r s = any_body q rest f (length p) r s

    unfoldable pub row_steps : ℕ → ℕ → ℕ → Bool
    row_steps q r s = kind_steps q (kind_at p q) r s

    -- what the rows below n give
    unfoldable pub any_row : ℕ → ℕ → ℕ → Bool
    any_row n r s = any n λ q. row_steps q r s
