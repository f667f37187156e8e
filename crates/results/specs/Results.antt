-- The result rows that are reached from the rows of a program, as bytes.
use Rattle.std.specs.Prelude.{ℕ, ◌<◌, ◌≤◌, Bool, ◌&&◌, ◌≡◌, length, ltb}
use Rattle.std.proofs.Math.Bool.{So}
use Rattle.program.specs.Maybe.{when}
use Rattle.program.specs.Program.{Program, bind_at, result_row}
use Rattle.format.specs.Text.{Bytes, byte_at}

-- the rest of row r, where it has one, is a greater row of the program
unfoldable pub rest_rises : Program → ℕ → Bool
rest_rises p r = when (bind_at p r) λ b. ltb r b.rest && ltb b.rest (length p)

-- the same of the first n rows
unfoldable pub Rising : Program → ℕ → Type 0
Rising p n = (r : ℕ) → r < n → So (rest_rises p r)

-- the bytes are the result rows of the rows from one on, below n
pub record ResultsFrom (p : Program) (from n : ℕ) (results : Bytes) : Type 0 where
  pub at : (t : ℕ) → from ≤ t → t < n → byte_at results t ≡ result_row p t

-- of all n rows
abbrev pub ResultRows : Program → ℕ → Bytes → Type 0
ResultRows p = ResultsFrom p 0
