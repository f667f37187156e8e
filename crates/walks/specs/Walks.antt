-- What walks come to, told by the bytes of a grid and of sets of rows.
use Rattle.std.specs.Prelude.{ℕ, ◌+◌, ◌*◌, ◌<◌, max, Bool, ◌&&◌, ◌||◌, ◌≡◌, length, get_or, ltb, eqb}
use Rattle.program.specs.Test.{any}
use Rattle.program.specs.Maybe.{has}
use Rattle.program.specs.Program.{Program, fork_at}
use Rattle.format.specs.Limits.{row_limit}
use Rattle.format.specs.Text.{Bytes}
use Rattle.row_marks.specs.RowMarks.{on}

-- a walk comes to row r
unfoldable pub comes_to : Bytes → ℕ → Bool
comes_to grid r = eqb r 0 || on grid (r * row_limit)

-- from row r one of the places is reached by one or more row steps
unfoldable pub ahead_of : ℕ → Bytes → Bytes → ℕ → Bool
ahead_of n grid places r = any n λ i. on places i && on grid (i * row_limit + r)

-- a row of the grid, which begins at a position, joined into the first n marks
pub record JoinsMarks (n : ℕ) (grid : Bytes) (at : ℕ) (marks left : Bytes) : Type 0 where
  pub same_length : length left ≡ length marks
  pub joined : (j : ℕ) → j < n → get_or left j 0 ≡ max (get_or marks j 0) (get_or grid (at + j) 0)

-- row r is there, and is a place or has one ahead
unfoldable pub leads_on : ℕ → Bytes → Bytes → ℕ → Bool
leads_on n places ahead r = ltb r n && (on places r || on ahead r)

module _ (n : ℕ) (p : Program) where
  -- row q is a spawn row whose spawned row and whose rest both lead to places
  unfoldable pub forks_on : Bytes → Bytes → ℕ → Bool
  forks_on places ahead q = has (fork_at p q) λ (t, rest). leads_on n places ahead t && leads_on n places ahead rest

  unfoldable pub rivals_on : Bytes → Bytes → Bytes → Bool
  rivals_on reached places ahead = any n λ q. on reached q && forks_on places ahead q
