-- The row steps that belong together: of a call, and of a case's branches.
use Rattle.std.specs.Prelude.{ℕ, Bool, ◌||◌}
use Rattle.grids.specs.Grid.{step}

-- a call of row t from row q: to t, and from t's result row to q's rest
unfoldable pub call_steps : ℕ → ℕ → ℕ → ℕ → ℕ → ℕ → Bool
call_steps q rest t result r s = step q t r s || step result rest r s

-- into the two branches t and w of case row q, and from their result rows to its rest
unfoldable pub into_both : ℕ → ℕ → ℕ → ℕ → ℕ → Bool
into_both q t w r s = step q t r s || step q w r s

unfoldable pub from_both : ℕ → ℕ → ℕ → ℕ → ℕ → Bool
from_both rest x y r s = step x rest r s || step y rest r s
