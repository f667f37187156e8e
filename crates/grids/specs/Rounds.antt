-- A round of Warshall's over a grid of bytes, row by row. All of it speaks of the first n rows.
use Rattle.std.specs.Prelude.{ℕ, ◌+◌, ◌*◌, ◌<◌, ◌≤◌, max, Bool, false, ◌≡◌, get_or, eqb}
use Rattle.program.specs.Test.{pick}
use Rattle.format.specs.Limits.{row_limit}
use Rattle.format.specs.Text.{Bytes}
use Rattle.grids.specs.Grid.{row_byte}

-- row k of the grid
pub record RowIs (n : ℕ) (grid : Bytes) (k : ℕ) (row : Bytes) : Type 0 where
  pub bytes : (j : ℕ) → j < n → get_or row j 0 ≡ row_byte grid k j

-- no byte is altered but those of row i
pub record RowOnly (n : ℕ) (grid : Bytes) (i : ℕ) (left : Bytes) : Type 0 where
  pub below : (q : ℕ) → q < i * row_limit → get_or left q 0 ≡ get_or grid q 0
  pub above : (q : ℕ) → i * row_limit + n ≤ q → get_or left q 0 ≡ get_or grid q 0

-- the row `way` joined into row i
pub record RowJoined (n : ℕ) (grid : Bytes) (i : ℕ) (way left : Bytes) : Type 0 where
  pub only : RowOnly n grid i left
  pub row : (j : ℕ) → j < n → row_byte left i j ≡ max (row_byte grid i j) (get_or way j 0)

-- the same, with what changed: false only where no byte was altered
pub record RowChanged (n : ℕ) (grid : Bytes) (i : ℕ) (way left : Bytes) (changed : Bool) : Type 0 where
  pub joined : RowJoined n grid i way left
  pub same : changed ≡ false → (q : ℕ) → get_or left q 0 ≡ get_or grid q 0

-- a byte of a row that takes over another row's byte where the byte `via` is not 0
unfoldable pub passed : ℕ → ℕ → ℕ → ℕ
passed via own way = pick (eqb via 0) own (max own way)

-- row i, with the row `way` joined into it if it reaches row k
pub record RowPassed (n : ℕ) (grid : Bytes) (i k : ℕ) (way left : Bytes) : Type 0 where
  pub only : RowOnly n grid i left
  pub row : (j : ℕ) → j < n → row_byte left i j ≡ passed (row_byte grid i k) (row_byte grid i j) (get_or way j 0)

-- the same of every row, with row k; nothing beside or past the first n rows is altered
pub record AllPassed (n : ℕ) (grid : Bytes) (k : ℕ) (left : Bytes) : Type 0 where
  pub in_grid : (i j : ℕ) → i < n → j < n → row_byte left i j ≡ passed (row_byte grid i k) (row_byte grid i j) (row_byte grid k j)
  pub beside : (i j : ℕ) → i < n → n ≤ j → j < row_limit → row_byte left i j ≡ row_byte grid i j
  pub past : (q : ℕ) → n * row_limit ≤ q → get_or left q 0 ≡ get_or grid q 0
