-- A grid of bytes, one for each pair of rows: which byte tells of which pair, and what a grid shows of a relation between rows.
use Rattle.std.specs.Prelude.{ℕ, ◌+◌, ◌*◌, ◌<◌, ◌≤◌, Bool, false, ◌&&◌, ◌≡◌, ◌⊎◌, length, get_or, ltb, eqb}
use Rattle.std.proofs.Math.Bool.{So}
use Rattle.program.specs.Test.{pick}
use Rattle.program.specs.Closure.{closed}
use Rattle.format.specs.Limits.{row_limit}
use Rattle.format.specs.Text.{Bytes}

abbrev pub grid_size : ℕ
grid_size = row_limit * row_limit

-- byte j of row i of the grid
abbrev pub row_byte : Bytes → ℕ → ℕ → ℕ
row_byte grid i j = get_or grid (i * row_limit + j) 0

-- the byte of rows r and s: row s of the grid tells of which rows it is reached
abbrev pub pair_byte : Bytes → ℕ → ℕ → ℕ
pair_byte grid r s = row_byte grid s r

-- `left` is the grid with some bytes replaced: the length and what stands past the grid stay
pub record Kept (grid left : Bytes) : Type 0 where
  pub same_length : length left ≡ length grid
  pub past : (i : ℕ) → grid_size ≤ i → get_or left i 0 ≡ get_or grid i 0

-- every byte of the grid is given by the test: that of r and s is 1 if it holds of them, else 0
abbrev pub Shows : (ℕ → ℕ → Bool) → Bytes → Type 0
Shows f grid = (r s : ℕ) → r < row_limit → s < row_limit → pair_byte grid r s ≡ pick (f r s) 1 0

-- `left` is the grid filled so, whatever stood in it
pub record Fills (f : ℕ → ℕ → Bool) (grid left : Bytes) : Type 0 where
  pub kept : Kept grid left
  pub shows : Shows f left

-- the test, of the first n rows alone
unfoldable pub among : ℕ → (ℕ → ℕ → Bool) → ℕ → ℕ → Bool
among n f r s = ltb r n && (ltb s n && f r s)

-- the pair of rows a and b alone
unfoldable pub step : ℕ → ℕ → ℕ → ℕ → Bool
step a b r s = eqb r a && eqb s b

-- every byte is 0, or 1 where row s is reached from row r by steps of the first n rows that the test tells
abbrev pub Within : ℕ → (ℕ → ℕ → Bool) → Bytes → Type 0
Within n f grid = (r s : ℕ) → r < row_limit → s < row_limit → (pair_byte grid r s ≡ 0) ⊎ ((pair_byte grid r s ≡ 1) × So (closed n f r s))

-- the steps of the first n rows are marked
abbrev pub Marks : ℕ → (ℕ → ℕ → Bool) → Bytes → Type 0
Marks n f grid = (a b : ℕ) → a < n → b < n → So (f a b) → 0 < pair_byte grid a b

-- who reaches row a reaches row b, where there is a step from a to b
abbrev pub Onward : ℕ → (ℕ → ℕ → Bool) → Bytes → Type 0
Onward n f grid = (a b : ℕ) → a < n → b < n → So (f a b) → (r : ℕ) → r < n → 0 < pair_byte grid r a → 0 < pair_byte grid r b

-- The steps that the test tells, taken one after the other: each is marked, and who was marked to reach its beginning is marked to reach its end. `changed` is false
-- only where no byte was altered.
pub record Follows (n : ℕ) (f : ℕ → ℕ → Bool) (grid left : Bytes) (changed : Bool) : Type 0 where
  pub kept : Kept grid left
  pub within : (g : ℕ → ℕ → Bool) → ((a b : ℕ) → So (f a b) → So (g a b)) → Within n g grid → Within n g left
  pub grows : (i : ℕ) → get_or grid i 0 ≤ get_or left i 0
  pub marks : Marks n f left
  pub same : changed ≡ false → (i : ℕ) → get_or left i 0 ≡ get_or grid i 0
  pub onward : changed ≡ false → Onward n f left

-- a grid that shows a relation between the first n rows now shows its closure
pub record Closes (n : ℕ) (grid left : Bytes) : Type 0 where
  pub kept : Kept grid left
  pub closes : (f : ℕ → ℕ → Bool) → Shows (among n f) grid → Shows (closed n f) left
