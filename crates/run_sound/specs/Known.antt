-- What the tests of one cell, frame and thread know of the program and of what is in use.
use Rattle.std.specs.Prelude.{ℕ, Bool, ◌&&◌, ◌≡◌, length, leb}
use Rattle.program.specs.Program.{Program}
use Rattle.format.specs.Text.{Bytes}
use Rattle.machine.specs.declared.Cell.{Cell}
use Rattle.machine.specs.Machine.{Memory, name_there, sound_kept}
use Rattle.run_memory.specs.declared.InUse.{InUse}
use Rattle.seen.specs.Flags.{Tells}

-- how many rows a program has, and the marks of the names that it binds
pub record Known (count : ℕ) (marks : Bytes) (p : Program) : Type 0 where
  pub rows : length p ≡ count
  pub names : Tells (name_there p) marks

-- how many cells and frames are in use
pub record Counted (n : InUse) (m : Memory) : Type 0 where
  pub cells : length m.cells ≡ n.cells
  pub frames : length m.frames ≡ n.frames

-- one cell, where so many are older
unfoldable pub sound_cell : Program → ℕ → Cell → Bool
sound_cell p older c = name_there p c.name && leb c.older older && sound_kept p older c.kept
