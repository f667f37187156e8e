-- What a thread's move does, as the enum of the code has it.
use Rattle.std.specs.Prelude.{ℕ, List, [], ◌∷◌}
use Rattle.std.specs.Prelude.{Option, None as none, Some as some}
use Rattle.program.specs.declared.Bind.{Bind}
use Rattle.program.specs.Maybe.{◌>>=◌}
use Rattle.program.specs.Program.{Program, pair_at}
use Rattle.machine.specs.declared.ThreadRecord.{ThreadRecord}
use Rattle.machine.specs.declared.Cell.{Cell}
use Rattle.machine.specs.declared.Frame.{Frame}
use Rattle.machine.specs.declared.Kept.TheVariants.{Keeps}
use Rattle.machine.specs.Machine.{Memory, Change, bound, find, find_closure, go_on, go_into}
use Rattle.thread_changes.specs.declared.ThreadChange.{ThreadChange}

abbrev pub change_of : List Cell → List Frame → ThreadRecord → List ThreadRecord → Change
change_of cells frames thread born = record { cells = cells; frames = frames; thread = thread; born = born }

abbrev pub change_by : ThreadChange → Change
change_by (ThreadChange.Binds cell thread) = change_of (cell ∷ []) [] thread []
change_by (ThreadChange.Spawns cell thread born) = change_of (cell ∷ []) [] thread (born ∷ [])
change_by (ThreadChange.Enters cell frame thread) = change_of (cell ∷ []) (frame ∷ []) thread []
change_by (ThreadChange.Applies parameter own frame thread) = change_of (parameter ∷ own ∷ []) (frame ∷ []) thread []

abbrev pub change_in : Option ThreadChange → Option Change
change_in none = none
change_in (some x) = some (change_by x)

-- the pair that a name has, with its environment
unfoldable pub pair_of_name : Program → Memory → ThreadRecord → ℕ → Option (ℕ × ℕ × ℕ)
pair_of_name p m t a = do
  (r, k) ← find_closure m.cells t.cell a
  (x, y) ← pair_at p r
  some (x, y, k)

-- a rule that goes on with the value of a name, found from a cell on: to the rest, and into a branch, where another name gets it
module _ (m : Memory) (t : ThreadRecord) (b : Bind) where
  unfoldable pub goes_on_with : ℕ → ℕ → Option Change
  goes_on_with from x = find m.cells from x >>= λ v. some (go_on m t b (Keeps v))

  unfoldable pub enters_with : ℕ → ℕ → ℕ → ℕ → Option Change
  enters_with row name from x = find m.cells from x >>= λ v. some (go_into m t b row (bound name t.cell (Keeps v) ∷ []))
