-- What threads, cells and frames stand for: states, environments, values and waiting returns of the run rules. Each cell carries an instance, which counts only where the cell makes a channel.
use Rattle.std.specs.Prelude.{ℕ, suc, List, [], ◌∷◌, length, eqb}
use Rattle.std.specs.Prelude.{Option, None as none, Some as some}
use Rattle.program.specs.Test.{pick}
use Rattle.program.specs.Maybe.{◌>>=◌}
use Rattle.program.specs.Run.{Instance, Value, unit, channel, closure, Env, empty, extend, Return, State}
use Rattle.machine.specs.declared.ThreadRecord.{ThreadRecord}
use Rattle.machine.specs.declared.Cell.{Cell}
use Rattle.machine.specs.declared.Frame.{Frame}
use Rattle.machine.specs.declared.Held.{Held}
use Rattle.machine.specs.declared.Held.TheVariants.{Channel, Closure}
use Rattle.machine.specs.declared.Kept.{Kept}
use Rattle.machine.specs.declared.Kept.TheVariants.{Makes, Keeps}
use Rattle.machine.specs.Machine.{Memory, thread_at}

-- a cell with its instance
pub record Marked : Type 0 where
  pub cell : Cell
  pub instance : Instance

abbrev pub cells : List Marked → List Cell
cells [] = []
cells (c ∷ cs) = c.cell ∷ cells cs

abbrev pub count : List Marked → ℕ
count cs = length (cells cs)

-- the instance of a cell that makes a channel
unfoldable pub made_by : Kept → Instance → Option Instance
made_by Makes i = some i
made_by (Keeps h) i = none

-- the instance that the cell of this number made
unfoldable pub own_at : List Marked → ℕ → Option Instance
own_at [] k = none
own_at (c ∷ cs) k = pick (eqb k (suc (count cs))) (made_by c.cell.kept c.instance) (own_at cs k)

-- a channel that no cell made, which never arises, would be unit
unfoldable pub channel_by : Option Instance → Value
channel_by none = unit
channel_by (some i) = channel i

-- a value, from the meaning of cells as environments and as channels
unfoldable pub value_by : (ℕ → Env) → (ℕ → Option Instance) → Held → Value
value_by env own Held.Unit = unit
value_by env own (Channel k) = channel_by (own k)
value_by env own (Closure r k) = closure r (env k)

unfoldable pub kept_by : (ℕ → Env) → (ℕ → Option Instance) → Instance → Kept → Value
kept_by env own i Makes = channel i
kept_by env own i (Keeps h) = value_by env own h

-- the environment whose newest cell has this number
unfoldable pub env_at : List Marked → ℕ → Env
env_at [] k = empty
env_at (c ∷ cs) k =
    pick (eqb k (suc (count cs))) (extend (env_at cs c.cell.older) c.cell.name (kept_by (env_at cs) (own_at cs) c.instance c.cell.kept)) (env_at cs k)

unfoldable pub value_of : List Marked → Held → Value
value_of cs h = value_by (env_at cs) (own_at cs) h

-- the returns whose last has this frame
unfoldable pub returns_at : List Marked → List Frame → ℕ → List Return
returns_at cs [] k = []
returns_at cs (f ∷ fs) k =
    pick (eqb k (suc (length fs))) (record { name = f.name; rest = f.rest; env = env_at cs f.cell } ∷ returns_at cs fs f.older) (returns_at cs fs k)

-- the state of a thread
unfoldable pub state_in : List Marked → List Frame → ThreadRecord → State
state_in cs fs t = record { row = t.row; env = env_at cs t.cell; returns = returns_at cs fs t.frame }

-- memory with its instances
pub record Marks : Type 0 where
  pub cells : List Marked
  pub frames : List Frame

abbrev pub memory_of : Marks → Memory
memory_of g = record { cells = cells g.cells; frames = g.frames }

-- the states of the threads
unfoldable pub states : Marks → List ThreadRecord → ℕ → Option State
states g ts n = thread_at ts n >>= λ t. some (state_in g.cells g.frames t)
