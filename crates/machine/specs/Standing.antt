-- "a run ends in a state that stands for the pool that the steps of its accepted moves leave, thread for leaf, instance for instance": what this says, and what a move answers.
use Rattle.std.specs.Prelude.{ℕ, true, false, List, [], ◌∷◌, ◌++◌, ◌≡◌}
use Rattle.std.specs.Prelude.{Option, None as none, Some as some}
use Rattle.program.specs.Program.{Program}
use Rattle.program.specs.Run.{Path, Instance, State, Thread, Pool, Step, own, meet, leaf_state, added, start_pool, run}
use Rattle.program.specs.Snoc.{ε}
use Rattle.machine.specs.declared.ThreadRecord.{ThreadRecord}
use Rattle.machine.specs.Machine.{Machine, thread_at, Order, alone, together, begin, Answer, refused, accepted, answer, watched, taken_in, fits}
use Rattle.machine.specs.Meaning.{Marks, memory_of, own_at, states}

-- the threads by their numbers, the leaves by their paths, and the path of each number
pub record Lined (threads : ℕ → Option State) (leaves : Path → Option State) (path : ℕ → Path) : Type 0 where
  pub each : (n : ℕ) (s : State) → threads n ≡ some s → leaves (path n) ≡ some s
  pub once : (n k : ℕ) (s r : State) → threads n ≡ some s → threads k ≡ some r → path n ≡ path k → n ≡ k
  pub whole : (x : Path) (s : State) → leaves x ≡ some s → (n : ℕ) × (threads n ≡ some s) × (path n ≡ x)

-- the machine stands for a pool, where its cells have these instances and its threads these paths
pub record StandsFor (m : Machine) (pool : Pool) (path : ℕ → Path) : Type 0 where
  -- an instance for each cell that made a channel
  pub marks : Marks
  pub memory_is : m.memory ≡ memory_of marks
  -- thread for leaf: each thread has the state of the leaf on its path, no two are on one path, and every leaf has a thread
  pub threads_are : Lined (states marks m.threads) (leaf_state pool) path
  -- instance for instance: no two cells made the same
  pub instances_are : (j k : ℕ) (i : Instance) → own_at marks.cells j ≡ some i → own_at marks.cells k ≡ some i → j ≡ k

-- thread 0 is on the empty path
unfoldable pub first_path : ℕ → Path
first_path n = ε

-- the step of a move, by the paths of its threads
unfoldable pub step_of : (ℕ → Path) → Order → Step
step_of path (alone n) = own (path n)
step_of path (together sender receiver) = meet (path sender) (path receiver)

-- the threads that a move names are there
abbrev pub Names : Machine → Order → Type 0
Names m (alone n) = (t : ThreadRecord) × (thread_at m.threads n ≡ some t)
Names m (together sender receiver) = ((s : ThreadRecord) × (thread_at m.threads sender ≡ some s)) × ((r : ThreadRecord) × (thread_at m.threads receiver ≡ some r))

-- what a move answers where the machine stands for a pool: one of three, and no two can be
pub data AnswerIs (p : Program) (m : Machine) (pool : Pool) (path : ℕ → Path) (o : Order) : Answer → Type 0 where
  -- "30: the move isn't allowed by the run rules, or names no thread"
  is_not_allowed : (Names m o → added p pool (step_of path o) ≡ none) → AnswerIs p m pool path o (refused 30)
  -- "then 31: the move would exceed one of the three limits, and is never given otherwise"
  too_large : (new : List Thread) → Names m o → added p pool (step_of path o) ≡ some new → fits m (taken_in p m o) ≡ false → AnswerIs p m pool path o (refused 31)
  -- else the step is taken
  taken : (new : List Thread) (path' : ℕ → Path) (m' : Machine) → Names m o → added p pool (step_of path o) ≡ some new → fits m (taken_in p m o) ≡ true
      → StandsFor m' (new ++ pool) path' → AnswerIs p m pool path o (accepted m')

-- the steps of moves: one for each that is accepted, by the paths that its threads then have; the machine stands for the pool all along
module _ (p : Program) where
  pub data Follows : Machine → Pool → (ℕ → Path) → List Order → List Step → Type 0 where
    done : {m : Machine} {pool : Pool} {path : ℕ → Path} → StandsFor m pool path → Follows m pool path [] []
    refuses : {m : Machine} {pool : Pool} {path : ℕ → Path} {o : Order} {os : List Order} {steps : List Step} (n : ℕ)
        → StandsFor m pool path → answer p m o ≡ refused n → Follows m pool path os steps → Follows m pool path (o ∷ os) steps
    accepts : {m : Machine} {pool : Pool} {path : ℕ → Path} {o : Order} {os : List Order} {steps : List Step} (m' : Machine) (path' : ℕ → Path) (new : List Thread)
        → StandsFor m pool path → answer p m o ≡ accepted m' → added p pool (step_of path o) ≡ some new → Follows m' (new ++ pool) path' os steps
        → Follows m pool path (o ∷ os) (step_of path o ∷ steps)

  -- what a list of moves from the beginning shows
  pub record Shown (os : List Order) : Type 0 where
    pub steps : List Step
    pub follows : Follows begin (start_pool p) first_path os steps
    pub path : ℕ → Path
    pub stands : StandsFor (watched p begin os) (run p steps) path
    -- and what the next move answers
    pub next : (o : Order) → AnswerIs p (watched p begin os) (run p steps) path o (answer p (watched p begin os) o)
