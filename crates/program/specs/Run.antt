-- "Run rules": labels, paths, values and environments, states, the pool, and its steps.
use Rattle.std.specs.Prelude.{ℕ, Bool, true, false, not, List, [], ◌∷◌, ◌++◌, map, eqb}
use Rattle.std.proofs.Math.Decide.{ℕ_discrete}
use Rattle.std.specs.Prelude.{Option, None as none, Some as some}
use Rattle.program.specs.declared.Row.{Row}
use Rattle.program.specs.declared.Bind.{Bind}
use Rattle.program.specs.declared.Form.{Form}
use Rattle.program.specs.declared.Form.TheVariants.{Chan, Send, Recv, Pair, Left, Right, Fun, Spawn, Sync, First, Second, Case, Apply}
use Rattle.program.specs.Test.{test}
use Rattle.program.specs.Maybe.{◌>>=◌, ◌<|>◌, given, provided}
use Rattle.program.specs.Each.{every}
use Rattle.program.specs.Snoc.{Snoc, ε, ◌▷◌, Snoc-discrete, continues?}
use Rattle.program.specs.Program.{Program, row_at, bind_at, sync_at, send_at, recv_at, pair_at, left_at, right_at, fun_at}

-- "A label (next, spawn, call, return, each with the N of its bind; a return with the N that waited)"
pub data Label : Type 0 where
  next spawn call return : ℕ → Label
  deriving Discrete as Label-discrete

abbrev pub same_label : Discrete Label
same_label = Label-discrete ℕ_discrete

abbrev pub Path : Type 0
Path = Snoc Label

-- "an instance, the pair of the path that steps and N"
pub data Instance : Type 0 where
  made : Path → ℕ → Instance
  deriving Discrete as Instance-discrete

abbrev pub same_instance : Discrete Instance
same_instance = Instance-discrete (Snoc-discrete same_label) ℕ_discrete

abbrev pub chan_name : Instance → ℕ
chan_name (made path n) = n

-- a value: unit, an instance, or a value row with the environment in which its names are read ("closure")
mutual
  pub data Value : Type 0 where
    unit : Value
    channel : Instance → Value
    closure : ℕ → Env → Value

  pub data Env : Type 0 where
    empty : Env
    extend : Env → ℕ → Value → Env

unfoldable pub lookup : Env → ℕ → Option Value
lookup empty x = none
lookup (extend env y v) x = elim (eqb x y) [ true ↦ some v | false ↦ lookup env x ]

unfoldable pub channel_of : Value → Option Instance
channel_of unit = none
channel_of (channel i) = some i
channel_of (closure r env) = none

unfoldable pub closure_of : Value → Option (ℕ × Env)
closure_of unit = none
closure_of (channel i) = none
closure_of (closure r env) = some (r, env)

unfoldable pub closure_at : Env → ℕ → Option (ℕ × Env)
closure_at env x = lookup env x >>= closure_of

-- a return that waits: what gets the result, and where and in which environment to go on
pub record Return : Type 0 where
  pub name : ℕ
  pub rest : ℕ
  pub env : Env

pub record State : Type 0 where
  pub row : ℕ
  pub env : Env
  pub returns : List Return

-- a step of one thread: the label that lengthens its path, and its state there
pub record Move : Type 0 where
  pub label : Label
  pub state : State

module _ (st : State) (b : Bind) where
  -- on to the rest, the bind's name getting a value
  unfoldable pub proceed : Value → Move
  proceed v = record { label = next b.name; state = record { row = b.rest; env = extend st.env b.name v; returns = st.returns } }

  -- into a branch or a body; the rest waits
  unfoldable pub enter : ℕ → Env → Move
  enter t env = record { label = call b.name; state = record { row = t; env = env; returns = record { name = b.name; rest = b.rest; env = st.env } ∷ st.returns } }

  -- a new thread
  unfoldable pub start : ℕ → Move
  start t = record { label = spawn b.name; state = record { row = t; env = st.env; returns = [] } }

-- the steps that a thread takes by itself, from its path and state: none, one, or the two of a spawn
module _ (p : Program) (path : Path) (st : State) where
  unfoldable pub form_moves : Bind → Form → Option (List Move)
  form_moves b Form.Unit = some (proceed st b unit ∷ [])
  form_moves b Chan = some (proceed st b (channel (made path b.name)) ∷ [])
  form_moves b (Send c m) = some (proceed st b (closure st.row st.env) ∷ [])
  form_moves b (Recv c) = some (proceed st b (closure st.row st.env) ∷ [])
  form_moves b (Pair x y) = some (proceed st b (closure st.row st.env) ∷ [])
  form_moves b (Left x) = some (proceed st b (closure st.row st.env) ∷ [])
  form_moves b (Right x) = some (proceed st b (closure st.row st.env) ∷ [])
  form_moves b (Fun f x t) = some (proceed st b (closure st.row st.env) ∷ [])
  form_moves b (Spawn t) = some (proceed st b unit ∷ start st b t ∷ [])
  form_moves b (Sync e) = none
  form_moves b (First a) = do
    (r, env) ← closure_at st.env a
    (x, y) ← pair_at p r
    v ← lookup env x
    some (proceed st b v ∷ [])
  form_moves b (Second a) = do
    (r, env) ← closure_at st.env a
    (x, y) ← pair_at p r
    v ← lookup env y
    some (proceed st b v ∷ [])
  form_moves b (Case s x t y w) = do
    (r, env) ← closure_at st.env s
    (do
      a ← left_at p r
      v ← lookup env a
      some (enter st b t (extend st.env x v) ∷ []))
        <|> (do
          a ← right_at p r
          v ← lookup env a
          some (enter st b w (extend st.env y v) ∷ []))
  form_moves b (Apply f a) = do
    (r, env) ← closure_at st.env f
    (g, x, t) ← fun_at p r
    v ← lookup st.env a
    some (enter st b t (extend (extend env g (closure r env)) x v) ∷ [])

  unfoldable pub result_moves : ℕ → List Return → Option (List Move)
  result_moves n [] = none
  result_moves n (k ∷ ks) = do
    v ← lookup st.env n
    some (record { label = return k.name; state = record { row = k.rest; env = extend k.env k.name v; returns = ks } } ∷ [])

  unfoldable pub moves : Option (List Move)
  moves = elim (row_at p st.row) [ Row.Result n ↦ result_moves n st.returns | Row.Bind b ↦ form_moves b b.form ]

-- "A path stands at a send (receive) on an instance if its state is a sync row whose E has a send (recv) value with that instance for its C"
module _ (p : Program) (st : State) where
  unfoldable pub event : Option (ℕ × Env)
  event = sync_at p st.row >>= closure_at st.env

  unfoldable pub sends_on : Option Instance
  sends_on = do
    (r, env) ← event
    (c, _) ← send_at p r
    lookup env c >>= channel_of

  -- "the message, the value of the send's M"
  unfoldable pub message : Option Value
  message = do
    (r, env) ← event
    (_, m) ← send_at p r
    lookup env m

  -- what a sender brings to a meeting: the instance that it sends on, and the message
  unfoldable pub offer : Option (Instance × Value)
  offer = do
    i ← sends_on
    v ← message
    some (i, v)

  unfoldable pub receives_on : Option Instance
  receives_on = do
    (r, env) ← event
    c ← recv_at p r
    lookup env c >>= channel_of

pub record Thread : Type 0 where
  pub path : Path
  pub state : State

-- "A pool holds every path so far with its state"
abbrev pub Pool : Type 0
Pool = List Thread

unfoldable pub state_of : Pool → Path → Option State
state_of [] path = none
state_of (t ∷ ts) path = elim (Snoc-discrete same_label t.path path) [ yes e ↦ some t.state | no n ↦ state_of ts path ]

-- "leaf paths .., those that no other path of the pool continues"
unfoldable pub leaf : Pool → Path → Bool
leaf pool path = every (λ t. not (test (continues? same_label path t.path))) pool

unfoldable pub leaf_state : Pool → Path → Option State
leaf_state pool path = do
  st ← state_of pool path
  _ ← given (leaf pool path)
  some st

unfoldable pub lengthen : Path → Move → Thread
lengthen path m = record { path = path ▷ m.label; state = m.state }

pub data Step : Type 0 where
  own : Path → Step
  meet : Path → Path → Step

module _ (p : Program) where
  -- what a step adds to the pool: "a step names one path, or a sending and a receiving one"; nothing where it isn't allowed
  unfoldable pub added : Pool → Step → Option (List Thread)
  added pool (own path) = do
    st ← leaf_state pool path
    ms ← moves p path st
    some (map (lengthen path) ms)
  added pool (meet sender receiver) = do
    s ← leaf_state pool sender
    r ← leaf_state pool receiver
    b ← bind_at p s.row
    d ← bind_at p r.row
    (i, v) ← offer p s
    j ← receives_on p r
    _ ← provided (same_instance i j)
    some (lengthen sender (proceed s b unit) ∷ lengthen receiver (proceed r d v) ∷ [])

  -- "A step that no rule here fits is not allowed and leaves the pool as it was"
  unfoldable pub step : Pool → Step → Pool
  step pool s = elim (added pool s) [ none ↦ pool | some ts ↦ ts ++ pool ]

  unfoldable pub after : Pool → List Step → Pool
  after pool [] = pool
  after pool (s ∷ ss) = after (step pool s) ss

  -- "The start is the empty path at row 0, nothing bound, no return waiting"
  unfoldable pub start_pool : Pool
  start_pool = record { path = ε; state = record { row = 0; env = empty; returns = [] } } ∷ []

  -- the pool that a whole list of steps leaves
  unfoldable pub run : List Step → Pool
  run ss = after start_pool ss
