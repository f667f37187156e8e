-- A watched run: threads, cells and frames, and what a move makes of them. A bound name takes a cell, a waiting return takes a frame.
use Rattle.std.specs.Prelude.{ℕ, zero, suc, ◌+◌, Bool, true, ◌&&◌, List, [], ◌∷◌, ◌++◌, length, set, eqb, ltb, leb}
use Rattle.std.specs.Prelude.{Option, None as none, Some as some}
use Rattle.program.specs.declared.Row.{Row}
use Rattle.program.specs.declared.Bind.{Bind}
use Rattle.program.specs.declared.Form.{Form}
use Rattle.program.specs.declared.Form.TheVariants.{Chan, Send, Recv, Pair, Left, Right, Fun, Spawn, Sync, First, Second, Case, Apply}
use Rattle.program.specs.Test.{pick}
use Rattle.program.specs.Maybe.{◌>>=◌, ◌<|>◌, given}
use Rattle.program.specs.Each.{every, collect, elem}
use Rattle.machine.specs.declared.ThreadRecord.{ThreadRecord}
use Rattle.machine.specs.declared.Cell.{Cell}
use Rattle.machine.specs.declared.Frame.{Frame}
use Rattle.machine.specs.declared.Held.{Held}
use Rattle.machine.specs.declared.Held.TheVariants.{Channel, Closure}
use Rattle.machine.specs.declared.Kept.{Kept}
use Rattle.machine.specs.declared.Kept.TheVariants.{Makes, Keeps}
use Rattle.program.specs.Program.{Program, row_at, bind_at, sync_at, send_at, recv_at, pair_at, left_at, right_at, fun_at, binders}

-- "The most in use is 4,096 cells, 1,024 frames and 64 threads"
abbrev pub cell_limit : ℕ
cell_limit = 4096

abbrev pub frame_limit : ℕ
frame_limit = 1024

abbrev pub thread_limit : ℕ
thread_limit = 64

-- ---- what is in use: `declared` has thread records, cells, frames and the values that cells keep

-- cells and frames, each the newest first
pub record Memory : Type 0 where
  pub cells : List Cell
  pub frames : List Frame

pub record Machine : Type 0 where
  pub threads : List ThreadRecord
  pub memory : Memory

-- ---- reading

-- by its number, where the newest stands first
unfoldable pub numbered : {A : Type 0} → List A → ℕ → Option A
numbered [] k = none
numbered (x ∷ xs) k = pick (eqb k (suc (length xs))) (some x) (numbered xs k)

-- the value that a cell of this number keeps
unfoldable pub held_by : ℕ → Kept → Held
held_by k Makes = Channel k
held_by k (Keeps h) = h

-- the value of a name, from a cell on to older ones
unfoldable pub find : List Cell → ℕ → ℕ → Option Held
find [] k x = none
find (c ∷ cs) k x =
    pick (eqb k (suc (length cs))) (pick (eqb x c.name) (some (held_by (suc (length cs)) c.kept)) (find cs c.older x)) (find cs k x)

unfoldable pub closure_held_by : Held → Option (ℕ × ℕ)
closure_held_by Held.Unit = none
closure_held_by (Channel k) = none
closure_held_by (Closure r k) = some (r, k)

unfoldable pub channel_held_by : Held → Option ℕ
channel_held_by Held.Unit = none
channel_held_by (Channel k) = some k
channel_held_by (Closure r k) = none

unfoldable pub find_closure : List Cell → ℕ → ℕ → Option (ℕ × ℕ)
find_closure cs k x = find cs k x >>= closure_held_by

unfoldable pub find_channel : List Cell → ℕ → ℕ → Option ℕ
find_channel cs k x = find cs k x >>= channel_held_by

-- a thread by its number
unfoldable pub thread_at : List ThreadRecord → ℕ → Option ThreadRecord
thread_at [] n = none
thread_at (t ∷ ts) zero = some t
thread_at (t ∷ ts) (suc n) = thread_at ts n

-- ---- one thread's move

-- what a move does: the cells and frames that it takes, each the newest first, the thread's new record, and the thread that it starts, if any
pub record Change : Type 0 where
  pub cells : List Cell
  pub frames : List Frame
  pub thread : ThreadRecord
  pub born : List ThreadRecord

unfoldable pub grown : Memory → Change → Memory
grown m c = record { cells = c.cells ++ m.cells; frames = c.frames ++ m.frames }

-- a cell for a name
abbrev pub bound : ℕ → ℕ → Kept → Cell
bound n older k = record { name = n; older = older; kept = k }

-- the number of the newest cell
unfoldable pub newest : Memory → ℕ
newest m = length m.cells

-- the number of the frame that a call takes; "nothing is given back during a run", so each is new
abbrev pub next_frame : Memory → ℕ
next_frame m = suc (length m.frames)

-- "Case and apply push a return: N, the rest, the present environment"
abbrev pub return_of : ThreadRecord → Bind → Frame
return_of t b = record { name = b.name; rest = b.rest; cell = t.cell; older = t.frame }

module _ (m : Memory) (t : ThreadRecord) (b : Bind) where
  -- on to the rest: a cell for the bind's name
  unfoldable pub go_on : Kept → Change
  go_on k = record { cells = bound b.name t.cell k ∷ []; frames = []; thread = record { row = b.rest; cell = suc (newest m); frame = t.frame }; born = [] }

  -- the same, and a new thread with the parent's cells and no frame
  unfoldable pub fork : ℕ → Change
  fork r = record {
    cells = bound b.name t.cell (Keeps Held.Unit) ∷ [];
    frames = [];
    thread = record { row = b.rest; cell = suc (newest m); frame = t.frame };
    born = record { row = r; cell = t.cell; frame = 0 } ∷ [];
  }

  -- into a branch or a body, with the cells bound for it: a frame for the return
  unfoldable pub go_into : ℕ → List Cell → Change
  go_into r cells = record {
    cells = cells;
    frames = return_of t b ∷ [];
    thread = record { row = r; cell = length (cells ++ m.cells); frame = next_frame m };
    born = [];
  }

-- a result takes the last frame: a cell for the name that waited
unfoldable pub result_change : Memory → ThreadRecord → ℕ → Option Change
result_change m t n = do
  f ← numbered m.frames t.frame
  v ← find m.cells t.cell n
  some (record { cells = bound f.name f.cell (Keeps v) ∷ []; frames = []; thread = record { row = f.rest; cell = suc (newest m); frame = f.older }; born = [] })

module _ (p : Program) (m : Memory) (t : ThreadRecord) where
  unfoldable pub form_change : Bind → Form → Option Change
  form_change b Form.Unit = some (go_on m t b (Keeps Held.Unit))
  form_change b Chan = some (go_on m t b Makes)
  form_change b (Send c x) = some (go_on m t b (Keeps (Closure t.row t.cell)))
  form_change b (Recv c) = some (go_on m t b (Keeps (Closure t.row t.cell)))
  form_change b (Pair x y) = some (go_on m t b (Keeps (Closure t.row t.cell)))
  form_change b (Left x) = some (go_on m t b (Keeps (Closure t.row t.cell)))
  form_change b (Right x) = some (go_on m t b (Keeps (Closure t.row t.cell)))
  form_change b (Fun f x r) = some (go_on m t b (Keeps (Closure t.row t.cell)))
  form_change b (Spawn r) = some (fork m t b r)
  form_change b (Sync e) = none
  form_change b (First a) = do
    (r, k) ← find_closure m.cells t.cell a
    (x, y) ← pair_at p r
    v ← find m.cells k x
    some (go_on m t b (Keeps v))
  form_change b (Second a) = do
    (r, k) ← find_closure m.cells t.cell a
    (x, y) ← pair_at p r
    v ← find m.cells k y
    some (go_on m t b (Keeps v))
  form_change b (Case s x l y w) = do
    (r, k) ← find_closure m.cells t.cell s
    (do
      a ← left_at p r
      v ← find m.cells k a
      some (go_into m t b l (bound x t.cell (Keeps v) ∷ [])))
        <|> (do
          a ← right_at p r
          v ← find m.cells k a
          some (go_into m t b w (bound y t.cell (Keeps v) ∷ [])))
  form_change b (Apply f a) = do
    (r, k) ← find_closure m.cells t.cell f
    (g, x, body) ← fun_at p r
    v ← find m.cells t.cell a
    some (go_into m t b body (bound x (suc (newest m)) (Keeps v) ∷ bound g k (Keeps (Closure r k)) ∷ []))

  unfoldable pub change : Option Change
  change = elim (row_at p t.row) [ Row.Result n ↦ result_change m t n | Row.Bind b ↦ form_change b b.form ]

  -- the event at a sync row: the value of its E
  unfoldable pub event_of : Option (ℕ × ℕ)
  event_of = sync_at p t.row >>= find_closure m.cells t.cell

  -- a thread that stands at a send: the channel, and the message
  unfoldable pub sends : Option ℕ
  sends = do
    (r, k) ← event_of
    (c, _) ← send_at p r
    find_channel m.cells k c

  unfoldable pub sends_what : Option Held
  sends_what = do
    (r, k) ← event_of
    (_, x) ← send_at p r
    find m.cells k x

  unfoldable pub offers : Option (ℕ × Held)
  offers = do
    i ← sends
    v ← sends_what
    some (i, v)

  -- a thread that stands at a receive: the channel
  unfoldable pub awaits : Option ℕ
  awaits = do
    (r, k) ← event_of
    c ← recv_at p r
    find_channel m.cells k c

-- both ends of a meeting: the change of the receiver, whose name gets the message, and then that of the sender, whose name gets unit
unfoldable pub both_go_on : Memory → ThreadRecord → Bind → ThreadRecord → Bind → Held → Change × Change
both_go_on m sender b receiver d v = let c = go_on m receiver d (Keeps v) in (c, go_on (grown m c) sender b (Keeps Held.Unit))

-- a send and a receive on one instance
unfoldable pub meeting : Program → Memory → ThreadRecord → ThreadRecord → Option (Change × Change)
meeting p m sender receiver = do
  b ← bind_at p sender.row
  d ← bind_at p receiver.row
  (i, v) ← offers p m sender
  j ← awaits p m receiver
  _ ← given (eqb i j)
  some (both_go_on m sender b receiver d v)

-- ---- what a move takes

pub record Taken : Type 0 where
  pub cells : ℕ
  pub frames : ℕ
  pub threads : ℕ

abbrev pub takes : ℕ → ℕ → ℕ → Taken
takes c f t = record { cells = c; frames = f; threads = t }

-- "A bound name takes a cell, a waiting return takes a frame": next and return a cell, spawn a thread too, a call a frame too, apply "two cells, for F and P"
abbrev pub taken_by : Form → Taken
taken_by Form.Unit = takes 1 0 0
taken_by Chan = takes 1 0 0
taken_by (Send c m) = takes 1 0 0
taken_by (Recv c) = takes 1 0 0
taken_by (Pair a b) = takes 1 0 0
taken_by (Left a) = takes 1 0 0
taken_by (Right a) = takes 1 0 0
taken_by (Fun f x t) = takes 1 0 0
taken_by (Spawn t) = takes 1 0 1
taken_by (Sync e) = takes 1 0 0
taken_by (First a) = takes 1 0 0
taken_by (Second a) = takes 1 0 0
taken_by (Case s l t r u) = takes 1 1 0
taken_by (Apply f a) = takes 2 1 0

abbrev pub taken_at : Row → Taken
taken_at (Row.Result n) = takes 1 0 0
taken_at (Row.Bind b) = taken_by b.form

-- ---- the moves of a machine

-- "leaves thread 0 at row 0 and nothing else in use"
unfoldable pub begin : Machine
begin = record { threads = record { row = 0; cell = 0; frame = 0 } ∷ []; memory = record { cells = []; frames = [] } }

-- the machine after a thread's change
unfoldable pub changed : Machine → ℕ → Change → Machine
changed m n c = record { threads = set m.threads n c.thread ++ c.born; memory = grown m.memory c }

unfoldable pub changed_all : Machine → List (ℕ × Change) → Machine
changed_all m [] = m
changed_all m ((n, c) ∷ cs) = changed_all (changed m n c) cs

-- "A move names one thread, or a sending and a receiving one"
pub data Order : Type 0 where
  alone : ℕ → Order
  together : ℕ → ℕ → Order

-- no limit is exceeded
unfoldable pub within : Machine → Bool
within m = leb (length m.memory.cells) cell_limit && leb (length m.memory.frames) frame_limit && leb (length m.threads) thread_limit

-- "the move would exceed one of the three limits": what is in use and what the move takes
unfoldable pub fits : Machine → Taken → Bool
fits m t = leb (t.cells + length m.memory.cells) cell_limit && leb (t.frames + length m.memory.frames) frame_limit && leb (t.threads + length m.threads) thread_limit

-- what a move answers: a number, or the machine that it leaves
pub data Answer : Type 0 where
  refused : ℕ → Answer
  accepted : Machine → Answer

module _ (p : Program) where
  -- a move as changes of threads, each with the thread's number, one after the other; nothing where it isn't allowed or names no thread (30)
  unfoldable pub changes : Machine → Order → Option (List (ℕ × Change))
  changes m (alone n) = do
    t ← thread_at m.threads n
    c ← change p m.memory t
    some ((n, c) ∷ [])
  changes m (together sender receiver) = do
    s ← thread_at m.threads sender
    r ← thread_at m.threads receiver
    (c, d) ← meeting p m.memory s r
    some ((receiver, c) ∷ (sender, d) ∷ [])

  unfoldable pub moved : Machine → Order → Option Machine
  moved m o = changes m o >>= λ cs. some (changed_all m cs)

  -- a meeting takes two cells, one for each end
  unfoldable pub taken_in : Machine → Order → Taken
  taken_in m (alone n) = elim (thread_at m.threads n) [ none ↦ takes 0 0 0 | some t ↦ taken_at (row_at p t.row) ]
  taken_in m (together s r) = takes 2 0 0

  -- 30 before 31; "both leave the run as before"
  unfoldable pub answer : Machine → Order → Answer
  answer m o = elim (moved m o) [ none ↦ refused 30 | some after ↦ pick (within after) (accepted after) (refused 31) ]

  unfoldable pub left : Machine → Order → Machine
  left m o = elim (answer m o) [ refused n ↦ m | accepted after ↦ after ]

  -- the machine that a list of moves leaves
  unfoldable pub watched : Machine → List Order → Machine
  watched m [] = m
  watched m (o ∷ os) = watched (left m o) os

-- ---- what moves never leave (22)

module _ (p : Program) where
  unfoldable pub row_there : ℕ → Bool
  row_there r = ltb r (length p)

  unfoldable pub name_there : ℕ → Bool
  name_there n = elem n (collect binders p)

  -- what a cell keeps, where so many are older
  unfoldable pub sound_kept : ℕ → Kept → Bool
  sound_kept n Makes = true
  sound_kept n (Keeps Held.Unit) = true
  sound_kept n (Keeps (Channel k)) = ltb 0 k && leb k n
  sound_kept n (Keeps (Closure r k)) = row_there r && leb k n

  -- "or has a cell that names one not older than itself"
  unfoldable pub sound_cells : List Cell → Bool
  sound_cells [] = true
  sound_cells (c ∷ cs) = name_there c.name && leb c.older (length cs) && sound_kept (length cs) c.kept && sound_cells cs

  unfoldable pub sound_frame : Memory → Frame → Bool
  sound_frame m f = name_there f.name && row_there f.rest && leb f.cell (length m.cells) && leb f.older (length m.frames)

  unfoldable pub sound_thread : Memory → ThreadRecord → Bool
  sound_thread m t = row_there t.row && leb t.cell (length m.cells) && leb t.frame (length m.frames)

  -- "names a row, name, cell, frame or thread not there or not in use" is 22; a run with no thread is not begun, 21
  unfoldable pub sound : Machine → Bool
  sound m = sound_cells m.memory.cells && every (sound_frame m.memory) m.memory.frames && every (sound_thread m.memory) m.threads
