-- The run memory: its fixed size and layout, which the calls leave open. Slots of eight bytes: slot 0 has the counts in use, so that a run not begun has none; then the cells by their numbers, then the frames. A slot has three numbers of one byte, two of two bytes, the low one first, and a 0. Thread records stand in a lent list of their own.
--   slot 0          threads, 0, 0, cells, frames
--   slot k          cell k: name, kind, row, older, cell. Kind 0 is unit, 1 a channel that this cell made, 2 a channel that another made, any other a closure
--   slot 4096 + k   frame k: name, rest, 0, cell, older
use Rattle.std.specs.Prelude.{ℕ, zero, suc, ◌+◌, ◌*◌, ◌/◌, ◌%◌, ◌≤◌, Bool, ◌&&◌, List, [], ◌∷◌, set, get_or, take, eqb, leb}
use Rattle.std.proofs.lemmas.List.Edits.{sets}
use Rattle.program.specs.Test.{pick}
use Rattle.program.specs.Program.{Program}
use Rattle.format.specs.Text.{Bytes}
use Rattle.machine.specs.declared.ThreadRecord.{ThreadRecord}
use Rattle.machine.specs.declared.Cell.{Cell}
use Rattle.machine.specs.declared.Frame.{Frame}
use Rattle.machine.specs.declared.Held.{Held}
use Rattle.machine.specs.declared.Held.TheVariants.{Channel, Closure}
use Rattle.machine.specs.declared.Kept.{Kept}
use Rattle.machine.specs.declared.Kept.TheVariants.{Makes, Keeps}
use Rattle.machine.specs.Machine.{Memory, Machine, Change, cell_limit, frame_limit, thread_limit, sound}
use Rattle.run_memory.specs.declared.Slot.{Slot}
use Rattle.run_memory.specs.declared.InUse.{InUse}

abbrev pub slot_size : ℕ
slot_size = 8

-- the run memory's fixed size
abbrev pub run_size : ℕ
run_size = slot_size * (1 + cell_limit + frame_limit)

-- ---- slots

abbrev pub slot : ℕ → ℕ → ℕ → ℕ → ℕ → Slot
slot a b c d e = record { a = a; b = b; c = c; d = d; e = e }

-- a number of two bytes
unfoldable pub word_at : Bytes → ℕ → ℕ
word_at run at = get_or run at 0 + 256 * get_or run (at + 1) 0

unfoldable pub slot_at : Bytes → ℕ → Slot
slot_at run k =
    let at = slot_size * k in slot (get_or run at 0) (get_or run (at + 1) 0) (get_or run (at + 2) 0) (word_at run (at + 3)) (word_at run (at + 5))

unfoldable pub slot_bytes : Slot → Bytes
slot_bytes s = s.a ∷ s.b ∷ s.c ∷ s.d % 256 ∷ s.d / 256 ∷ s.e % 256 ∷ s.e / 256 ∷ 0 ∷ []

unfoldable pub put_slot : Bytes → ℕ → Slot → Bytes
put_slot run k s = sets run (slot_size * k) (slot_bytes s)

-- ---- cells and frames

abbrev pub kind_of : Kept → ℕ
kind_of Makes = 1
kind_of (Keeps Held.Unit) = 0
kind_of (Keeps (Channel k)) = 2
kind_of (Keeps (Closure r k)) = 3

abbrev pub row_of : Kept → ℕ
row_of Makes = 0
row_of (Keeps Held.Unit) = 0
row_of (Keeps (Channel k)) = 0
row_of (Keeps (Closure r k)) = r

abbrev pub cell_of : Kept → ℕ
cell_of Makes = 0
cell_of (Keeps Held.Unit) = 0
cell_of (Keeps (Channel k)) = k
cell_of (Keeps (Closure r k)) = k

unfoldable pub slot_of_cell : Cell → Slot
slot_of_cell c = slot c.name (kind_of c.kept) (row_of c.kept) c.older (cell_of c.kept)

unfoldable pub slot_of_frame : Frame → Slot
slot_of_frame f = slot f.name f.rest 0 f.cell f.older

-- back again
unfoldable pub kept_of : ℕ → ℕ → ℕ → Kept
kept_of kind r k = pick (eqb kind 0) (Keeps Held.Unit) (pick (eqb kind 1) Makes (pick (eqb kind 2) (Keeps (Channel k)) (Keeps (Closure r k))))

unfoldable pub cell_of_slot : Slot → Cell
cell_of_slot s = record { name = s.a; older = s.d; kept = kept_of s.b s.c s.e }

unfoldable pub frame_of_slot : Slot → Frame
frame_of_slot s = record { name = s.a; rest = s.b; cell = s.d; older = s.e }

-- ---- what is in use

abbrev pub counts : ℕ → ℕ → ℕ → InUse
counts t c f = record { threads = t; cells = c; frames = f }

unfoldable pub in_use : Bytes → InUse
in_use run = let s = slot_at run 0 in counts s.a s.d s.e

unfoldable pub cell_at : Bytes → ℕ → Cell
cell_at run k = cell_of_slot (slot_at run k)

unfoldable pub frame_at : Bytes → ℕ → Frame
frame_at run k = frame_of_slot (slot_at run (cell_limit + k))

-- the cells and the frames up to a number, the newest first
unfoldable pub cells_in : Bytes → ℕ → List Cell
cells_in run zero = []
cells_in run (suc k) = cell_at run (suc k) ∷ cells_in run k

unfoldable pub frames_in : Bytes → ℕ → List Frame
frames_in run zero = []
frames_in run (suc k) = frame_at run (suc k) ∷ frames_in run k

unfoldable pub memory_in : Bytes → Memory
memory_in run = record { cells = cells_in run (in_use run).cells; frames = frames_in run (in_use run).frames }

-- the machine in run memory and thread records
unfoldable pub machine_in : Bytes → List ThreadRecord → Machine
machine_in run ts = record { threads = take (in_use run).threads ts; memory = memory_in run }

-- ---- 22 of run memory: more in use than may be, or what `sound` says no move leaves

unfoldable pub within_limits : InUse → Bool
within_limits n = leb n.threads thread_limit && leb n.cells cell_limit && leb n.frames frame_limit

-- what is known of run memory that is not refused for its counts
pub record InLimits (run : Bytes) : Type 0 where
  pub cells : (in_use run).cells ≤ cell_limit
  pub frames : (in_use run).frames ≤ frame_limit

unfoldable pub sound_run : Program → Bytes → List ThreadRecord → Bool
sound_run p run ts = within_limits (in_use run) && sound p (machine_in run ts)

-- ---- writing

unfoldable pub counted : Bytes → InUse → Bytes
counted run n = put_slot run 0 (slot n.threads 0 0 n.cells n.frames)

-- a cell, a frame, a thread more
unfoldable pub push_cell : Bytes → Cell → Bytes
push_cell run c = let n = in_use run in counted (put_slot run (suc n.cells) (slot_of_cell c)) (counts n.threads (suc n.cells) n.frames)

unfoldable pub push_frame : Bytes → Frame → Bytes
push_frame run f =
    let n = in_use run in counted (put_slot run (cell_limit + suc n.frames) (slot_of_frame f)) (counts n.threads n.cells (suc n.frames))

unfoldable pub push_thread : Bytes → Bytes
push_thread run = let n = in_use run in counted run (counts (suc n.threads) n.cells n.frames)

-- all that a change takes, the oldest first
unfoldable pub push_cells : Bytes → List Cell → Bytes
push_cells run [] = run
push_cells run (c ∷ cs) = push_cell (push_cells run cs) c

unfoldable pub push_frames : Bytes → List Frame → Bytes
push_frames run [] = run
push_frames run (f ∷ fs) = push_frame (push_frames run fs) f

unfoldable pub push_threads : Bytes → List ThreadRecord → Bytes
push_threads run [] = run
push_threads run (t ∷ ts) = push_thread (push_threads run ts)

unfoldable pub bytes_after : Bytes → Change → Bytes
bytes_after run c = push_threads (push_frames (push_cells run c.cells) c.frames) c.born

-- the thread records after thread n's change: its own, and that of the thread born, which gets the next number
unfoldable pub placed : List ThreadRecord → ℕ → List ThreadRecord → List ThreadRecord
placed ts n [] = ts
placed ts n (t ∷ us) = placed (set ts n t) (suc n) us

unfoldable pub threads_after : Bytes → List ThreadRecord → ℕ → Change → List ThreadRecord
threads_after run ts n c = placed (set ts n c.thread) (in_use run).threads c.born

-- ---- 31: what is in use and what a move takes exceed no limit

unfoldable pub has_room : InUse → ℕ → ℕ → ℕ → Bool
has_room n cells frames threads = leb (cells + n.cells) cell_limit && leb (frames + n.frames) frame_limit && leb (threads + n.threads) thread_limit
