-- Watched runs, by computation.
use Prim.Native.Nat.{ℕ, ◌+◌}
use mathlib.Core.Bool.{Bool, true}
use mathlib.Core.List.{List, [], ◌∷◌, map}
use mathlib.Core.Path.{◌≡◌, refl}
use lib.ListN.{length}
use Rattle.program.specs.declared.Row.{Row}
use Rattle.program.specs.declared.Form.{Form}
use Rattle.program.specs.declared.Form.TheVariants.{Chan, Send, Recv, Left, Fun, Spawn, Sync, Case, Apply}
use Rattle.program.specs.Each.{every, elem, collect}
use Rattle.program.specs.Maybe.{◌>>=◌, ◌<|>◌, given}
use Rattle.program.specs.Program.{Program, row_at, bind_of, bind_at, form_at, send_at, recv_at, pair_at, left_at, right_at, fun_at, sync_at, binders}
use Rattle.machine.specs.Machine.{Machine, both_go_on, meeting, numbered, held_by, find, closure_held_by, channel_held_by, find_closure, find_channel, thread_at, grown, newest, go_on, fork, go_into, form_change, result_change, change, event_of, sends, sends_what, offers, awaits, begin, changed, Order, alone, together, changed_all, changes, moved, within, refused, accepted, answer, left, watched, row_there, name_there, sound_kept, sound_cells, sound_frame, sound_thread, sound}

bind : ℕ → Form → ℕ → Row
bind n f t = Row.Bind (record { name = n; form = f; rest = t })

-- each move's answer: the number of threads where it is accepted, and its refusal above 1,000
answers : Program → Machine → List Order → List ℕ
unfolding answer moved changes meeting both_go_on changed_all within changed change form_change result_change go_on fork go_into grown newest find find_closure find_channel closure_held_by channel_held_by held_by numbered thread_at event_of sends sends_what offers awaits given ◌>>=◌ ◌<|>◌ row_at bind_at bind_of form_at send_at recv_at pair_at left_at right_at fun_at sync_at left
answers p m [] = []
answers p m (o ∷ os) = elim (answer p m o) [ refused n ↦ (1000 + n) ∷ answers p m os | accepted m' ↦ length m'.threads ∷ answers p m' os ]

-- the rows of the threads, then the cells and frames in use, and whether the machine is sound
shown : Program → List Order → List ℕ × (ℕ × ℕ × Bool)
unfolding watched left answer moved changes meeting both_go_on changed_all within changed change form_change result_change go_on fork go_into grown newest find find_closure find_channel closure_held_by channel_held_by held_by numbered thread_at event_of sends sends_what offers awaits given ◌>>=◌ ◌<|>◌ row_at bind_at bind_of form_at send_at recv_at pair_at left_at right_at fun_at sync_at sound sound_thread sound_frame sound_cells sound_kept row_there name_there begin every elem collect binders
shown p os = let m = watched p begin os in (map (λ t. t.row) m.threads, (length m.memory.cells, length m.memory.frames, sound p m))

-- example A: a child receives what its parent sends
example_a : Program
unfolding bind
example_a = bind 0 Form.Unit 1 ∷ bind 1 Chan 2 ∷ bind 2 (Spawn 3) 6 ∷ bind 3 (Recv 1) 4 ∷ bind 4 (Sync 3) 5 ∷ Row.Result 4 ∷ bind 5 (Send 1 0) 7 ∷ bind 6 (Sync 5) 8 ∷ Row.Result 6 ∷ []

-- a sync alone, the roles swapped, one thread twice, no such thread, and a result with no return: 30
moves_a : List Order
moves_a =
    alone 0 ∷ alone 0 ∷ alone 0 ∷ alone 1 ∷ alone 0 ∷ alone 1 ∷ together 1 0 ∷ together 0 0 ∷ together 0 2 ∷ together 0 1 ∷ alone 0 ∷ []

answers_a : answers example_a begin moves_a ≡ 1 ∷ 1 ∷ 2 ∷ 2 ∷ 2 ∷ 1030 ∷ 1030 ∷ 1030 ∷ 1030 ∷ 2 ∷ 1030 ∷ []
unfolding answers example_a bind moves_a begin
answers_a = refl

-- three cells before the spawn's end, one for the recv, one for the send, and two for the meeting
shown_a : shown example_a moves_a ≡ (8 ∷ 5 ∷ [], (7, 0, true))
unfolding shown example_a bind moves_a
shown_a = refl

-- a function applied to unit, which gives back its parameter; then a case on a left value
calls : Program
unfolding bind
calls = bind 0 Form.Unit 1 ∷ bind 1 (Fun 2 3 2) 3 ∷ Row.Result 3 ∷ bind 4 (Apply 1 0) 4 ∷ bind 5 (Left 4) 5 ∷ bind 6 (Case 5 7 6 8 7) 8 ∷ Row.Result 7 ∷ Row.Result 8 ∷ Row.Result 6 ∷ []

-- an apply takes two cells and a frame, a return one cell, a case one and a frame; no frame is given back
shown_calls : map (λ k. shown calls k) ((alone 0 ∷ alone 0 ∷ []) ∷ (alone 0 ∷ alone 0 ∷ alone 0 ∷ []) ∷ (alone 0 ∷ alone 0 ∷ alone 0 ∷ alone 0 ∷ []) ∷ (alone 0 ∷ alone 0 ∷ alone 0 ∷ alone 0 ∷ alone 0 ∷ alone 0 ∷ alone 0 ∷ []) ∷ [])
    ≡ (3 ∷ [], (2, 0, true)) ∷ (2 ∷ [], (4, 1, true)) ∷ (4 ∷ [], (5, 1, true)) ∷ (8 ∷ [], (8, 2, true)) ∷ []
unfolding shown calls bind
shown_calls = refl
