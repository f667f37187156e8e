-- What a move takes, pushed piece by piece.
use Rattle.std.specs.Prelude.{Ok, Err}
use Prim.Native.Nat.{ℕ, suc, ◌+◌, ◌≤◌, ◌<◌}
use native.Mathlib.Omega.{arith}
use mathlib.Core.Bool.{Bool, true, false, ◌&&◌, So}
use mathlib.Core.List.{List, [], ◌∷◌}
use Rattle.std.specs.Prelude.{None as none, Some as some}
use mathlib.Core.Path.{◌≡◌, refl, sym, ◌∙◌, ap}
use lib.ListN.{length, set}
use lib.Dec.{leb}
use borrow.Author.Tests.{leb-true}
use Rattle.program.proofs.Test.{and_left, and_right}
use Rattle.format.specs.declared.Reason.TheVariants.{MoveNotAllowed, LimitExceeded}
use Rattle.format.specs.Refusals.{refusal}
use Rattle.format.specs.Text.{Bytes}
use Rattle.machine.specs.declared.ThreadRecord.{ThreadRecord}
use Rattle.machine.specs.declared.Cell.{Cell}
use Rattle.machine.specs.declared.Frame.{Frame}
use Rattle.machine.specs.Machine.{Machine, Change, changed_all, within, cell_limit, frame_limit, thread_limit}
use Rattle.run_memory.specs.declared.InUse.{InUse}
use Rattle.run_memory.specs.RunMemory.{run_size, in_use, counts, has_room, machine_in, push_cell, push_frame, push_thread, push_cells, push_frames, push_threads, bytes_after, placed, threads_after}
use Rattle.run_memory.proofs.Codec.{cell_pushed}
use Rattle.run_calls.specs.RunCalls.{Lends, LeavesRun, bytes_all, threads_all, made}
use Rattle.run_calls.proofs.Left.{Takes, takes_one, takes_two, within_room, within_told, left_all, uses_in, LeftAll}
use Rattle.thread_changes.specs.Changes.{change_of}

-- ---- room

pub record Room (n : InUse) (a b k : ℕ) : Type 0 where
  pub cells : a + n.cells ≤ cell_limit
  pub frames : b + n.frames ≤ frame_limit
  pub threads : k + n.threads ≤ thread_limit

pub room_told : (n : InUse) (a b k : ℕ) → So (has_room n a b k) → Room n a b k
unfolding has_room
room_told n a b k h =
    let x : Bool = leb (a + n.cells) cell_limit in
    let y : Bool = leb (b + n.frames) frame_limit in
    let z : Bool = leb (k + n.threads) thread_limit in
    record { cells = leb-true _ _ (and_left x y (and_left (x && y) z h)); frames = leb-true _ _ (and_right x y (and_left (x && y) z h)); threads = leb-true _ _ (and_right (x && y) z h) }

-- ---- made

module _ (run : Bytes) (ts : List ThreadRecord) (h : Lends run ts) (cs : List (ℕ × Change)) {a b k : ℕ} (takes : Takes cs a b k) where
  room : within (changed_all (machine_in run ts) cs) ≡ has_room (in_use run) a b k
  room = let l = h.records in let t = h.threads in within_room run ts (omega (arith, l, t)) cs takes

  pub made_refused : has_room (in_use run) a b k ≡ false → LeavesRun (made run ts (some cs)) (Err (refusal LimitExceeded 0)) run ts
  unfolding made
  made_refused e = let q : within (changed_all (machine_in run ts) cs) ≡ false = room ∙ e in rw q (record { answer_is = refl; run_is = refl; threads_are = refl })

  pub made_accepted : has_room (in_use run) a b k ≡ true → LeavesRun (made run ts (some cs)) (Ok (in_use (bytes_all run cs)).threads) (bytes_all run cs) (threads_all run ts cs)
  unfolding made
  made_accepted e =
      let q : within (changed_all (machine_in run ts) cs) ≡ true = room ∙ e in
      let all : LeftAll run ts cs = left_all cs run ts h (within_told _ q) in
      let l = all.lends.records in
      let t = all.lends.threads in
      let u = uses_in (bytes_all run cs) (threads_all run ts cs) (omega (arith, l, t)) in
      rw q (record { answer_is = ap Ok (sym u.threads ∙ ap (λ (m : Machine). length m.threads) all.machine); run_is = refl; threads_are = refl })

-- ---- room for the next push, after a cell was pushed

pub record Pushed (run b : Bytes) (cells : ℕ) : Type 0 where
  pub long : run_size ≤ length b
  pub counted : in_use b ≡ counts (in_use run).threads (cells + (in_use run).cells) (in_use run).frames

module _ (run : Bytes) (long : run_size ≤ length run) where
  pub one_pushed : {b : Bytes} (c : Cell) → b ≡ push_cell run c → 1 + (in_use run).cells ≤ cell_limit → (in_use run).frames ≤ frame_limit → Pushed run b 1
  one_pushed {b} c e l f =
      let h = cell_pushed run long c (omega (arith, l)) f in
      let q = h.long in
      let z : length b ≡ length (push_cell run c) = ap (λ (b : Bytes). length b) e in
      record { long = omega (arith, q, z, long); counted = ap in_use e ∙ h.counted ∙ (let y : suc (in_use run).cells ≡ 1 + (in_use run).cells = omega arith in ap (λ (k : ℕ). counts (in_use run).threads k (in_use run).frames) y) }

  pub two_pushed : {b b' : Bytes} (c d : Cell) → b ≡ push_cell run c → b' ≡ push_cell b d → 2 + (in_use run).cells ≤ cell_limit → (in_use run).frames ≤ frame_limit → Pushed run b' 2
  two_pushed {b} {b'} c d e e' l f =
      let h : Pushed run b 1 = one_pushed c e (omega (arith, l)) f in
      let x : (in_use b).cells ≡ 1 + (in_use run).cells = ap (λ (n : InUse). n.cells) h.counted in
      let y : (in_use b).frames ≡ (in_use run).frames = ap (λ (n : InUse). n.frames) h.counted in
      let k = cell_pushed b h.long d (omega (arith, x, l)) (omega (arith, y, f)) in
      let q = k.long in
      let z : length b' ≡ length (push_cell b d) = ap (λ (b : Bytes). length b) e' in
      let s = h.long in
      record {
        long = omega (arith, q, z, s);
        counted = ap in_use e' ∙ k.counted ∙ ap (λ (n : InUse). counts n.threads (suc n.cells) n.frames) h.counted
            ∙ (let y : suc (1 + (in_use run).cells) ≡ 2 + (in_use run).cells = omega arith in ap (λ (k : ℕ). counts (in_use run).threads k (in_use run).frames) y);
      }

module _ {run b : Bytes} {n : ℕ} (h : Pushed run b n) where
  pub cell_ready : suc n + (in_use run).cells ≤ cell_limit → (run_size ≤ length b) × ((in_use b).cells < cell_limit)
  cell_ready l = let e = ap (λ (n : InUse). n.cells) h.counted in (h.long, omega (arith, e, l))

  pub frame_ready : 1 + (in_use run).frames ≤ frame_limit → (run_size ≤ length b) × ((in_use b).frames < frame_limit)
  frame_ready l = let e = ap (λ (n : InUse). n.frames) h.counted in (h.long, omega (arith, e, l))

  pub thread_ready : 1 + (in_use run).threads ≤ thread_limit → (run_size ≤ length b) × ((in_use b).threads < thread_limit)
  thread_ready l = let e = ap (λ (n : InUse). n.threads) h.counted in (h.long, omega (arith, e, l))

-- ---- the five kinds of moves, each with what it pushes

module _ (run : Bytes) (ts : List ThreadRecord) (h : Lends run ts) (n : ℕ) (t : ThreadRecord) where
  pub bind_made : (cell : Cell) → has_room (in_use run) 1 0 0 ≡ true
      → LeavesRun (made run ts (some ((n, change_of (cell ∷ []) [] t []) ∷ []))) (Ok (in_use (push_cell run cell)).threads) (push_cell run cell) (set ts n t)
  unfolding bytes_all threads_all bytes_after threads_after push_cells push_frames push_threads placed
  bind_made cell e = made_accepted run ts h ((n, change_of (cell ∷ []) [] t []) ∷ []) (takes_one n (change_of (cell ∷ []) [] t [])) e

  pub spawn_made : (cell : Cell) (born : ThreadRecord) → has_room (in_use run) 1 0 1 ≡ true
      → LeavesRun (made run ts (some ((n, change_of (cell ∷ []) [] t (born ∷ [])) ∷ []))) (Ok (in_use (push_thread (push_cell run cell))).threads) (push_thread (push_cell run cell)) (set (set ts n t) (in_use run).threads born)
  unfolding bytes_all threads_all bytes_after threads_after push_cells push_frames push_threads placed
  spawn_made cell born e = made_accepted run ts h ((n, change_of (cell ∷ []) [] t (born ∷ [])) ∷ []) (takes_one n (change_of (cell ∷ []) [] t (born ∷ []))) e

  pub enter_made : (cell : Cell) (frame : Frame) → has_room (in_use run) 1 1 0 ≡ true
      → LeavesRun (made run ts (some ((n, change_of (cell ∷ []) (frame ∷ []) t []) ∷ []))) (Ok (in_use (push_frame (push_cell run cell) frame)).threads) (push_frame (push_cell run cell) frame) (set ts n t)
  unfolding bytes_all threads_all bytes_after threads_after push_cells push_frames push_threads placed
  enter_made cell frame e = made_accepted run ts h ((n, change_of (cell ∷ []) (frame ∷ []) t []) ∷ []) (takes_one n (change_of (cell ∷ []) (frame ∷ []) t [])) e

  pub apply_made : (parameter own : Cell) (frame : Frame) → has_room (in_use run) 2 1 0 ≡ true
      → LeavesRun (made run ts (some ((n, change_of (parameter ∷ own ∷ []) (frame ∷ []) t []) ∷ []))) (Ok (in_use (push_frame (push_cell (push_cell run own) parameter) frame)).threads) (push_frame (push_cell (push_cell run own) parameter) frame) (set ts n t)
  unfolding bytes_all threads_all bytes_after threads_after push_cells push_frames push_threads placed
  apply_made parameter own frame e = made_accepted run ts h ((n, change_of (parameter ∷ own ∷ []) (frame ∷ []) t []) ∷ []) (takes_one n (change_of (parameter ∷ own ∷ []) (frame ∷ []) t [])) e

  pub both_made : (received : Cell) (l : ℕ) (sent : Cell) (s : ThreadRecord) → has_room (in_use run) 2 0 0 ≡ true
      → LeavesRun (made run ts (some ((n, change_of (received ∷ []) [] t []) ∷ (l, change_of (sent ∷ []) [] s []) ∷ []))) (Ok (in_use (push_cell (push_cell run received) sent)).threads) (push_cell (push_cell run received) sent) (set (set ts n t) l s)
  unfolding bytes_all threads_all bytes_after threads_after push_cells push_frames push_threads placed
  both_made received l sent s e =
      made_accepted run ts h ((n, change_of (received ∷ []) [] t []) ∷ (l, change_of (sent ∷ []) [] s []) ∷ []) (takes_two n l (change_of (received ∷ []) [] t []) (change_of (sent ∷ []) [] s [])) e

-- nothing is found: 30
pub none_made : (run : Bytes) (ts : List ThreadRecord) → LeavesRun (made run ts none) (Err (refusal MoveNotAllowed 0)) run ts
unfolding made
none_made run ts = record { answer_is = refl; run_is = refl; threads_are = refl }
