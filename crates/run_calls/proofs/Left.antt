-- What changes leave in run memory and thread records is the machine after them.
use Prim.Native.Nat.{ℕ, ◌+◌, ◌≤◌}
use native.Mathlib.Omega.{arith}
use mathlib.Core.Bool.{Bool, ◌&&◌, So}
use mathlib.Core.List.{List, [], ◌∷◌}
use mathlib.Core.Path.{◌≡◌, refl, sym, ◌∙◌, ap, subst}
use lib.ListN.{length, set, length-take, length-append, length-set}
use lib.Dec.{leb}
use borrow.Author.Tests.{leb-true}
use Rattle.format.specs.Text.{Bytes}
use Rattle.program.proofs.Test.{and_left, and_right}
use Rattle.machine.specs.declared.ThreadRecord.{ThreadRecord}
use Rattle.machine.specs.Machine.{Machine, Change, grown, changed, changed_all, within, cell_limit, frame_limit, thread_limit}
use Rattle.run_memory.specs.declared.InUse.{InUse}
use Rattle.run_memory.specs.RunMemory.{in_use, memory_in, machine_in, has_room, bytes_after, threads_after}
use Rattle.run_memory.proofs.Codec.{length_cells, length_frames, bytes_after_lem, length-threads_after, machine_after}
use Rattle.run_calls.specs.RunCalls.{Lends, bytes_all, threads_all}

-- how much is in use in a machine
pub record Uses (m : Machine) (a b k : ℕ) : Type 0 where
  pub cells : length m.memory.cells ≡ a
  pub frames : length m.memory.frames ≡ b
  pub threads : length m.threads ≡ k

-- the same in run memory, where there is a record for each thread
pub uses_in : (run : Bytes) (ts : List ThreadRecord) → (in_use run).threads ≤ length ts → Uses (machine_in run ts) (in_use run).cells (in_use run).frames (in_use run).threads
unfolding machine_in memory_in
uses_in run ts l = record {
  cells = length_cells run (in_use run).cells;
  frames = length_frames run (in_use run).frames;
  threads = length-take (in_use run).threads ts ∙ omega (arith, l);
}

pub uses_changed : (m : Machine) (a b k n : ℕ) (c : Change) → Uses m a b k → Uses (changed m n c) (length c.cells + a) (length c.frames + b) (length c.born + k)
unfolding changed grown
uses_changed m a b k n c u = record {
  cells = length-append c.cells m.memory.cells ∙ ap (λ (x : ℕ). length c.cells + x) u.cells;
  frames = length-append c.frames m.memory.frames ∙ ap (λ (x : ℕ). length c.frames + x) u.frames;
  threads = length-append (set m.threads n c.thread) c.born ∙ (let q = length-set m.threads n c.thread in let r = u.threads in omega (arith, q, r));
}

-- nothing is given back
pub grows : (cs : List (ℕ × Change)) (m : Machine) (a b k : ℕ) → Uses m a b k
    → (a ≤ length (changed_all m cs).memory.cells) × (b ≤ length (changed_all m cs).memory.frames) × (k ≤ length (changed_all m cs).threads)
unfolding changed_all
grows [] m a b k u = let x = u.cells in let y = u.frames in let z = u.threads in (omega (arith, x), omega (arith, y), omega (arith, z))
grows ((n, c) ∷ cs) m a b k u =
    let (x, y, z) = grows cs (changed m n c) _ _ _ (uses_changed m a b k n c u) in (omega (arith, x), omega (arith, y), omega (arith, z))

pub record Within (m : Machine) : Type 0 where
  pub cells : length m.memory.cells ≤ cell_limit
  pub frames : length m.memory.frames ≤ frame_limit
  pub threads : length m.threads ≤ thread_limit

pub within_told : (m : Machine) → So (within m) → Within m
unfolding within
within_told m h =
    let a : Bool = leb (length m.memory.cells) cell_limit in
    let b : Bool = leb (length m.memory.frames) frame_limit in
    let c : Bool = leb (length m.threads) thread_limit in
    record { cells = leb-true _ _ (and_left a b (and_left (a && b) c h)); frames = leb-true _ _ (and_right a b (and_left (a && b) c h)); threads = leb-true _ _ (and_right (a && b) c h) }

-- what a list of changes takes
pub record Takes (cs : List (ℕ × Change)) (cells frames threads : ℕ) : Type 0 where
  pub uses : (m : Machine) (a b k : ℕ) → Uses m a b k → Uses (changed_all m cs) (cells + a) (frames + b) (threads + k)

pub takes_one : (n : ℕ) (c : Change) → Takes ((n, c) ∷ []) (length c.cells) (length c.frames) (length c.born)
unfolding changed_all
takes_one n c = record { uses = λ m a b k u. uses_changed m a b k n c u }

pub takes_two : (n l : ℕ) (c d : Change) → Takes ((n, c) ∷ (l, d) ∷ []) (length d.cells + length c.cells) (length d.frames + length c.frames) (length d.born + length c.born)
unfolding changed_all
takes_two n l c d = record {
  uses = λ m a b k u. (
      let v = uses_changed (changed m n c) _ _ _ l d (uses_changed m a b k n c u) in
      let x = v.cells in
      let y = v.frames in
      let z = v.threads in
      record { cells = omega (arith, x); frames = omega (arith, y); threads = omega (arith, z) });
}

module _ (run : Bytes) (ts : List ThreadRecord) (lent : (in_use run).threads ≤ length ts) where
  -- 31 is told by what is in use and what the changes take
  pub within_room : (cs : List (ℕ × Change)) {cells frames threads : ℕ} → Takes cs cells frames threads → within (changed_all (machine_in run ts) cs) ≡ has_room (in_use run) cells frames threads
  unfolding within has_room
  within_room cs h = let u = h.uses _ _ _ _ (uses_in run ts lent) in rw (u.cells, u.frames, u.threads)

-- one change: what it leaves is the machine after it, and as long as it was
module _ (run : Bytes) (ts : List ThreadRecord) (h : Lends run ts) (n : ℕ) (c : Change)
    (cells : length c.cells + (in_use run).cells ≤ cell_limit) (frames : length c.frames + (in_use run).frames ≤ frame_limit) (threads : length c.born + (in_use run).threads ≤ thread_limit)
  where
    pub left_one : machine_in (bytes_after run c) (threads_after run ts n c) ≡ changed (machine_in run ts) n c
    left_one = let l = h.records in machine_after run h.long ts n c cells frames (omega (arith, l, threads))

    pub lends_one : Lends (bytes_after run c) (threads_after run ts n c)
    lends_one =
        let b = bytes_after_lem run h.long c cells frames in
        let q = b.long in
        let e : (in_use (bytes_after run c)).threads ≡ length c.born + (in_use run).threads = ap (λ (n : InUse). n.threads) b.counted in
        let l = h.long in
        let r = h.records in
        let z = length-threads_after run ts n c in
        record { long = omega (arith, q, l); records = omega (arith, r, z); threads = omega (arith, e, threads) }

-- all changes of a move that exceeds no limit
pub record LeftAll (run : Bytes) (ts : List ThreadRecord) (cs : List (ℕ × Change)) : Type 0 where
  pub machine : machine_in (bytes_all run cs) (threads_all run ts cs) ≡ changed_all (machine_in run ts) cs
  pub lends : Lends (bytes_all run cs) (threads_all run ts cs)
  pub long : length (bytes_all run cs) ≡ length run
  pub records : length (threads_all run ts cs) ≡ length ts

pub left_all : (cs : List (ℕ × Change)) (run : Bytes) (ts : List ThreadRecord) → Lends run ts → Within (changed_all (machine_in run ts) cs) → LeftAll run ts cs
unfolding bytes_all threads_all changed_all
left_all [] run ts h w = record { machine = refl; lends = h; long = refl; records = refl }
left_all ((n, c) ∷ cs) run ts h w =
    let l : (in_use run).threads ≤ length ts = (let a = h.records in let b = h.threads in omega (arith, a, b)) in
    let (x, y, z) = grows cs (changed (machine_in run ts) n c) _ _ _ (uses_changed (machine_in run ts) _ _ _ n c (uses_in run ts l)) in
    let cells : length c.cells + (in_use run).cells ≤ cell_limit = (let q = w.cells in omega (arith, x, q)) in
    let frames : length c.frames + (in_use run).frames ≤ frame_limit = (let q = w.frames in omega (arith, y, q)) in
    let threads : length c.born + (in_use run).threads ≤ thread_limit = (let q = w.threads in omega (arith, z, q)) in
    let e = left_one run ts h n c cells frames threads in
    let k = left_all cs (bytes_after run c) (threads_after run ts n c) (lends_one run ts h n c cells frames threads) (subst (λ (m : Machine). Within (changed_all m cs)) (sym e) w) in
    record {
      machine = k.machine ∙ ap (λ (m : Machine). changed_all m cs) e;
      lends = k.lends;
      long = k.long ∙ (bytes_after_lem run h.long c cells frames).long;
      records = k.records ∙ length-threads_after run ts n c;
    }
