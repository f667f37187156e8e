-- What beginning and moves leave is never refused as unsound (22).
use Prim.Native.Nat.{ℕ, zero, suc, ◌≤◌, ◌<◌}
use native.Mathlib.Omega.{arith}
use mathlib.Core.Bool.{◌&&◌, So}
use mathlib.Core.List.{List, [], ◌∷◌}
use Rattle.std.specs.Prelude.{None as none, Some as some}
use mathlib.Core.Path.{◌≡◌, refl, sym, ◌∙◌, subst}
use lib.ListN.{length}
use borrow.Author.Tests.{lt-ltb, le-leb}
use Rattle.program.specs.Each.{every, Each, ◌&◌}
use Rattle.program.specs.Program.{Program}
use Rattle.program.specs.Run.{Path, Instance, Pool}
use Rattle.program.proofs.Test.{and_intro}
use Rattle.program.proofs.WellFormed.{WellFormed}
use Rattle.machine.specs.declared.ThreadRecord.{ThreadRecord}
use Rattle.machine.specs.declared.Frame.{Frame}
use Rattle.machine.specs.declared.Held.{Held}
use Rattle.machine.specs.declared.Held.TheVariants.{Channel, Closure}
use Rattle.machine.specs.declared.Kept.{Kept}
use Rattle.machine.specs.declared.Kept.TheVariants.{Makes, Keeps}
use Rattle.machine.specs.Machine.{Machine, thread_at, begin, Order, watched, sound_kept, sound_cells, sound_frame, sound_thread, sound}
use Rattle.machine.specs.Meaning.{Marked, cells, count, own_at, Marks, memory_of}
use Rattle.machine.proofs.Meaning.{own_older, KeptIn, CellsIn, FramesIn, ThreadIn}
use Rattle.machine.proofs.Leaves.{no_some}
use Rattle.machine.proofs.Stands.{Stands}
use Rattle.machine.proofs.There.{CellThere, KeptThere, FrameThere, ThreadThere, MemoryThere, MachineThere, watched_there, begin_there}
use Rattle.machine.proofs.Watched.{from_begin}

-- no channel has the number 0
no_own : (cs : List Marked) → own_at cs 0 ≡ none
unfolding own_at
no_own [] = refl
no_own (c ∷ cs) = own_older c cs 0 (omega arith) ∙ no_own cs

own_number : (cs : List Marked) (k : ℕ) (i : Instance) → own_at cs k ≡ some i → 0 < k
own_number cs zero i e = no_some (no_own cs) e
own_number cs (suc k) i e = omega arith

module _ (p : Program) where
  kept_sound : (cs : List Marked) (k : Kept) → KeptIn cs k → KeptThere p k → So (sound_kept p (count cs) k)
  unfolding sound_kept
  kept_sound cs Makes h t = refl
  kept_sound cs (Keeps Held.Unit) h t = refl
  kept_sound cs (Keeps (Channel k)) (l, (i, e)) t = and_intro (lt-ltb 0 k (own_number cs k i e)) (le-leb k (count cs) l)
  kept_sound cs (Keeps (Closure r k)) l t = and_intro t (le-leb k (count cs) l)

  cells_sound : (cs : List Marked) → CellsIn cs → Each (CellThere p) (cells cs) → So (sound_cells p (cells cs))
  unfolding sound_cells
  cells_sound [] h t = refl
  cells_sound (c ∷ cs) (o, k, h) ((n, a) & t) = and_intro (and_intro (and_intro n (le-leb c.cell.older (count cs) o)) (kept_sound cs c.cell.kept k a)) (cells_sound cs h t)

  frames_sound : (g : Marks) (fs : List Frame) → length fs ≤ length g.frames → FramesIn g.cells fs → Each (FrameThere p) fs → So (every (sound_frame p (memory_of g)) fs)
  unfolding sound_frame every
  frames_sound g [] l h t = refl
  frames_sound g (f ∷ fs) l (c, o, h) ((n, r) & t) =
      and_intro (and_intro (and_intro (and_intro n r) (le-leb f.cell (count g.cells) c)) (le-leb f.older (length g.frames) (omega arith))) (frames_sound g fs (omega arith) h t)

  threads_sound : (g : Marks) (ts : List ThreadRecord) → ((n : ℕ) (t : ThreadRecord) → thread_at ts n ≡ some t → ThreadIn g.cells g.frames t) → Each (ThreadThere p) ts
      → So (every (sound_thread p (memory_of g)) ts)
  unfolding sound_thread every thread_at
  threads_sound g [] h t = refl
  threads_sound g (x ∷ ts) h (r & t) =
      let i = h 0 x refl in
      and_intro (and_intro (and_intro r (le-leb x.cell (count g.cells) i.cell)) (le-leb x.frame (length g.frames) i.frame)) (threads_sound g ts (λ n u e. h (suc n) u e) t)

  stands_sound : (m : Machine) (pool : Pool) (path : ℕ → Path) → Stands m pool path → MachineThere p m → So (sound p m)
  unfolding sound
  stands_sound m pool path h t =
      let g : Marks = h.marks in
      let w : MemoryThere p (memory_of g) = subst (MemoryThere p) h.same t.memory in
      subst (λ x. So (sound_cells p x.cells && every (sound_frame p x) x.frames && every (sound_thread p x) m.threads)) (sym h.same)
      (and_intro (and_intro (cells_sound g.cells h.meant.cells w.cells) (frames_sound g g.frames (omega arith) h.meant.frames w.frames))
      (threads_sound g m.threads h.inside t.threads))

  -- 22 is never given on what beginning and moves left
  pub watched-sound : WellFormed p → 0 < length p → (os : List Order) → So (sound p (watched p begin os))
  watched-sound well l os = let e = from_begin p os in stands_sound (watched p begin os) _ e.last e.stands (watched_there p well os begin (begin_there p well l))
