-- The run memory: what is pushed is read back, and nothing else is altered.
use Prim.Native.Nat.{ℕ, zero, suc, ◌+◌, ◌*◌, ◌/◌, ◌%◌, ◌≤◌, ◌<◌}
use native.Mathlib.Omega.{arith}
use native.Mathlib.Nat.{mod-add-div}
use native.Mathlib.Decide.{dec_lt}
use mathlib.Core.List.{List, [], ◌∷◌, ◌++◌, append-nil}
use mathlib.Core.Path.{◌≡◌, refl, sym, ◌∙◌, ap, ap₂}
use mathlib.Core.Logic.{◌≢◌}
use lib.ListN.{length, get_or, set, take, replicate, length-set}
use lib.Seq.{append_snoc, sets, length-sets, get_or-set_same, get_or-set_other}
use Rattle.format.specs.Text.{Bytes}
use Rattle.machine.specs.declared.ThreadRecord.{ThreadRecord}
use Rattle.machine.specs.declared.Cell.{Cell}
use Rattle.machine.specs.declared.Frame.{Frame}
use Rattle.machine.specs.declared.Held.{Held}
use Rattle.machine.specs.declared.Held.TheVariants.{Channel, Closure}
use Rattle.machine.specs.declared.Kept.{Kept}
use Rattle.machine.specs.declared.Kept.TheVariants.{Makes, Keeps}
use Rattle.machine.specs.Machine.{Memory, Machine, Change, grown, newest, begin, changed, cell_limit, frame_limit}
use Rattle.run_memory.specs.declared.Slot.{Slot}
use Rattle.run_memory.specs.declared.InUse.{InUse}
use Rattle.run_memory.specs.RunMemory.{slot_size, run_size, slot, word_at, slot_at, slot_bytes, put_slot, kind_of, row_of, cell_of, slot_of_cell, slot_of_frame, kept_of, cell_of_slot, frame_of_slot, counts}
use Rattle.run_memory.specs.RunMemory.{in_use, cell_at, frame_at, cells_in, frames_in, memory_in, machine_in, counted, push_cell, push_frame, push_thread, push_cells, push_frames, push_threads, bytes_after, placed, threads_after}

-- ---- a run of stores

sets_before : (vs b : Bytes) (at j : ℕ) → j < at → get_or (sets b at vs) j 0 ≡ get_or b j 0
sets_before [] b at j l = refl
sets_before (v ∷ vs) b at j l = sets_before vs (set b at v) (suc at) j (omega arith) ∙ get_or-set_other b at j v 0 (λ e. absurd (omega arith))

sets_after : (vs b : Bytes) (at j : ℕ) → at + length vs ≤ j → get_or (sets b at vs) j 0 ≡ get_or b j 0
sets_after [] b at j l = refl
sets_after (v ∷ vs) b at j l = sets_after vs (set b at v) (suc at) j (omega arith) ∙ get_or-set_other b at j v 0 (λ e. absurd (omega arith))

sets_at : (vs b : Bytes) (at i : ℕ) → i < length vs → at + length vs ≤ length b → get_or (sets b at vs) (at + i) 0 ≡ get_or vs i 0
sets_at [] b at i l g = absurd (omega arith)
sets_at (v ∷ vs) b at zero l g =
    let q : at + 0 ≡ at = omega arith in
    ap (λ (j : ℕ). get_or (sets (set b at v) (suc at) vs) j 0) q ∙ sets_before vs (set b at v) (suc at) at (omega arith) ∙ get_or-set_same b at v 0 (omega arith)
sets_at (v ∷ vs) b at (suc i) l g =
    let q : at + suc i ≡ suc at + i = omega arith in
    ap (λ (j : ℕ). get_or (sets (set b at v) (suc at) vs) j 0) q ∙ sets_at vs (set b at v) (suc at) i (omega arith) (let z = length-set b at v in omega (arith, z))

-- ---- slots

-- bytes that agree on a slot
slot_alike : (b b' : Bytes) (k : ℕ) → ((i : ℕ) → i < slot_size → get_or b (slot_size * k + i) 0 ≡ get_or b' (slot_size * k + i) 0) → slot_at b k ≡ slot_at b' k
unfolding slot_at word_at
slot_alike b b' k h =
    let at : ℕ = slot_size * k in
    let z : get_or b at 0 ≡ get_or b' at 0 = (let e = h 0 (omega arith) in let q : at + 0 ≡ at = omega arith in sym (ap (λ (j : ℕ). get_or b j 0) q) ∙ e ∙ ap (λ (j : ℕ). get_or b' j 0) q) in
    let w : (i : ℕ) → i + 1 < slot_size → get_or b (at + i) 0 + 256 * get_or b (at + i + 1) 0 ≡ get_or b' (at + i) 0 + 256 * get_or b' (at + i + 1) 0 =
    λ i l. (let q : at + i + 1 ≡ at + (i + 1) = omega arith in ap₂ (λ (x y : ℕ). x + 256 * y) (h i (omega arith)) (ap (λ (j : ℕ). get_or b j 0) q ∙ h (i + 1) l ∙ sym (ap (λ (j : ℕ). get_or b' j 0) q))) in
    rw (z, h 1 (omega arith), h 2 (omega arith), w 3 (omega arith), w 5 (omega arith))

word : (n : ℕ) → n % 256 + 256 * (n / 256) ≡ n
word n = mod-add-div n 256

slot_same : (b : Bytes) (k : ℕ) (s : Slot) → slot_size * (k + 1) ≤ length b → slot_at (put_slot b k s) k ≡ s
unfolding slot_at word_at put_slot slot_bytes
slot_same b k s l =
    let at : ℕ = slot_size * k in
    let vs : Bytes = slot_bytes s in
    let z : get_or (sets b at vs) at 0 ≡ s.a = (let q : at ≡ at + 0 = omega arith in ap (λ (j : ℕ). get_or (sets b at vs) j 0) q ∙ sets_at vs b at 0 (omega arith) (omega arith)) in
    let g : (i : ℕ) → i < slot_size → get_or (sets b at vs) (at + i) 0 ≡ get_or vs i 0 = λ i m. sets_at vs b at i m (omega arith) in
    let w : (i : ℕ) → i + 1 < slot_size → get_or (sets b at vs) (at + i) 0 + 256 * get_or (sets b at vs) (at + i + 1) 0 ≡ get_or vs i 0 + 256 * get_or vs (i + 1) 0 =
    λ i m. (let q : at + i + 1 ≡ at + (i + 1) = omega arith in ap₂ (λ (x y : ℕ). x + 256 * y) (g i (omega arith)) (ap (λ (j : ℕ). get_or (sets b at vs) j 0) q ∙ g (i + 1) m)) in
    rw (z, g 1 (omega arith), g 2 (omega arith), w 3 (omega arith), w 5 (omega arith), word s.d, word s.e)

slot_other : (b : Bytes) (k j : ℕ) (s : Slot) → j ≢ k → slot_at (put_slot b k s) j ≡ slot_at b j
unfolding put_slot slot_bytes
slot_other b k j s d = slot_alike (put_slot b k s) b j (λ i l. go i l (dec_lt j k) (dec_lt k j))
  where
    go : (i : ℕ) → i < slot_size → Dec (j < k) → Dec (k < j) → get_or (put_slot b k s) (slot_size * j + i) 0 ≡ get_or b (slot_size * j + i) 0
    go i l (yes m) _ = sets_before (slot_bytes s) b (slot_size * k) (slot_size * j + i) (omega arith)
    go i l (no m) (yes n) = sets_after (slot_bytes s) b (slot_size * k) (slot_size * j + i) (omega arith)
    go i l (no m) (no n) = let q : j ≡ k = omega arith in absurd (d q)

length_put : (b : Bytes) (k : ℕ) (s : Slot) → length (put_slot b k s) ≡ length b
unfolding put_slot
length_put b k s = length-sets b (slot_size * k) (slot_bytes s)

-- ---- cells, frames and counts are read back

kept_back : (k : Kept) → kept_of (kind_of k) (row_of k) (cell_of k) ≡ k
unfolding kept_of
kept_back Makes = refl
kept_back (Keeps Held.Unit) = refl
kept_back (Keeps (Channel k)) = refl
kept_back (Keeps (Closure r k)) = refl

cell_back : (c : Cell) → cell_of_slot (slot_of_cell c) ≡ c
unfolding cell_of_slot slot_of_cell
cell_back c = rw (kept_back c.kept)

frame_back : (f : Frame) → frame_of_slot (slot_of_frame f) ≡ f
unfolding frame_of_slot slot_of_frame
frame_back f = refl

cells_same : (b : Bytes) (k : ℕ) (s : Slot) (n : ℕ) → ((j : ℕ) → suc j ≤ n → suc j ≢ k) → cells_in (put_slot b k s) n ≡ cells_in b n
unfolding cells_in cell_at
cells_same b k s zero h = refl
cells_same b k s (suc n) h = ap₂ ◌∷◌ (ap cell_of_slot (slot_other b k (suc n) s (h n (omega arith)))) (cells_same b k s n (λ j l. h j (omega arith)))

frames_same : (b : Bytes) (k : ℕ) (s : Slot) (n : ℕ) → ((j : ℕ) → suc j ≤ n → cell_limit + suc j ≢ k) → frames_in (put_slot b k s) n ≡ frames_in b n
unfolding frames_in frame_at
frames_same b k s zero h = refl
frames_same b k s (suc n) h = ap₂ ◌∷◌ (ap frame_of_slot (slot_other b k (cell_limit + suc n) s (h n (omega arith)))) (frames_same b k s n (λ j l. h j (omega arith)))

-- other counts: what is in use is read anew, and the cells and frames are as before
pub counted-in_use : (b : Bytes) (n : InUse) → run_size ≤ length b → in_use (counted b n) ≡ n
unfolding in_use counted
counted-in_use b n l = ap (λ (s : Slot). counts s.a s.d s.e) (slot_same b 0 (slot n.threads 0 0 n.cells n.frames) (omega arith))

counted_cells : (b : Bytes) (n : InUse) (k : ℕ) → cells_in (counted b n) k ≡ cells_in b k
unfolding counted
counted_cells b n k = cells_same b 0 _ k (λ j l e. absurd (omega arith))

counted_frames : (b : Bytes) (n : InUse) (k : ℕ) → frames_in (counted b n) k ≡ frames_in b k
unfolding counted
counted_frames b n k = frames_same b 0 _ k (λ j l e. absurd (omega arith))

pub length-counted : (b : Bytes) (n : InUse) → length (counted b n) ≡ length b
unfolding counted
length-counted b n = length_put b 0 _

-- as many cells and frames as there are numbers
pub length_cells : (b : Bytes) (n : ℕ) → length (cells_in b n) ≡ n
unfolding cells_in
length_cells b zero = refl
length_cells b (suc n) = ap suc (length_cells b n)

pub length_frames : (b : Bytes) (n : ℕ) → length (frames_in b n) ≡ n
unfolding frames_in
length_frames b zero = refl
length_frames b (suc n) = ap suc (length_frames b n)

-- the newest cell and frame
pub newest_is : (b : Bytes) → newest (memory_in b) ≡ (in_use b).cells
unfolding newest memory_in
newest_is b = length_cells b (in_use b).cells

pub frames_are : (b : Bytes) → length (memory_in b).frames ≡ (in_use b).frames
unfolding memory_in
frames_are b = length_frames b (in_use b).frames

-- ---- what is pushed: the bytes have so much in use, mean this memory, and are as long as they were

abbrev memory : List Cell → List Frame → Memory
memory cs fs = record { cells = cs; frames = fs }

pub record Holds (b : Bytes) (n : InUse) (m : Memory) (size : ℕ) : Type 0 where
  pub counted : in_use b ≡ n
  pub memory : memory_in b ≡ m
  pub long : length b ≡ size

-- the counts are written last
holds_counted : (b : Bytes) (n : InUse) (cs : List Cell) (fs : List Frame) (size : ℕ) → run_size ≤ length b → length b ≡ size → cells_in b n.cells ≡ cs → frames_in b n.frames ≡ fs → Holds (counted b n) n (memory cs fs) size
unfolding memory_in
holds_counted b n cs fs size long e c f =
    let u : in_use (counted b n) ≡ n = counted-in_use b n long in
    record {
      counted = u;
      memory = ap₂ memory (ap (λ (k : InUse). cells_in (counted b n) k.cells) u ∙ counted_cells b n n.cells ∙ c) (ap (λ (k : InUse). frames_in (counted b n) k.frames) u ∙ counted_frames b n n.frames ∙ f);
      long = length-counted b n ∙ e;
    }

module _ (b : Bytes) (long : run_size ≤ length b) where
  abbrev now : InUse
  now = in_use b

  pub cell_pushed : (c : Cell) → now.cells < cell_limit → now.frames ≤ frame_limit → Holds (push_cell b c) (counts now.threads (suc now.cells) now.frames) (memory (c ∷ (memory_in b).cells) (memory_in b).frames) (length b)
  unfolding push_cell cells_in cell_at memory_in
  cell_pushed c l f =
      let k : ℕ = suc now.cells in
      let b₁ : Bytes = put_slot b k (slot_of_cell c) in
      let e : length b₁ ≡ length b = length_put b k (slot_of_cell c) in
      holds_counted b₁ _ _ _ (length b) (omega (arith, e)) e
      (ap₂ ◌∷◌ (ap cell_of_slot (slot_same b k (slot_of_cell c) (omega arith)) ∙ cell_back c) (cells_same b k (slot_of_cell c) now.cells (λ j g z. absurd (omega arith))))
      (frames_same b k (slot_of_cell c) now.frames (λ j g z. absurd (omega arith)))

  pub frame_pushed : (f : Frame) → now.cells ≤ cell_limit → now.frames < frame_limit → Holds (push_frame b f) (counts now.threads now.cells (suc now.frames)) (memory (memory_in b).cells (f ∷ (memory_in b).frames)) (length b)
  unfolding push_frame frames_in frame_at memory_in
  frame_pushed f c l =
      let k : ℕ = cell_limit + suc now.frames in
      let b₁ : Bytes = put_slot b k (slot_of_frame f) in
      let e : length b₁ ≡ length b = length_put b k (slot_of_frame f) in
      holds_counted b₁ _ _ _ (length b) (omega (arith, e)) e
      (cells_same b k (slot_of_frame f) now.cells (λ j g z. absurd (omega arith)))
      (ap₂ ◌∷◌ (ap frame_of_slot (slot_same b k (slot_of_frame f) (omega arith)) ∙ frame_back f) (frames_same b k (slot_of_frame f) now.frames (λ j g z. absurd (omega arith))))

  pub thread_pushed : Holds (push_thread b) (counts (suc now.threads) now.cells now.frames) (memory_in b) (length b)
  unfolding push_thread memory_in
  thread_pushed = holds_counted b _ _ _ (length b) long refl refl refl

  -- "it leaves thread 0 at row 0 and nothing else in use", whatever the bytes were
  pub begun : (ts : List ThreadRecord) → 0 < length ts → machine_in (counted b (counts 1 0 0)) (set ts 0 (record { row = 0; cell = 0; frame = 0 })) ≡ begin
  unfolding machine_in memory_in begin cells_in frames_in
  begun [] l = absurd (omega arith)
  begun (t ∷ ts) l =
      let b₁ : Bytes = counted b (counts 1 0 0) in
      ap (λ (k : InUse). made (take k.threads (record { row = 0; cell = 0; frame = 0 } ∷ ts)) (cells_in b₁ k.cells) (frames_in b₁ k.frames)) (counted-in_use b (counts 1 0 0) long)
    where
      made : List ThreadRecord → List Cell → List Frame → Machine
      made ts cs fs = record { threads = ts; memory = memory cs fs }

-- a run not begun, all bytes zero, has no thread in use
pub not_begun_lem : (n : ℕ) → (in_use (replicate n 0)).threads ≡ 0
unfolding in_use slot_at
not_begun_lem zero = refl
not_begun_lem (suc n) = refl

-- ---- a change

module _ (b : Bytes) (long : run_size ≤ length b) where
  cells_pushed : (cs : List Cell) → length cs + (in_use b).cells ≤ cell_limit → (in_use b).frames ≤ frame_limit
      → Holds (push_cells b cs) (counts (in_use b).threads (length cs + (in_use b).cells) (in_use b).frames) (memory (cs ++ (memory_in b).cells) (memory_in b).frames) (length b)
  unfolding push_cells
  cells_pushed [] l f = record { counted = let q : (in_use b).cells ≡ 0 + (in_use b).cells = omega arith in ap (λ (k : ℕ). counts (in_use b).threads k (in_use b).frames) q; memory = refl; long = refl }
  cells_pushed (c ∷ cs) l f =
      let h = cells_pushed cs (omega arith) f in
      let b₁ : Bytes = push_cells b cs in
      let u : (in_use b₁).cells ≡ length cs + (in_use b).cells = ap (λ (n : InUse). n.cells) h.counted in
      let v : (in_use b₁).frames ≡ (in_use b).frames = ap (λ (n : InUse). n.frames) h.counted in
      let size : run_size ≤ length b₁ = (let q = h.long in omega (arith, q, long)) in
      let more : suc (length cs + (in_use b).cells) ≡ length (c ∷ cs) + (in_use b).cells = omega arith in
      let k = cell_pushed b₁ size c (omega (arith, u, l)) (omega (arith, v, f)) in
      record {
        counted = k.counted ∙ ap (λ (n : InUse). counts n.threads (suc n.cells) n.frames) h.counted ∙ ap (λ (k : ℕ). counts (in_use b).threads k (in_use b).frames) more;
        memory = k.memory ∙ ap (λ (m : Memory). memory (c ∷ m.cells) m.frames) h.memory;
        long = k.long ∙ h.long;
      }

  frames_pushed : (fs : List Frame) → (in_use b).cells ≤ cell_limit → length fs + (in_use b).frames ≤ frame_limit
      → Holds (push_frames b fs) (counts (in_use b).threads (in_use b).cells (length fs + (in_use b).frames)) (memory (memory_in b).cells (fs ++ (memory_in b).frames)) (length b)
  unfolding push_frames
  frames_pushed [] c l = record { counted = let q : (in_use b).frames ≡ 0 + (in_use b).frames = omega arith in ap (λ (k : ℕ). counts (in_use b).threads (in_use b).cells k) q; memory = refl; long = refl }
  frames_pushed (f ∷ fs) c l =
      let h = frames_pushed fs c (omega arith) in
      let b₁ : Bytes = push_frames b fs in
      let u : (in_use b₁).cells ≡ (in_use b).cells = ap (λ (n : InUse). n.cells) h.counted in
      let v : (in_use b₁).frames ≡ length fs + (in_use b).frames = ap (λ (n : InUse). n.frames) h.counted in
      let size : run_size ≤ length b₁ = (let q = h.long in omega (arith, q, long)) in
      let more : suc (length fs + (in_use b).frames) ≡ length (f ∷ fs) + (in_use b).frames = omega arith in
      let k = frame_pushed b₁ size f (omega (arith, u, c)) (omega (arith, v, l)) in
      record {
        counted = k.counted ∙ ap (λ (n : InUse). counts n.threads n.cells (suc n.frames)) h.counted ∙ ap (λ (k : ℕ). counts (in_use b).threads (in_use b).cells k) more;
        memory = k.memory ∙ ap (λ (m : Memory). memory m.cells (f ∷ m.frames)) h.memory;
        long = k.long ∙ h.long;
      }

  threads_pushed : (ts : List ThreadRecord) → Holds (push_threads b ts) (counts (length ts + (in_use b).threads) (in_use b).cells (in_use b).frames) (memory_in b) (length b)
  unfolding push_threads
  threads_pushed [] = record { counted = let q : (in_use b).threads ≡ 0 + (in_use b).threads = omega arith in ap (λ (k : ℕ). counts k (in_use b).cells (in_use b).frames) q; memory = refl; long = refl }
  threads_pushed (t ∷ ts) =
      let h = threads_pushed ts in
      let b₁ : Bytes = push_threads b ts in
      let size : run_size ≤ length b₁ = (let q = h.long in omega (arith, q, long)) in
      let more : suc (length ts + (in_use b).threads) ≡ length (t ∷ ts) + (in_use b).threads = omega arith in
      let k = thread_pushed b₁ size in
      record {
        counted = k.counted ∙ ap (λ (n : InUse). counts (suc n.threads) n.cells n.frames) h.counted ∙ ap (λ (k : ℕ). counts k (in_use b).cells (in_use b).frames) more;
        memory = k.memory ∙ h.memory;
        long = k.long ∙ h.long;
      }

-- the run memory after a change that exceeds no limit: what it takes stands in front, and the count of threads grows by the thread born
module _ (b : Bytes) (long : run_size ≤ length b) (c : Change) (cells : length c.cells + (in_use b).cells ≤ cell_limit) (frames : length c.frames + (in_use b).frames ≤ frame_limit) where
  pub bytes_after_lem : Holds (bytes_after b c) (counts (length c.born + (in_use b).threads) (length c.cells + (in_use b).cells) (length c.frames + (in_use b).frames)) (grown (memory_in b) c) (length b)
  unfolding bytes_after grown
  bytes_after_lem =
      let h = cells_pushed b long c.cells cells (omega (arith, frames)) in
      let b₁ : Bytes = push_cells b c.cells in
      let u : (in_use b₁).cells ≡ length c.cells + (in_use b).cells = ap (λ (n : InUse). n.cells) h.counted in
      let v : (in_use b₁).frames ≡ (in_use b).frames = ap (λ (n : InUse). n.frames) h.counted in
      let size : run_size ≤ length b₁ = (let q = h.long in omega (arith, q, long)) in
      let k = frames_pushed b₁ size c.frames (omega (arith, u, cells)) (omega (arith, v, frames)) in
      let b₂ : Bytes = push_frames b₁ c.frames in
      let size₂ : run_size ≤ length b₂ = (let q = k.long in omega (arith, q, size)) in
      let t = threads_pushed b₂ size₂ c.born in
      record {
        counted = t.counted ∙ ap (λ (n : InUse). counts (length c.born + n.threads) n.cells n.frames) k.counted
            ∙ ap (λ (n : InUse). counts (length c.born + n.threads) n.cells (length c.frames + n.frames)) h.counted;
        memory = t.memory ∙ k.memory ∙ ap (λ (m : Memory). memory m.cells (c.frames ++ m.frames)) h.memory;
        long = t.long ∙ k.long ∙ h.long;
      }

take_set : (n : ℕ) (ts : List ThreadRecord) (k : ℕ) (u : ThreadRecord) → take n (set ts k u) ≡ set (take n ts) k u
take_set zero ts k u = refl
take_set (suc n) [] k u = refl
take_set (suc n) (t ∷ ts) zero u = refl
take_set (suc n) (t ∷ ts) (suc k) u = ap (λ (l : List ThreadRecord). t ∷ l) (take_set n ts k u)

take_next : (ts : List ThreadRecord) (n : ℕ) (u : ThreadRecord) → n < length ts → take (suc n) (set ts n u) ≡ take n ts ++ (u ∷ [])
take_next [] n u l = absurd (omega arith)
take_next (t ∷ ts) zero u l = refl
take_next (t ∷ ts) (suc n) u l = ap (λ (l : List ThreadRecord). t ∷ l) (take_next ts n u (omega arith))

take-placed : (us ts : List ThreadRecord) (n : ℕ) → length us + n ≤ length ts → take (length us + n) (placed ts n us) ≡ take n ts ++ us
unfolding placed
take-placed [] ts n l = let q : 0 + n ≡ n = omega arith in ap (λ (k : ℕ). take k ts) q ∙ sym (append-nil (take n ts))
take-placed (u ∷ us) ts n l =
    let q : length (u ∷ us) + n ≡ length us + suc n = omega arith in
    let r : length us + suc n ≤ length (set ts n u) = (let z = length-set ts n u in omega (arith, z)) in
    ap (λ (k : ℕ). take k (placed (set ts n u) (suc n) us)) q ∙ take-placed us (set ts n u) (suc n) r
    ∙ ap (λ (l : List ThreadRecord). l ++ us) (take_next ts n u (omega arith)) ∙ append_snoc (take n ts) u us

pub length-placed : (us ts : List ThreadRecord) (n : ℕ) → length (placed ts n us) ≡ length ts
unfolding placed
length-placed [] ts n = refl
length-placed (u ∷ us) ts n = length-placed us (set ts n u) (suc n) ∙ length-set ts n u

pub length-threads_after : (b : Bytes) (ts : List ThreadRecord) (n : ℕ) (c : Change) → length (threads_after b ts n c) ≡ length ts
unfolding threads_after
length-threads_after b ts n c = length-placed c.born (set ts n c.thread) (in_use b).threads ∙ length-set ts n c.thread

abbrev machine_of : List ThreadRecord → Memory → Machine
machine_of ts m = record { threads = ts; memory = m }

-- after a change that exceeds no limit, the run memory and the thread records hold the machine after it
pub machine_after : (b : Bytes) → run_size ≤ length b → (ts : List ThreadRecord) → (n : ℕ) (c : Change)
    → length c.cells + (in_use b).cells ≤ cell_limit → length c.frames + (in_use b).frames ≤ frame_limit → length c.born + (in_use b).threads ≤ length ts
    → machine_in (bytes_after b c) (threads_after b ts n c) ≡ changed (machine_in b ts) n c
unfolding machine_in threads_after changed
machine_after b long ts n c l g t =
    let h = bytes_after_lem b long c l g in
    ap₂ machine_of
    (ap (λ (k : InUse). take k.threads (placed (set ts n c.thread) (in_use b).threads c.born)) h.counted
    ∙ take-placed c.born (set ts n c.thread) (in_use b).threads (let z = length-set ts n c.thread in omega (arith, z, t))
    ∙ ap (λ (l : List ThreadRecord). l ++ c.born) (take_set (in_use b).threads ts n c.thread))
    h.memory
