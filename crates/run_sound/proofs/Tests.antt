-- What the tests of a row and of a name answer. All cells, frames and threads by the last one and those before it.
-- A run whose counts are within the limits.
use Prim.Native.Nat.{ℕ, zero, suc, ◌+◌, ◌-◌, ◌≤◌, ◌<◌, min}
use native.Mathlib.Omega.{arith}
use mathlib.Core.Bool.{Bool, true, false, ◌&&◌, So, false≢true}
use mathlib.Core.List.{List}
use mathlib.Core.Path.{◌≡◌, refl, sym, ◌∙◌, ap}
use lib.ListN.{length, take, drop, get_or, drop_of_length-le}
use lib.Dec.{leb}
use borrow.Author.Tests.{lt-ltb, le-ltb, leb-true}
use Rattle.std.proofs.Math.Nat.{min_comm}
use Rattle.std.proofs.Math.Seq.{drop-cons}
use Rattle.std.proofs.lemmas.List.{take_min}
use Rattle.program.specs.Each.{every, collect}
use Rattle.program.specs.Program.{Program, binders}
use Rattle.format.specs.Text.{Bytes, byte_at}
use Rattle.machine.specs.declared.ThreadRecord.{ThreadRecord}
use Rattle.machine.specs.declared.Cell.{Cell}
use Rattle.machine.specs.declared.Frame.{Frame}
use Rattle.machine.specs.Machine.{cell_limit, frame_limit, thread_limit, row_there, name_there, sound_cells, sound_frame, sound_thread, sound}
use Rattle.run_memory.specs.declared.InUse.{InUse}
use Rattle.run_memory.specs.RunMemory.{in_use, cell_at, frame_at, cells_in, frames_in, memory_in, machine_in, InLimits, within_limits, sound_run}
use Rattle.run_memory.proofs.Codec.{length_cells, length_frames}
use Rattle.store.specs.Rows.{store_program}
use Rattle.store.proofs.Laws.{program_length}
use Rattle.seen.specs.Seen.{Marks}
use Rattle.seen.proofs.Marking.{flag_set, flag_clear}
use Rattle.run_sound.specs.Known.{Known, Counted, sound_cell}

-- ---- a row and a name

module _ (p : Program) (n r : ℕ) (e : length p ≡ n) where
  pub row_there_lem : r < n → row_there p r ≡ true
  unfolding row_there
  row_there_lem l = lt-ltb r (length p) (omega (arith, e, l))

  pub no_row : n ≤ r → row_there p r ≡ false
  unfolding row_there
  no_row l = le-ltb r (length p) (omega (arith, e, l))

module _ {count : ℕ} {marks : Bytes} {p : Program} (k : Known count marks p) (n byte : ℕ) (e : byte ≡ byte_at marks n) where
  pub name_there_lem : (byte ≡ 0 → ⊥) → name_there p n ≡ true
  name_there_lem d = flag_set _ (λ z. d (e ∙ k.names.at n ∙ z))

  pub no_name : byte ≡ 0 → name_there p n ≡ false
  no_name z = flag_clear _ (sym (k.names.at n) ∙ sym e ∙ z)

-- what the marks of the names bound say of the program, and the counts of the memory
pub known : (n : ℕ) (s marks : Bytes) → Marks (collect binders (store_program n s)) marks → Known n marks (store_program n s)
unfolding name_there
known n s marks h = record { rows = program_length n s; names = record { at = h.tells.at } }

pub counted : (b : Bytes) (n : InUse) → n ≡ in_use b → Counted n (memory_in b)
unfolding memory_in
counted b n e =
    record {
      cells = length_cells b (in_use b).cells ∙ ap (λ (n : InUse). n.cells) (sym e);
      frames = length_frames b (in_use b).frames ∙ ap (λ (n : InUse). n.frames) (sym e);
    }

-- ---- all cells, frames and threads

module _ (b : Bytes) where
  cells_last : (p : Program) (k : ℕ) (c : Cell) → 0 < k → c ≡ cell_at b k → sound_cells p (cells_in b k) ≡ (sound_cell p (k - 1) c && sound_cells p (cells_in b (k - 1)))
  unfolding sound_cells sound_cell cells_in
  cells_last p zero c l e = absurd (omega arith)
  cells_last p (suc j) c l e = let q : suc j - 1 ≡ j = omega arith in rw (q, e, length_cells b j)

  -- by the answer of the last one's test
  module _ (p : Program) (k : ℕ) (c : Cell) (l : 0 < k) (e : c ≡ cell_at b k) {answer : Bool} (q : answer ≡ sound_cell p (k - 1) c) where
    pub cell_failed : answer ≡ false → sound_cells p (cells_in b k) ≡ false
    cell_failed z = cells_last p k c l e ∙ rw (sym q ∙ z)

    pub cell_passed : answer ≡ true → sound_cells p (cells_in b k) ≡ sound_cells p (cells_in b (k - 1))
    cell_passed z = cells_last p k c l e ∙ rw (sym q ∙ z)

  pub cells_none : (p : Program) (k : ℕ) → k ≤ 0 → sound_cells p (cells_in b k) ≡ true
  unfolding sound_cells cells_in
  cells_none p zero l = refl
  cells_none p (suc k) l = absurd (omega arith)

  frames_last : (f : Frame → Bool) (k : ℕ) (x : Frame) → 0 < k → x ≡ frame_at b k → every f (frames_in b k) ≡ (f x && every f (frames_in b (k - 1)))
  unfolding every frames_in
  frames_last f zero x l e = absurd (omega arith)
  frames_last f (suc j) x l e = let q : suc j - 1 ≡ j = omega arith in rw (q, e)

  module _ (f : Frame → Bool) (k : ℕ) (x : Frame) (l : 0 < k) (e : x ≡ frame_at b k) {answer : Bool} (q : answer ≡ f x) where
    pub frame_failed : answer ≡ false → every f (frames_in b k) ≡ false
    frame_failed z = frames_last f k x l e ∙ rw (sym q ∙ z)

    pub frame_passed : answer ≡ true → every f (frames_in b k) ≡ every f (frames_in b (k - 1))
    frame_passed z = frames_last f k x l e ∙ rw (sym q ∙ z)

  pub frames_none : (f : Frame → Bool) (k : ℕ) → k ≤ 0 → every f (frames_in b k) ≡ true
  unfolding every frames_in
  frames_none f zero l = refl
  frames_none f (suc k) l = absurd (omega arith)

module _ (f : ThreadRecord → Bool) (d : ThreadRecord) (xs : List ThreadRecord) (k : ℕ) where
  threads_next : k < length xs → every f (drop k xs) ≡ (f (get_or xs k d) && every f (drop (k + 1) xs))
  unfolding every
  threads_next l = let q : k + 1 ≡ suc k = omega arith in rw (q, drop-cons xs k d l)

  module _ (l : k < length xs) {answer : Bool} (q : answer ≡ f (get_or xs k d)) where
    pub thread_failed : answer ≡ false → every f (drop k xs) ≡ false
    thread_failed z = threads_next l ∙ rw (sym q ∙ z)

    pub thread_passed : answer ≡ true → every f (drop k xs) ≡ every f (drop (k + 1) xs)
    thread_passed z = threads_next l ∙ rw (sym q ∙ z)

  pub threads_none : length xs ≤ k → every f (drop k xs) ≡ true
  unfolding every
  threads_none l = rw (drop_of_length-le xs {i = k} l)

-- the records of the threads in use, of those that there are
pub used_only : (xs : List ThreadRecord) (n m : ℕ) → m ≡ min (length xs) n → take m xs ≡ take n xs
used_only xs n m e = rw (e, min_comm (length xs) n) (take_min n xs)

-- ---- a run whose counts are within the limits

three : (a b c : Bool) → So (a && b && c) → So a × So b × So c
three true true c h = (refl, refl, h)
three true false c h = absurd (false≢true h)
three false b c h = absurd (false≢true h)

module _ (b : Bytes) (n : InUse) (e : n ≡ in_use b) (w : within_limits n ≡ true) where
  limits : So (leb n.threads thread_limit) × So (leb n.cells cell_limit) × So (leb n.frames frame_limit)
  unfolding within_limits
  limits = three _ _ _ w

  pub in_limits : InLimits b
  in_limits = record { cells = rw (← e) (leb-true _ _ limits.1); frames = rw (← e) (leb-true _ _ limits.2) }

  pub within : (p : Program) (ts : List ThreadRecord) → sound_run p b ts ≡ (sound_cells p (memory_in b).cells && every (sound_frame p (memory_in b)) (memory_in b).frames && every (sound_thread p (memory_in b)) (take (in_use b).threads ts))
  unfolding sound_run sound machine_in
  within p ts = rw (← e, w)
