-- Looking for a name in the cells of run memory, cell by cell.
use Prim.Native.Nat.{ℕ, zero, suc, ◌≤◌, ◌<◌}
use native.Mathlib.Omega.{arith}
use native.Mathlib.Decide.{ℕ_discrete}
use Rattle.std.specs.Prelude.{None as none, Some as some}
use mathlib.Core.Path.{◌≡◌, refl, sym, ◌∙◌, ap, subst}
use lib.Dec.{eqb}
use borrow.Author.Tests.{eq-eqb, ne_eqb}
use Rattle.program.specs.Test.{pick}
use Rattle.format.specs.Text.{Bytes}
use Rattle.machine.specs.declared.Cell.{Cell}
use Rattle.machine.specs.declared.Held.{Held}
use Rattle.machine.specs.declared.Held.TheVariants.{Channel, Closure}
use Rattle.machine.specs.Machine.{held_by, numbered, find, channel_held_by, closure_held_by}
use Rattle.run_memory.specs.RunMemory.{cell_at, frame_at, cells_in, frames_in}
use Rattle.run_memory.proofs.Codec.{length_cells, length_frames}

module _ (b : Bytes) (x : ℕ) where
  -- the newest cell
  pub find_newest : (j : ℕ) → find (cells_in b (suc j)) (suc j) x ≡ pick (eqb x (cell_at b (suc j)).name) (some (held_by (suc j) (cell_at b (suc j)).kept)) (find (cells_in b j) (cell_at b (suc j)).older x)
  unfolding find cells_in
  find_newest j = rw (length_cells b j, eq-eqb (suc j) (suc j) refl)

  newer : (j k : ℕ) → (k ≡ suc j → ⊥) → find (cells_in b (suc j)) k x ≡ find (cells_in b j) k x
  unfolding find cells_in
  newer j k d = rw (length_cells b j, ne_eqb k (suc j) d)

  -- a cell that isn't there
  pub find_above : (n k : ℕ) → n < k → find (cells_in b n) k x ≡ none
  unfolding find cells_in
  find_above zero k l = refl
  find_above (suc n) k l = newer n k (λ e. absurd (omega arith)) ∙ find_above n k (omega arith)

  -- newer cells are passed over
  pub find_from : (n k : ℕ) → k ≤ n → find (cells_in b n) k x ≡ find (cells_in b k) k x
  find_from zero k l = let e : k ≡ 0 = omega arith in subst (λ (j : ℕ). find (cells_in b 0) j x ≡ find (cells_in b j) j x) (sym e) refl
  find_from (suc n) k l = go (ℕ_discrete k (suc n)) (find_from n k)
    where
      go : Dec (k ≡ suc n) → (k ≤ n → find (cells_in b n) k x ≡ find (cells_in b k) k x) → find (cells_in b (suc n)) k x ≡ find (cells_in b k) k x
      go (yes e) h = subst (λ (j : ℕ). find (cells_in b j) k x ≡ find (cells_in b k) k x) e refl
      go (no d) h = newer n k d ∙ h (omega (arith, l, d))

  pub find_none : (k : ℕ) → (0 < k → ⊥) → find (cells_in b k) k x ≡ none
  unfolding find cells_in
  find_none zero l = refl
  find_none (suc k) l = absurd (l (omega arith))

  -- a cell that was read: it has the name
  pub find_here : (k : ℕ) (c : Cell) → 0 < k → c ≡ cell_at b k → c.name ≡ x → some (held_by k c.kept) ≡ find (cells_in b k) k x
  find_here zero c l e h = absurd (omega arith)
  find_here (suc j) c l e h =
      let q : x ≡ (cell_at b (suc j)).name = sym h ∙ ap (λ (c : Cell). c.name) e in
      ap (λ (c : Cell). some (held_by (suc j) c.kept)) e ∙ sym (find_newest j ∙ rw (eq-eqb x (cell_at b (suc j)).name q))

  other : (j : ℕ) (c : Cell) → c ≡ cell_at b (suc j) → (c.name ≡ x → ⊥) → find (cells_in b j) c.older x ≡ find (cells_in b (suc j)) (suc j) x
  other j c e d =
      ap (λ (c : Cell). find (cells_in b j) c.older x) e
      ∙ sym (find_newest j ∙ rw (ne_eqb x (cell_at b (suc j)).name (λ q. d (ap (λ (c : Cell). c.name) e ∙ sym q))))

  -- it has another, and names one that isn't older
  pub find_stuck : (k : ℕ) (c : Cell) → 0 < k → c ≡ cell_at b k → (c.name ≡ x → ⊥) → k ≤ c.older → none ≡ find (cells_in b k) k x
  find_stuck zero c l e d g = absurd (omega arith)
  find_stuck (suc j) c l e d g = sym (find_above j c.older (omega (arith, g))) ∙ other j c e d

  -- it has another, and the look-up goes on at an older one
  pub find_older : (k : ℕ) (c : Cell) → 0 < k → c ≡ cell_at b k → (c.name ≡ x → ⊥) → c.older < k → find (cells_in b c.older) c.older x ≡ find (cells_in b k) k x
  find_older zero c l e d g = absurd (omega arith)
  find_older (suc j) c l e d g = sym (find_from j c.older (omega (arith, g))) ∙ other j c e d

-- ---- a frame by its number

module _ (b : Bytes) where
  pub frame_above : (n k : ℕ) → n < k → numbered (frames_in b n) k ≡ none
  unfolding numbered frames_in
  frame_above zero k l = refl
  frame_above (suc n) k l = rw (length_frames b n, ne_eqb k (suc n) (λ e. absurd (omega arith))) (frame_above n k (omega arith))

  pub frame_zero : (n : ℕ) → numbered (frames_in b n) 0 ≡ none
  unfolding numbered frames_in
  frame_zero zero = refl
  frame_zero (suc n) = rw (length_frames b n, ne_eqb 0 (suc n) (λ e. absurd (omega arith))) (frame_zero n)

  pub frame_there : (n k : ℕ) → 0 < k → k ≤ n → numbered (frames_in b n) k ≡ some (frame_at b k)
  unfolding numbered frames_in
  frame_there zero k l g = absurd (omega arith)
  frame_there (suc n) k l g = go (ℕ_discrete k (suc n)) (frame_there n k l)
    where
      go : Dec (k ≡ suc n) → (k ≤ n → numbered (frames_in b n) k ≡ some (frame_at b k)) → numbered (frames_in b (suc n)) k ≡ some (frame_at b k)
      go (yes e) h = rw (length_frames b n, eq-eqb k (suc n) e) (ap (λ (j : ℕ). some (frame_at b j)) (sym e))
      go (no d) h = rw (length_frames b n, ne_eqb k (suc n) d) (h (omega (arith, g, d)))

-- ---- what is held and is no channel, or no closure

pub no_channel : (h : Held) → ((k : ℕ) → h ≡ Channel k → ⊥) → channel_held_by h ≡ none
unfolding channel_held_by
no_channel Held.Unit n = refl
no_channel (Channel k) n = absurd (n k refl)
no_channel (Closure r k) n = refl

pub no_closure : (h : Held) → ((r k : ℕ) → h ≡ Closure r k → ⊥) → closure_held_by h ≡ none
unfolding closure_held_by
no_closure Held.Unit n = refl
no_closure (Channel k) n = refl
no_closure (Closure r k) n = absurd (n r k refl)
