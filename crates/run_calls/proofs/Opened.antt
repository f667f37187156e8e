-- What is known where a run opens.
use Prim.Native.Nat.{ℕ, ◌≤◌}
use native.Mathlib.Omega.{arith}
use mathlib.Core.Bool.{Bool, true, false, ◌&&◌, ◌||◌, So}
use mathlib.Core.List.{List}
use mathlib.Core.Path.{◌≡◌, refl, sym, ◌∙◌, ap}
use lib.ListN.{length, take}
use lib.Dec.{leb}
use borrow.Author.Tests.{le-ltb, ltb-false, leb-true, not-false}
use Rattle.program.specs.Program.{Program}
use Rattle.program.specs.Test.{pick}
use Rattle.program.proofs.Test.{and_left, and_right}
use Rattle.format.specs.declared.Refusal.{Refusal}
use Rattle.format.specs.Refusals.{Result, refused, accepted}
use Rattle.format.specs.Text.{Bytes}
use Rattle.format.specs.Document.{Document}
use Rattle.calls.specs.Calls.{is_empty, unsound, opened_fixed, opened}
use Rattle.calls.specs.Layout.{store_size, decode}
use Rattle.machine.specs.declared.ThreadRecord.{ThreadRecord}
use Rattle.machine.specs.Machine.{sound, cell_limit, frame_limit, thread_limit}
use Rattle.run_memory.specs.declared.InUse.{InUse}
use Rattle.run_memory.specs.RunMemory.{run_size, InLimits, in_use, machine_in, within_limits, sound_run}
use Rattle.run_calls.specs.RunCalls.{Lends, too_short, not_begun, run_opened}

pub or_false : (a b : Bool) → a || b ≡ false → (a ≡ false) × (b ≡ false)
or_false true b e = (e, let z : ◌≡◌ {A = ℕ} 0 1 = cc in absurd (omega arith))
or_false false b e = (refl, e)

-- not refused
pub passes : {A : Type 0} (b : Bool) (r : Refusal) (x : Result A) {a : A} → pick b (refused r) x ≡ accepted a → (b ≡ false) × (x ≡ accepted a)
passes true r x e = let z : ◌≡◌ {A = ℕ} 0 1 = cc in absurd (omega arith)
passes false r x e = (refl, e)

accepted_same : {A : Type 0} {a b : A} → accepted a ≡ accepted b → a ≡ b
accepted_same e = cc

-- a store that opens: what its tests told
pub fixed_told : (fixed : Bytes) (d : Document) → opened_fixed fixed ≡ accepted d → (is_empty fixed ≡ false) × (unsound fixed ≡ false) × (decode fixed ≡ d)
unfolding opened_fixed
fixed_told fixed d e = go (is_empty fixed) (unsound fixed) refl refl
  where
    go : (a b : Bool) → is_empty fixed ≡ a → unsound fixed ≡ b → (is_empty fixed ≡ false) × (unsound fixed ≡ false) × (decode fixed ≡ d)
    go true b p q = let f = rw (p, opened_fixed) at e in let z : ◌≡◌ {A = ℕ} 0 1 = cc in absurd (omega arith)
    go false true p q = let f = rw (p, q, opened_fixed) at e in let z : ◌≡◌ {A = ℕ} 0 1 = cc in absurd (omega arith)
    go false false p q = let f = rw (p, q, opened_fixed) at e in (p, q, accepted_same f)

pub long_opened : (store : Bytes) → store_size ≤ length store → opened store ≡ opened_fixed (take store_size store)
unfolding opened
long_opened store l = rw (le-ltb (length store) store_size l, opened)

-- everything that is lent is long enough
pub record LongEnough (store run : Bytes) (lent : ℕ) : Type 0 where
  pub store_long : store_size ≤ length store
  pub run_long : run_size ≤ length run
  pub records_lent : thread_limit ≤ lent

pub long_told : (store run : Bytes) (lent : ℕ) → too_short store run lent ≡ false → LongEnough store run lent
unfolding too_short
long_told store run lent e =
    let (ab, c) = or_false _ _ e in
    let (a, b) = or_false _ _ ab in
    record { store_long = ltb-false _ _ a; run_long = ltb-false _ _ b; records_lent = ltb-false _ _ c }

-- counts within the limits
module _ (n : InUse) (h : So (within_limits n)) where
  pub threads_within : n.threads ≤ thread_limit
  unfolding within_limits
  threads_within = leb-true _ _ (and_left (leb n.threads thread_limit) (leb n.cells cell_limit) (and_left (leb n.threads thread_limit && leb n.cells cell_limit) (leb n.frames frame_limit) h))

  pub cells_within : n.cells ≤ cell_limit
  unfolding within_limits
  cells_within = leb-true _ _ (and_right (leb n.threads thread_limit) (leb n.cells cell_limit) (and_left (leb n.threads thread_limit && leb n.cells cell_limit) (leb n.frames frame_limit) h))

  pub frames_within : n.frames ≤ frame_limit
  unfolding within_limits
  frames_within = leb-true _ _ (and_right (leb n.threads thread_limit && leb n.cells cell_limit) (leb n.frames frame_limit) h)

pub record RunIs (store run : Bytes) (lent : ℕ) (ts : List ThreadRecord) (p : Program) : Type 0 where
  pub long : LongEnough store run lent
  pub filled : is_empty (take store_size store) ≡ false
  pub begun : not_begun run ≡ false
  pub sound_store : unsound (take store_size store) ≡ false
  pub program_is : p ≡ (decode (take store_size store)).rows
  pub counts_within : So (within_limits (in_use run))
  pub sound-run : So (sound p (machine_in run ts))

module _ (store run : Bytes) (lent : ℕ) (ts : List ThreadRecord) (p : Program) where
  pub opened_told : run_opened store run lent ts ≡ accepted p → RunIs store run lent ts p
  unfolding run_opened sound_run
  opened_told e =
      let fixed : Bytes = take store_size store in
      let q : Program = (decode fixed).rows in
      let (short, e₁) = passes _ _ _ e in
      let (empty, e₂) = passes _ _ _ e₁ in
      let (bad, e₃) = passes _ _ _ e₂ in
      let (a, b) = or_false _ _ empty in
      let (c, d) = or_false _ _ bad in
      let same : q ≡ p = accepted_same e₃ in
      let s : So (within_limits (in_use run) && sound q (machine_in run ts)) = not-false _ d in
      record {
        long = long_told store run lent short;
        filled = a;
        begun = b;
        sound_store = c;
        program_is = sym same;
        counts_within = and_left (within_limits (in_use run)) (sound q (machine_in run ts)) s;
        sound-run = ap (λ (p : Program). sound p (machine_in run ts)) (sym same) ∙ and_right (within_limits (in_use run)) (sound q (machine_in run ts)) s;
      }

  module _ (h : RunIs store run lent ts p) where
    pub is_lent : thread_limit ≤ length ts → Lends run ts
    is_lent l = record { long = h.long.run_long; records = l; threads = threads_within (in_use run) h.counts_within }

    pub is_limited : InLimits run
    is_limited = record { cells = cells_within (in_use run) h.counts_within; frames = frames_within (in_use run) h.counts_within }
