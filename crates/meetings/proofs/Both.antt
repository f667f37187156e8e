-- Both ends of a meeting, by the numbers that the code has.
use Prim.Native.Nat.{ℕ, suc, ◌+◌}
use native.Mathlib.Omega.{arith}
use mathlib.Core.List.{[], ◌∷◌}
use mathlib.Core.Path.{◌≡◌, ap₂}
use Rattle.program.specs.declared.Bind.{Bind}
use Rattle.format.specs.Text.{Bytes}
use Rattle.machine.specs.declared.ThreadRecord.{ThreadRecord}
use Rattle.machine.specs.declared.Held.{Held}
use Rattle.machine.specs.declared.Kept.TheVariants.{Keeps}
use Rattle.machine.specs.Machine.{bound, grown, newest, go_on, both_go_on}
use Rattle.run_memory.specs.declared.InUse.{InUse}
use Rattle.run_memory.specs.RunMemory.{in_use, memory_in}
use Rattle.thread_changes.specs.Changes.{change_of}
use Rattle.thread_changes.proofs.Rules.{newest_next}

-- the receiver takes the next cell, and the sender the one after it
pub both_go_on_lem : (run : Bytes) (s : ThreadRecord) (b : Bind) (r : ThreadRecord) (d : Bind) (v : Held) (n : InUse) → n ≡ in_use run
    → (
      change_of (bound d.name r.cell (Keeps v) ∷ []) [] (record { row = d.rest; cell = n.cells + 1; frame = r.frame }) [],
      change_of (bound b.name s.cell (Keeps Held.Unit) ∷ []) [] (record { row = b.rest; cell = n.cells + 1 + 1; frame = s.frame }) [],
    )
    ≡ both_go_on (memory_in run) s b r d v
unfolding both_go_on go_on grown newest
both_go_on_lem run s b r d v n e =
    let q : n.cells + 1 ≡ suc (newest (memory_in run)) = newest_next run n e in
    let q' : n.cells + 1 + 1 ≡ suc (suc (newest (memory_in run))) = omega (arith, q) in
    ap₂ (λ (k l : ℕ). (change_of (bound d.name r.cell (Keeps v) ∷ []) [] (record { row = d.rest; cell = k; frame = r.frame }) [], change_of (bound b.name s.cell (Keeps Held.Unit) ∷ []) [] (record { row = b.rest; cell = l; frame = s.frame }) [])) q q'
