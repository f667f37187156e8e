-- What is enough of the rest from here, with the fault and the bytes so far, is enough from the start.
use Rattle.std.specs.Prelude.{ℕ, ◌-◌, ◌≡◌, length, Option}
use Rattle.format.specs.Read.{read_members}
use Rattle.format.specs.Text.{Bytes}
use Rattle.read_sets.specs.Sets.{fault_from, SetIs}
use Rattle.read_sets.specs.declared.SetFault.{SetFault}
use Rattle.read_sets.proofs.read_members.Given as goal

abbrev pub invariant-loop : goal.invariant-loop
invariant-loop l =
    (length l.flags ≡ length l.initial.flags)
    × ((r : Option (ℕ × Option SetFault)) (m : Bytes) → SetIs (fault_from l.fault l.least) (read_members (length l.s - l.counter) l.s l.at) l.flags r m → SetIs (fault_from l.initial.fault l.low) (read_members (length l.s) l.s l.from) l.initial.flags r m)
