-- What reading a set finds: its fault, and the bytes of 0 and 1 in which its members are marked.
use Rattle.std.specs.Prelude.{ℕ, ◌+◌, Bool, true, false, List, [], ◌∷◌, ◌≡◌, set, ltb, leb}
use Rattle.std.specs.Prelude.{Option, None as none, Some as some}
use Rattle.program.specs.Test.{pick}
use Rattle.program.specs.Each.{every}
use Rattle.format.specs.Limits.{row_limit}
use Rattle.format.specs.Text.{Bytes}
use Rattle.format.specs.Read.{set_rows, rising}
use Rattle.calls.specs.Layout.{member_limit}
use Rattle.read_sets.specs.declared.SetFault.{SetFault}
use Rattle.read_sets.specs.declared.SetFault.TheVariants.{AboveLimit, NotRising}

abbrev pub is_above_limit : Option SetFault → Bool
is_above_limit none = false
is_above_limit (some AboveLimit) = true
is_above_limit (some NotRising) = false

abbrev pub is_not_rising : Option SetFault → Bool
is_not_rising none = false
is_not_rising (some AboveLimit) = false
is_not_rising (some NotRising) = true

-- a row is above the limit (3), or else the members do not rise (5)
unfoldable pub set_fault : List ℕ → Option SetFault
set_fault ms = pick (every (λ r. ltb r row_limit) (set_rows ms)) (pick (rising ms) none (some NotRising)) (some AboveLimit)

-- the bytes with those of the members at 1
unfoldable pub marks : List ℕ → Bytes → Bytes
marks [] flags = flags
marks (m ∷ ms) flags = marks ms (set flags m 1)

-- the fault of a set in which a member does not rise: 3 before 5
abbrev pub or_not_rising : Option SetFault → Option SetFault
or_not_rising none = some NotRising
or_not_rising (some fault) = some fault

-- the same fault member by member: of a set that goes on with member m, where a rising one goes on with at least `least`
unfoldable pub fault_after : Option SetFault → ℕ → ℕ → Option SetFault
fault_after fault least m = pick (leb member_limit m) (some AboveLimit) (pick (leb least m) fault (or_not_rising fault))

unfoldable pub fault_from : Option SetFault → ℕ → List ℕ → Option SetFault
fault_from fault least [] = fault
fault_from fault least (m ∷ ms) = fault_from (fault_after fault least m) (m + 1) ms

-- what a call that read these members answers, and the bytes that it leaves; where there is no set, they may be any
abbrev pub SetIs : (List ℕ → Option SetFault) → Option (List ℕ × ℕ) → Bytes → Option (ℕ × Option SetFault) → Bytes → Type 0
SetIs fault none flags r left = r ≡ none
SetIs fault (some (ms, next)) flags r left = (r ≡ some (next, fault ms)) × (left ≡ marks ms flags)
