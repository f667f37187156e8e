-- Which members, names and rows the flow, comm and claim lines may name, as flags, and what checking the lines finds.
use Rattle.std.specs.Prelude.{ℕ, ◌+◌, max, Option, None as none, Some as some, Result, Ok, Err, Bool, false, not, ◌&&◌, List, [], ◌∷◌, take, drop, eqb}
use Rattle.program.specs.declared.Row.{Row}
use Rattle.program.specs.Test.{pick}
use Rattle.program.specs.Each.{every}
use Rattle.program.specs.Program.{is_value, is_chan}
use Rattle.format.specs.Text.{Bytes, byte_at}
use Rattle.format.specs.Document.{Entry, Claim}
use Rattle.calls.specs.Layout.{member_limit, members_from}

abbrev pub is_value_row : Row → Bool
is_value_row (Row.Result n) = false
is_value_row (Row.Bind b) = is_value b.form

abbrev pub is_chan_row : Row → Bool
is_chan_row (Row.Result n) = false
is_chan_row (Row.Bind b) = is_chan b.form

-- the number's byte is not 0
abbrev pub marked : Bytes → ℕ → Bool
marked bs n = not (eqb (byte_at bs n) 0)

abbrev pub member_code : ℕ → ℕ → ℕ
member_code mark allowed = pick (eqb mark 0) 0 (pick (eqb allowed 0) 2 1)

-- 0 for no member, 1 if all members are marked as allowed, 2 if one is not
unfoldable pub set_code : Bytes → List ℕ → ℕ
set_code members [] = 0
set_code members (m ∷ ms) = max (pick (eqb (byte_at members m) 0) 2 1) (set_code members ms)

-- the members of the set at a position
unfoldable pub set_at : Bytes → ℕ → List ℕ
set_at s at = members_from 0 (take member_limit (drop at s))

-- the key and the members are marked as allowed
unfoldable pub entry_marked : Bytes → Bytes → Entry → Bool
entry_marked keys members e = marked keys e.key && every (marked members) e.members

unfoldable pub claim_marked : Bytes → Claim → Bool
claim_marked keys c = marked keys c.channel

-- the set of key n: none if it has no member and so no line, else whether it is allowed
unfoldable pub line_allowed : Bytes → Bytes → ℕ → List ℕ → Option Bool
line_allowed keys members n [] = none
line_allowed keys members n (m ∷ ms) = some (entry_marked keys members (record { key = n; members = m ∷ ms }))

-- the line after the last, or the line of the first that fails the test
unfoldable pub checked : {A : Type 0} → (A → Bool) → ℕ → List A → Result ℕ ℕ
checked ok line [] = Ok line
checked ok line (x ∷ xs) = pick (ok x) (checked ok (line + 1) xs) (Err line)
