-- A list of rows that is handed over, as a set.
use Rattle.std.specs.Prelude.{◌+◌, Bool, true, ◌&&◌, ◌≡◌, ltb}
use Rattle.program.specs.Each.{every}
use Rattle.format.specs.Text.{Bytes, byte_at}
use Rattle.format.specs.Read.{rising}
use Rattle.calls.specs.Layout.{flags_of}
use Rattle.replacement.specs.Replacement.{members_of}

-- the list rises, and each of its rows is allowed as a member: the byte of member r + 1 is not 0
unfoldable pub list_allowed : Bytes → Bytes → Bool
list_allowed allowed list = rising list && every (λ r. ltb 0 (byte_at allowed (r + 1))) list

-- whether the list is a set, and then the flags of its members
pub record Marked (unit : Bool) (list allowed : Bytes) (answer : Bool) (set : Bytes) : Type 0 where
  pub answer_is : answer ≡ list_allowed allowed list
  pub flags : answer ≡ true → set ≡ flags_of (members_of unit list)
