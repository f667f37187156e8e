-- A row in the set of a name, by the store's bytes.
use Prim.Native.Nat.{ℕ, suc, ◌+◌, ◌≤◌}
use native.Mathlib.Omega.{arith}
use native.Mathlib.Numerals.{add-one}
use mathlib.Core.Bool.{Bool, true, false}
use mathlib.Core.Path.{◌≡◌, refl}
use lib.Dec.{ltb, leb}
use mir.Val.{bool_byte}
use borrow.Author.Tests.{le-leb}
use Rattle.program.specs.Test.{pick}
use Rattle.program.specs.Flow.{row}
use Rattle.format.specs.Limits.{row_limit}
use Rattle.format.specs.Text.{Bytes}
use Rattle.format.specs.Document.{member}
use Rattle.calls.specs.Layout.{flow_at, member_limit}
use Rattle.tables.specs.Tables.{flag_at, flow_flag, store_flow}

flag_past : (s : Bytes) (position : ℕ → ℕ) (n m : ℕ) → member_limit ≤ m → flag_at s position n m ≡ 0
unfolding flag_at
flag_past s position n m l = rw (le-leb member_limit m l) (go (leb row_limit n))
  where
    go : (b : Bool) → ◌≡◌ {A = ℕ} (pick b 0 0) 0
    go true = refl
    go false = refl

pub row_past : (s : Bytes) (n r : ℕ) → row_limit ≤ r → store_flow s n (row r) ≡ false
unfolding store_flow flow_flag member
row_past s n r l = rw (flag_past s flow_at n (suc r) (omega arith))

pub row_flag : (s : Bytes) (n r : ℕ) → store_flow s n (row r) ≡ ltb 0 (flow_flag s n (r + 1))
unfolding store_flow member
row_flag s n r = rw (add-one r)

-- a test as a byte
pub bool_byte_lem : (b : Bool) → ltb 0 (bool_byte b) ≡ b
bool_byte_lem true = refl
bool_byte_lem false = refl
