-- Sets of a store that are added to: a rule of tables, and a change that adds what the rule asks.
use Rattle.std.specs.Prelude.{ℕ, ◌+◌, ◌<◌, ◌≤◌, Bool, true, false, [], ◌∷◌, ◌≡◌, length, eqb}
use Rattle.std.proofs.Math.Bool.{So}
use Rattle.program.specs.Test.{pick}
use Rattle.program.specs.Flow.{Abstract, Set, Table}
use Rattle.format.specs.Text.{Bytes, byte_at}
use Rattle.calls.specs.Layout.{rows_size, claims_start, flow_at, comm_at}
use Rattle.tables.specs.Tables.{store_flow, store_comm}
use Rattle.set_adds.specs.declared.Variable.{Variable}

-- a set of the tables, where it stands in a store, and the number of its name or channel row
unfoldable pub set_at : Variable → Table → Table → Set
set_at (Variable.Name n) flow comm = flow n
set_at (Variable.Channel c) flow comm = comm c

unfoldable pub position_of : Variable → ℕ
position_of (Variable.Name n) = flow_at n
position_of (Variable.Channel c) = comm_at c

unfoldable pub number_of : Variable → ℕ
number_of (Variable.Name n) = n
number_of (Variable.Channel c) = c

-- a member's byte with that of another set joined to it
unfoldable pub joined : ℕ → ℕ → ℕ
joined own other = pick (eqb own 0) other own

-- the bytes that are 0
unfoldable pub zeros : Bytes → ℕ
zeros [] = 0
zeros (b ∷ bs) = pick (eqb b 0) 1 0 + zeros bs

-- a store whose sets are bytes of 0 and 1
unfoldable pub Flags : Bytes → Type 0
Flags s = (q : ℕ) → rows_size ≤ q → q < claims_start → byte_at s q < 2

-- the sets of a store lie in those of some tables
unfoldable pub Inside : Table → Table → Bytes → Type 0
Inside flow comm s = ((n : ℕ) (a : Abstract) → So (store_flow s n a) → So (flow n a)) × ((c : ℕ) (a : Abstract) → So (store_comm s c a) → So (comm c a))

-- a rule as a test of tables
abbrev pub Rule : Type 0
Rule = Table → Table → Bool

-- s' is the store s with members added to its sets that tables with the rule have too; where there is none to add, the store keeps the rule
pub record Adds (rule : Rule) (s s' : Bytes) (more : Bool) : Type 0 where
  pub size : length s' ≡ length s
  pub rows : (q : ℕ) → q < rows_size → byte_at s' q ≡ byte_at s q
  pub rest : (q : ℕ) → claims_start ≤ q → byte_at s' q ≡ byte_at s q
  pub flags : Flags s → Flags s'
  pub fewer : zeros s' ≤ zeros s
  pub really : more ≡ true → zeros s' < zeros s
  pub still : more ≡ false → s' ≡ s
  pub inside : (flow comm : Table) → So (rule flow comm) → Inside flow comm s → Inside flow comm s'
  pub kept : more ≡ false → So (rule (store_flow s) (store_comm s))

-- the members of a set, joined to those at a position
pub record Joined (at n : ℕ) (set s s' : Bytes) (more : Bool) : Type 0 where
  pub size : length s' ≡ length s
  pub joins : (i : ℕ) → i < n → byte_at s' (at + i) ≡ joined (byte_at s (at + i)) (byte_at set i)
  pub before : (q : ℕ) → q < at → byte_at s' q ≡ byte_at s q
  pub behind : (q : ℕ) → at + n ≤ q → byte_at s' q ≡ byte_at s q
  pub fewer : zeros s' ≤ zeros s
  pub really : more ≡ true → zeros s' < zeros s
  pub still : more ≡ false → s' ≡ s

-- the first n bytes from a position on
pub record Copied (at n : ℕ) (s set : Bytes) : Type 0 where
  pub size : n ≤ length set
  pub bytes : (i : ℕ) → i < n → byte_at set i ≡ byte_at s (at + i)
