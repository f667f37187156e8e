-- "The file": what it says. A document is the rows, and the flow, comm and claim lines in their order.
use Rattle.std.specs.Prelude.{ℕ, suc, true, false, List, [], ◌∷◌, eqb}
use Rattle.program.specs.declared.Word.{Word}
use Rattle.program.specs.declared.Row.{Row}
use Rattle.program.specs.Each.{elem}
use Rattle.program.specs.Program.{Program}
use Rattle.program.specs.Flow.{Abstract, Table}

-- a set's members are numbered: unit is 0, and row r is r + 1
unfoldable pub member : Abstract → ℕ
member Abstract.u = 0
member (Abstract.row r) = suc r

-- a flow or comm line: a name or a channel row, and the members of its set
pub record Entry : Type 0 where
  pub key : ℕ
  pub members : List ℕ

pub record Claim : Type 0 where
  pub channel : ℕ
  pub word : Word

pub record Document : Type 0 where
  pub rows : Program
  pub flows : List Entry
  pub comms : List Entry
  pub claims : List Claim

-- "A name or channel without a line has the empty set"
unfoldable pub members_at : List Entry → ℕ → List ℕ
members_at [] n = []
members_at (e ∷ es) n = elim (eqb n e.key) [ true ↦ e.members | false ↦ members_at es n ]

-- the sets of a document as tables: V of the flow lines, C of the comm lines
unfoldable pub table_of : List Entry → Table
table_of es n a = elem (member a) (members_at es n)

-- the same rows and claims with other flow and comm lines
abbrev pub with_tables : Document → List Entry → List Entry → Document
with_tables d flows comms = record { rows = d.rows; flows = flows; comms = comms; claims = d.claims }

-- a line after the first
pub data Line : Type 0 where
  row : ℕ → Row → Line
  flow : Entry → Line
  comm : Entry → Line
  claim : Claim → Line
