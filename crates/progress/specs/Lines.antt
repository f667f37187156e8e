-- A line told from the progress before it: why it is refused, and the progress with it.
use Rattle.std.specs.Prelude.{ℕ, ◌+◌, Bool, not, ◌||◌, List, ltb, leb, eqb}
use Rattle.std.specs.Prelude.{Option, None as none, Some as some}
use Rattle.program.specs.Test.{pick}
use Rattle.format.specs.declared.Reason.{Reason}
use Rattle.format.specs.declared.Reason.TheVariants as reason
use Rattle.format.specs.declared.Section.{Section}
use Rattle.format.specs.declared.Section.TheVariants.{Flows, Comms}
use Rattle.format.specs.Limits.{row_limit}
use Rattle.format.specs.Document.{Line, flow, comm}
use Rattle.calls.specs.Layout.{flow_at, comm_at}
use Rattle.read_sets.specs.declared.SetFault.{SetFault}
use Rattle.read_sets.specs.Sets.{is_above_limit, is_not_rising}
use Rattle.progress.specs.declared.Progress.{Progress}
use Rattle.tables.specs.declared.Table.{Table}
use Rattle.tables.specs.declared.Table.TheVariants.{Flow, Comm}

-- ---- the two tables of sets

abbrev pub section_of : Table → Section
section_of Flow = Flows
section_of Comm = Comms

-- the line of the set with key n
abbrev pub set_line : Table → ℕ → List ℕ → Line
set_line Flow n ms = flow (record { key = n; members = ms })
set_line Comm n ms = comm (record { key = n; members = ms })

-- where the set with key n stands in the store
abbrev pub place_of : Table → ℕ → ℕ
place_of Flow n = flow_at n
place_of Comm n = comm_at n

-- how many lines of later sections have been read
abbrev pub behind : Table → Progress → ℕ
behind Flow p = p.comms + p.claims
behind Comm p = p.claims

-- the least key that rises
abbrev pub least_of : Table → Progress → ℕ
least_of Flow p = p.flow_least
least_of Comm p = p.comm_least

-- ---- the progress with one line more

abbrev pub with_row : Progress → Progress
with_row p = record {
  rows = p.rows + 1;
  flows = p.flows;
  comms = p.comms;
  claims = p.claims;
  flow_least = p.flow_least;
  comm_least = p.comm_least;
  claim_least = p.claim_least;
}

abbrev pub with_flow : ℕ → Progress → Progress
with_flow least p = record {
  rows = p.rows;
  flows = p.flows + 1;
  comms = p.comms;
  claims = p.claims;
  flow_least = least;
  comm_least = p.comm_least;
  claim_least = p.claim_least;
}

abbrev pub with_comm : ℕ → Progress → Progress
with_comm least p = record {
  rows = p.rows;
  flows = p.flows;
  comms = p.comms + 1;
  claims = p.claims;
  flow_least = p.flow_least;
  comm_least = least;
  claim_least = p.claim_least;
}

abbrev pub with_set : Table → ℕ → Progress → Progress
with_set Flow least p = with_flow least p
with_set Comm least p = with_comm least p

abbrev pub with_claim : ℕ → Progress → Progress
with_claim least p = record {
  rows = p.rows;
  flows = p.flows;
  comms = p.comms;
  claims = p.claims + 1;
  flow_least = p.flow_least;
  comm_least = p.comm_least;
  claim_least = least;
}

-- ---- why a line is refused: 2 before 3 before 4 before 5

-- a row, where `above` says whether one of its own numbers is above the limit
unfoldable pub row_line_fault : Progress → ℕ → Bool → Option Reason
row_line_fault p n above =
    pick (ltb 0 (p.flows + p.comms + p.claims)) (some reason.NotALine)
    (pick (leb row_limit n || above) (some reason.AboveLimit)
    (pick (not (eqb n p.rows)) (some reason.OutOfCount) none))

-- a set with key n, which has a fault of its own or none
unfoldable pub set_line_fault : Table → Progress → ℕ → Option SetFault → Option Reason
set_line_fault t p n fault =
    pick (ltb 0 (behind t p)) (some reason.NotALine)
    (pick (leb row_limit n || is_above_limit fault) (some reason.AboveLimit)
    (pick (eqb p.rows 0) (some reason.OutOfCount)
    (pick (ltb n (least_of t p) || is_not_rising fault) (some reason.NotRising) none)))

-- the claim on row n
unfoldable pub claim_line_fault : Progress → ℕ → Option Reason
claim_line_fault p n =
    pick (leb row_limit n) (some reason.AboveLimit)
    (pick (eqb p.rows 0) (some reason.OutOfCount)
    (pick (ltb n p.claim_least) (some reason.NotRising) none))
