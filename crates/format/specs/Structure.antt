-- "Turned back because of the input", 6 to 9: each at its smallest line.
use Rattle.std.specs.Prelude.{ℕ, zero, suc, ◌+◌, Bool, true, false, not, ◌&&◌, ◌||◌, List, [], ◌∷◌, length, take, ltb}
use Rattle.std.specs.Prelude.{Option, None as none, Some as some}
use Rattle.program.specs.Test.{pick, least}
use Rattle.program.specs.Maybe.{◌>>=◌, ◌<|>◌}
use Rattle.program.specs.Each.{every, collect, elem}
use Rattle.program.specs.Program.{Program, row_at, pointers, binders, value_row, chan_row}
use Rattle.format.specs.declared.Refusal.{Refusal}
use Rattle.format.specs.declared.Reason.{Reason}
use Rattle.format.specs.declared.Reason.TheVariants.{WrongPointer, BoundTwice, OutOfScope, NotAllowed}
use Rattle.format.specs.Refusals.{refusal}
use Rattle.format.specs.Document.{Entry, Claim, Document}
use Rattle.format.specs.Scope.{scope_fault}

-- the line of a row: the first line, then row 0
abbrev pub row_line : ℕ → ℕ
row_line r = r + 2

-- 6: "A row pointed at that is absent, not greater, or pointed at earlier": of the rows that row r points at, where there are n rows
unfoldable pub wrong_pointers : ℕ → ℕ → List ℕ → List ℕ → Bool
wrong_pointers n r earlier [] = false
wrong_pointers n r earlier (t ∷ ts) = not (ltb r t && ltb t n) || elem t earlier || wrong_pointers n r (t ∷ earlier) ts

-- "or a row above 0 pointed at by none (its own line)"
unfoldable pub pointer_fault : Program → ℕ → Bool
pointer_fault p r =
    wrong_pointers (length p) r (collect pointers (take r p)) (pointers (row_at p r)) || (ltb 0 r && not (elem r (collect pointers p)))

-- 7: "A binder bound earlier, left to right"
unfoldable pub bound_earlier : List ℕ → List ℕ → Bool
bound_earlier earlier [] = false
bound_earlier earlier (n ∷ ns) = elem n earlier || bound_earlier (n ∷ earlier) ns

unfoldable pub binder_fault : Program → ℕ → Bool
binder_fault p r = bound_earlier (collect binders (take r p)) (binders (row_at p r))

-- 8: "A use out of scope"
unfoldable pub scope_line : Program → Option ℕ
scope_line p = pick (ltb (scope_fault p) (length p)) (some (scope_fault p)) none

-- "Sets hold `u` and value rows only; comm and claim name chan rows; flow names bound names."
unfoldable pub member_allowed : Program → ℕ → Bool
member_allowed p zero = true
member_allowed p (suc r) = value_row p r

unfoldable pub flow_allowed : Program → Entry → Bool
flow_allowed p e = elem e.key (collect binders p) && every (member_allowed p) e.members

unfoldable pub comm_allowed : Program → Entry → Bool
comm_allowed p e = chan_row p e.key && every (member_allowed p) e.members

unfoldable pub claim_allowed : Program → Claim → Bool
claim_allowed p c = chan_row p c.channel

-- the line of the first element that fails the test, where the first element's line is given
unfoldable pub first_failing : {A : Type 0} → (A → Bool) → ℕ → List A → Option ℕ
first_failing ok line [] = none
first_failing ok line (x ∷ xs) = elim (ok x) [ true ↦ first_failing ok (line + 1) xs | false ↦ some line ]

-- the line of the first flow, comm and claim line, if there is one
module _ (d : Document) where
  unfoldable pub flow_line : ℕ
  flow_line = row_line (length d.rows)

  unfoldable pub comm_line : ℕ
  comm_line = flow_line + length d.flows

  unfoldable pub claim_line : ℕ
  claim_line = comm_line + length d.comms

  -- 9: "A set, flow, comm or claim naming what it may not"
  unfoldable pub not_allowed : Option ℕ
  not_allowed =
      first_failing (flow_allowed d.rows) flow_line d.flows
      <|> first_failing (comm_allowed d.rows) comm_line d.comms
      <|> first_failing (claim_allowed d.rows) claim_line d.claims

  -- the refusal at the line of a row
  at_row : Reason → Option ℕ → Option Refusal
  at_row reason row = row >>= λ r. some (refusal reason (row_line r))

  -- "then 6, 7, 8, 9"
  unfoldable pub structure_fault : Option Refusal
  unfolding at_row
  structure_fault =
      at_row WrongPointer (least (length d.rows) (pointer_fault d.rows))
      <|> at_row BoundTwice (least (length d.rows) (binder_fault d.rows))
      <|> at_row OutOfScope (scope_line d.rows)
      <|> (not_allowed >>= λ line. some (refusal NotAllowed line))
