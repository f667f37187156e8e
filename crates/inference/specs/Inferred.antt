-- What infer answers and leaves of any store: the propositions that its promises are stated with, in the numbers of answers.
use Rattle.std.proofs.Math.Bool.{So}
use Rattle.std.specs.Prelude.{[], ◌∷◌, ◌≡◌, length, take, drop}
use Rattle.program.specs.Each.{Each}
use Rattle.program.specs.Flow.{Table}
use Rattle.program.specs.FlowRule.{KeepsAll}
use Rattle.least.specs.Least.{Within}
use Rattle.format.specs.Text.{Bytes}
use Rattle.format.specs.Document.{Document}
use Rattle.format.specs.Read.{present}
use Rattle.format.specs.Print.{document_text}
use Rattle.format.specs.Check.{check_any}
use Rattle.calls.specs.Calls.{loaded}
use Rattle.calls.specs.Answers.{Answer, answered}
use Rattle.calls.specs.Layout.{rows_size, claims_start}
use Rattle.calls.specs.Judging.{flow_table, comm_table}
use Rattle.calls.specs.Exact.{StoreHolds, Closed, RulesHold}
use Rattle.inference.specs.Inference.{infer}

-- a store that held the document d is left with d'
pub record Inferred (store : Bytes) (d d' : Document) : Type 0 where
  -- "the counts that load would on the outcome's text, were there no length limit": the answer, and the bytes too
  pub loads : infer store ≡ loaded store (check_any (document_text d'))
  -- the outcome is a store that some file, of any length, would leave
  pub holds : StoreHolds (infer store).bytes d'
  -- "Rows and claims keep their bytes", and so do the lent bytes past the fixed size
  pub row_bytes_kept : take rows_size (infer store).bytes ≡ take rows_size store
  pub claim_bytes : drop claims_start (infer store).bytes ≡ drop claims_start store
  pub same_rows : d'.rows ≡ d.rows
  pub same_claims : d'.claims ≡ d.claims
  -- "They keep every flow rule, and each set lies inside the same set of any other tables that do"
  pub keeps : RulesHold d'
  pub smallest : (flow comm : Table) → KeepsAll d.rows flow comm → Within (flow_table d') flow × Within (comm_table d') comm
  -- a name or channel that is left with nothing has no line
  pub lines : Each (λ e. So (present e.members)) d'.flows × Each (λ e. So (present e.members)) d'.comms

-- infer: 20, 21, 22, and then nothing is altered; else "the counts that load would [answer] on the outcome's text, were there no length limit"
pub data InferIs (store : Bytes) : Answer → Type 0 where
  closed : {a : Answer} → Closed store a → (infer store).bytes ≡ store → InferIs store a
  infers : (d d' : Document) → StoreHolds store d → Inferred store d d'
      → InferIs store (answered (length d'.rows ∷ length d'.flows ∷ length d'.comms ∷ length d'.claims ∷ []))
