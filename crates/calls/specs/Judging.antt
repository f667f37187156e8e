-- "Flow rules" and "Walks and claims" of a document: what judge and verdict answer of it.
use Rattle.std.specs.Prelude.{ℕ, Bool, not, List, [], ◌∷◌, map, length}
use Rattle.std.specs.Prelude.{Option, None as none, Some as some}
use Rattle.program.specs.declared.Word.{Word}
use Rattle.program.specs.declared.Word.TheVariants.{OneShot, OneToOne, FanOut, FanIn, OneSync}
use Rattle.program.specs.Test.{least}
use Rattle.program.specs.Flow.{Table, keeps_at}
use Rattle.program.specs.Walk.{CanShare, Holds, send_place, receive_place}
use Rattle.program.specs.Verdict.{reach, reached, verdict}
use Rattle.format.specs.declared.Reason.TheVariants.{FlowRuleFails, ClaimFails}
use Rattle.format.specs.Refusals.{refusal, Result, refused, accepted}
use Rattle.format.specs.Document.{Document, table_of}
use Rattle.format.specs.Structure.{row_line, claim_line, first_failing}

-- "in the order one-shot, one-to-one, fan-out, fan-in", and "one-sync last"
abbrev pub verdict_words : List Word
verdict_words = OneShot ∷ OneToOne ∷ FanOut ∷ FanIn ∷ OneSync ∷ []

module _ (d : Document) where
  -- V(n) and C(c)
  unfoldable pub flow_table : Table
  flow_table = table_of d.flows

  unfoldable pub comm_table : Table
  comm_table = table_of d.comms

  -- what a word says of channel row c, told by which rows are reached from which
  unfoldable pub word_holds : (ℕ → ℕ → Bool) → ℕ → Word → Bool
  word_holds reach c word = verdict d.rows reach (reached d.rows reach) word (send_place d.rows flow_table c) (receive_place d.rows flow_table c)

  -- the same over all pairs of walks that can share a run. That `word_holds` decides it is a theorem (proofs/Judging)
  unfoldable pub WordHolds : ℕ → Word → Type 0
  WordHolds c word = Holds d.rows flow_table (CanShare d.rows) word (send_place d.rows flow_table c) (receive_place d.rows flow_table c)

  -- which rows are reached from which by one or more row steps
  unfoldable pub reaches : ℕ → ℕ → Bool
  reaches = reach d.rows flow_table

  -- 10: "the smallest row whose flow rule fails"
  unfoldable pub failing_row : Option ℕ
  failing_row = least (length d.rows) λ r. not (keeps_at d.rows flow_table comm_table r)

  -- 11: "the first claim that fails (its line)"
  unfoldable pub failing_claim : (ℕ → ℕ → Bool) → Option ℕ
  failing_claim reach = first_failing (λ k. word_holds reach k.channel k.word) (claim_line d) d.claims

  -- "(that row's line)", and then what comes after 10
  unfoldable pub after10 : {A : Type 0} → Result A → Result A
  after10 rest = elim failing_row [ some r ↦ refused (refusal FlowRuleFails (row_line r)) | none ↦ rest ]

  unfoldable pub judge_claims : Option ℕ → Result ℕ
  judge_claims (some line) = refused (refusal ClaimFails line)
  judge_claims none = accepted (length d.claims)

  unfoldable pub judge_document : Result ℕ
  judge_document = after10 (judge_claims (failing_claim reaches))

  unfoldable pub verdict_document : ℕ → Result (List Bool)
  verdict_document c = after10 (accepted (map (word_holds reaches c) verdict_words))
