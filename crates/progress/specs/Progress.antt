-- What has been read: the progress of a document, and its bounds.
use Rattle.std.specs.Prelude.{ℕ, ◌≤◌, ◌≡◌, length, ltb, leb}
use Rattle.program.specs.Each.{every}
use Rattle.format.specs.Limits.{row_limit}
use Rattle.format.specs.Document.{Document}
use Rattle.progress.specs.declared.Progress.{Progress}

-- the progress is that of a document
pub record Matches (d : Document) (p : Progress) : Type 0 where
  pub rows_are : length d.rows ≡ p.rows
  pub flows_are : length d.flows ≡ p.flows
  pub comms_are : length d.comms ≡ p.comms
  pub claims_are : length d.claims ≡ p.claims
  pub rows_fit : length d.rows ≤ row_limit
  pub flows_rise : (k : ℕ) → every (λ f. ltb f.key k) d.flows ≡ leb p.flow_least k
  pub comms_rise : (k : ℕ) → every (λ f. ltb f.key k) d.comms ≡ leb p.comm_least k
  pub claims_rise : (k : ℕ) → every (λ f. ltb f.channel k) d.claims ≡ leb p.claim_least k

-- counts and least numbers stay within the limit
pub record Small (p : Progress) : Type 0 where
  pub rows_small : p.rows ≤ row_limit
  pub flows_small : p.flows ≤ p.flow_least
  pub comms_small : p.comms ≤ p.comm_least
  pub claims_small : p.claims ≤ p.claim_least
  pub flow_limit : p.flow_least ≤ row_limit
  pub comm_limit : p.comm_least ≤ row_limit
  pub within_claim_limit : p.claim_least ≤ row_limit
