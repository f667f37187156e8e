-- What replace and preview answer of any store, and what replace leaves: the propositions that their promises are stated with, in the numbers of answers.
use Rattle.std.specs.Prelude.{ℕ, ◌+◌, Bool, [], ◌∷◌, ◌≡◌, ◌≢◌, length, take, drop}
use Rattle.std.proofs.Math.Bool.{So}
use Rattle.program.specs.Each.{Each, elem}
use Rattle.program.specs.Program.{value_row}
use Rattle.program.specs.Flow.{u, row, Set}
use Rattle.format.specs.Text.{Bytes}
use Rattle.format.specs.Document.{Document}
use Rattle.format.specs.Print.{document_text}
use Rattle.format.specs.Read.{present, rising}
use Rattle.format.specs.Check.{check_any}
use Rattle.calls.specs.Answers.{Answer, turned_back, answered}
use Rattle.calls.specs.Layout.{member_limit, flow_at}
use Rattle.calls.specs.Judging.{flow_table}
use Rattle.calls.specs.Calls.{loaded}
use Rattle.calls.specs.Exact.{StoreHolds, Closed, JudgeIs}
use Rattle.replacement.specs.Replacement.{is_bound, replace}

-- the set that is handed over
unfoldable pub handed : Bool → Bytes → Set
handed unit rows u = unit
handed unit rows (row r) = elem r rows

-- the list rises, and each of its numbers is a value row
abbrev pub MayBeSet : Document → Bytes → Type 0
MayBeSet d rows = So (rising rows) × Each (λ r. So (value_row d.rows r)) rows

module _ (store : Bytes) (n : ℕ) (unit : Bool) (rows : Bytes) where
  -- a store that held the document d is left with d', which differs in the set of name n only
  pub record Replaced (d d' : Document) : Type 0 where
    -- Replace answers counts as infer does: what load would on the outcome's text, were there no length limit
    pub loads : replace store n unit rows ≡ loaded store (check_any (document_text d'))
    -- the outcome is a store that some file, of any length, would leave
    pub holds : StoreHolds (replace store n unit rows).bytes d'
    pub same_rows : d'.rows ≡ d.rows
    pub same_comms : d'.comms ≡ d.comms
    pub same_claims : d'.claims ≡ d.claims
    pub set : flow_table d' n ≡ handed unit rows
    pub other_sets : (k : ℕ) → k ≢ n → flow_table d' k ≡ flow_table d k
    -- a name that is left with nothing has no line
    pub lines : Each (λ e. So (present e.members)) d'.flows
    -- the bytes around the set stay, those past the fixed size too
    pub before : take (flow_at n) (replace store n unit rows).bytes ≡ take (flow_at n) store
    pub behind : drop (flow_at n + member_limit) (replace store n unit rows).bytes ≡ drop (flow_at n + member_limit) store

  -- replace: 20, 21, 22; then 32, then 33, and then nothing is altered; else the counts of the outcome
  pub data ReplaceIs : Answer → Type 0 where
    closed : {a : Answer} → Closed store a → (replace store n unit rows).bytes ≡ store → ReplaceIs a
    not_bound : (d : Document) → StoreHolds store d → ¬ (So (is_bound d.rows n)) → (replace store n unit rows).bytes ≡ store → ReplaceIs (turned_back 32 0)
    not_a_set : (d : Document) → StoreHolds store d → So (is_bound d.rows n) → ¬ (MayBeSet d rows) → (replace store n unit rows).bytes ≡ store → ReplaceIs (turned_back 33 0)
    replaces : (d d' : Document) → StoreHolds store d → So (is_bound d.rows n) → MayBeSet d rows → Replaced d d'
        → ReplaceIs (answered (length d'.rows ∷ length d'.flows ∷ length d'.comms ∷ length d'.claims ∷ []))

  -- preview: as replace where that is refused; else as judge of what replace leaves, so that lines count in the text after the change
  pub data PreviewIs : Answer → Type 0 where
    refuses : {number line : ℕ} → ReplaceIs (turned_back number line) → PreviewIs (turned_back number line)
    judges : (d d' : Document) → StoreHolds store d → So (is_bound d.rows n) → MayBeSet d rows → Replaced d d' → {a : Answer}
        → JudgeIs (replace store n unit rows).bytes a → PreviewIs a
