-- What judge and verdict answer of any store, case by case: the propositions that the demands are stated with, in the numbers of answers.
use Rattle.std.specs.Prelude.{ℕ, ◌+◌, ◌<◌, ◌≤◌, List, [], ◌∷◌, ◌++◌, ◌≡◌, length, take, replicate}
use Rattle.std.proofs.Math.Bool.{So}
use Rattle.std.specs.Prelude.{Some as some}
use Rattle.program.specs.declared.Bind.{Bind}
use Rattle.program.specs.declared.Word.{Word}
use Rattle.program.specs.declared.Word.TheVariants.{OneShot, OneToOne, FanOut, FanIn, OneSync}
use Rattle.program.specs.Each.{Each}
use Rattle.program.specs.Program.{bind_at, chan_row}
use Rattle.program.specs.FlowRule.{FlowRule, KeepsAll}
use Rattle.format.specs.Text.{Bytes}
use Rattle.format.specs.Refusals.{accepted}
use Rattle.format.specs.Document.{Claim, Document}
use Rattle.format.specs.Structure.{row_line, claim_line}
use Rattle.format.specs.Check.{check_any}
use Rattle.calls.specs.Answers.{Answer, turned_back, answered}
use Rattle.calls.specs.Layout.{store_size, encode}
use Rattle.calls.specs.Judging.{flow_table, comm_table, WordHolds}

-- the store holds a document: its fixed size has the bytes that load leaves of a file that says it, the length limit set aside
pub record StoreHolds (store : Bytes) (d : Document) : Type 0 where
  pub long : store_size ≤ length store
  pub file : Bytes
  pub says : check_any file ≡ accepted d
  pub bytes : take store_size store ≡ encode d

-- 20: "store shorter than its fixed size"; 21: "its fixed size all zero"; 22: "bytes that no load leaves"; each where those before it are not
pub data Closed (store : Bytes) : Answer → Type 0 where
  too_short : length store < store_size → Closed store (turned_back 20 0)
  empty : store_size ≤ length store → take store_size store ≡ replicate store_size 0 → Closed store (turned_back 21 0)
  unsound : store_size ≤ length store → ¬ (take store_size store ≡ replicate store_size 0) → ¬ ((d : Document) × StoreHolds store d) → Closed store (turned_back 22 0)

module _ (d : Document) where
  -- the flow rule holds at row r, if it is a bind
  unfoldable pub RowKeeps : ℕ → Type 0
  RowKeeps r = (b : Bind) → bind_at d.rows r ≡ some b → FlowRule d.rows (flow_table d) (comm_table d) r b.name b.form

  -- "the tables keep the flow rules"
  abbrev pub RulesHold : Type 0
  RulesHold = KeepsAll d.rows (flow_table d) (comm_table d)

  -- "the smallest row whose flow rule fails"
  pub record FirstBroken (r : ℕ) : Type 0 where
    pub there : r < length d.rows
    pub broken : ¬ (RowKeeps r)
    pub before : (j : ℕ) → j < r → RowKeeps j

  -- the claim holds "over all pairs of walks that can share a run"
  abbrev pub ClaimHolds : Claim → Type 0
  ClaimHolds k = WordHolds d k.channel k.word

  abbrev pub ClaimsHold : Type 0
  ClaimsHold = Each ClaimHolds d.claims

  -- "the first claim that fails": it stands behind so many that hold
  pub record FirstFailing (passed : ℕ) : Type 0 where
    pub before : List Claim
    pub claim : Claim
    pub after : List Claim
    pub split : d.claims ≡ before ++ (claim ∷ after)
    pub count : passed ≡ length before
    pub hold : Each ClaimHolds before
    pub fails : ¬ (ClaimHolds claim)

-- judge: 20, 21, 22; then 10 at the line of the smallest row whose flow rule fails; then 11 at the line of the first claim that fails; else the count of claims, all of which hold
pub data JudgeIs (store : Bytes) : Answer → Type 0 where
  closed : {a : Answer} → Closed store a → JudgeIs store a
  rule_fails : (d : Document) → StoreHolds store d → (r : ℕ) → FirstBroken d r → JudgeIs store (turned_back 10 (row_line r))
  claim_fails : (d : Document) → StoreHolds store d → RulesHold d → (passed : ℕ) → FirstFailing d passed → JudgeIs store (turned_back 11 (claim_line d + passed))
  accepts : (d : Document) → StoreHolds store d → RulesHold d → ClaimsHold d → JudgeIs store (answered (length d.claims ∷ []))

-- a word of a verdict: 1 where it holds over all pairs of walks that can share a run, else 0
pub data WordIs (d : Document) (c : ℕ) (word : Word) : ℕ → Type 0 where
  one : WordHolds d c word → WordIs d c word 1
  none : ¬ (WordHolds d c word) → WordIs d c word 0

-- verdict: 20, 21, 22; then 24; then 10 at the line of the smallest row whose flow rule fails; then the five words
pub data VerdictIs (store : Bytes) (c : ℕ) : Answer → Type 0 where
  closed : {a : Answer} → Closed store a → VerdictIs store c a
  no_channel : (d : Document) → StoreHolds store d → ¬ (So (chan_row d.rows c)) → VerdictIs store c (turned_back 24 0)
  rule_fails : (d : Document) → StoreHolds store d → So (chan_row d.rows c) → (r : ℕ) → FirstBroken d r → VerdictIs store c (turned_back 10 (row_line r))
  given : (d : Document) → StoreHolds store d → So (chan_row d.rows c) → RulesHold d → {one_shot one_to_one fan_out fan_in one_sync : ℕ}
      → WordIs d c OneShot one_shot → WordIs d c OneToOne one_to_one → WordIs d c FanOut fan_out → WordIs d c FanIn fan_in → WordIs d c OneSync one_sync
      → VerdictIs store c (answered (one_shot ∷ one_to_one ∷ fan_out ∷ fan_in ∷ one_sync ∷ []))
