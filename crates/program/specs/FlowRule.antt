-- "Flow rules", as propositions over the sets. That the executable rules of `Flow` are equivalent to them is a theorem (proofs/FlowRule).
use Rattle.std.specs.Prelude.{ℕ, ◌<◌, ◌≡◌, length}
use Rattle.std.proofs.Math.Bool.{So}
use Rattle.std.specs.Prelude.{Some as some}
use Rattle.program.specs.declared.Bind.{Bind}
use Rattle.program.specs.declared.Form.{Form}
use Rattle.program.specs.declared.Form.TheVariants.{Chan, Send, Recv, Pair, Left, Right, Fun, Spawn, Sync, First, Second, Case, Apply}
use Rattle.program.specs.Program.{Program, bind_at, chan_at, send_at, recv_at, pair_at, left_at, right_at, fun_at, result_name}
use Rattle.program.specs.Flow.{u, row, Set, Table}

module _ (p : Program) where
  -- Q holds of each row of the program that is in the set
  abbrev pub ForEach : Set → (ℕ → Type 0) → Type 0
  ForEach s Q = (r : ℕ) → r < length p → So (s (row r)) → Q r

  -- the same of each chan row
  abbrev pub ForEachChan : Set → (ℕ → Type 0) → Type 0
  ForEachChan s Q = ForEach s λ c. (n : ℕ) → chan_at p c ≡ some n → Q c

  -- s lies in t
  abbrev pub Lies : Set → Set → Type 0
  Lies s t = (So (s u) → So (t u)) × ForEach s (λ r. So (t (row r)))

-- the rule of a form at row r whose bind has the name n
module _ (p : Program) (flow comm : Table) (r n : ℕ) where
  abbrev pub FlowRule : Form → Type 0
  FlowRule Form.Unit = So (flow n u)
  FlowRule Chan = So (flow n (row r))
  FlowRule (Send c m) = So (flow n (row r))
  FlowRule (Recv c) = So (flow n (row r))
  FlowRule (Pair a b) = So (flow n (row r))
  FlowRule (Left a) = So (flow n (row r))
  FlowRule (Right a) = So (flow n (row r))
  FlowRule (Fun f x t) = So (flow n (row r)) × So (flow f (row r))
  FlowRule (Spawn t) = So (flow n u)
  FlowRule (Sync e) =
      ForEach p (flow e) λ s.
      ((a : ℕ × ℕ) → send_at p s ≡ some a → ForEachChan p (flow a.0) λ k. So (flow n u) × Lies p (flow a.1) (comm k)) ×
      ((c : ℕ) → recv_at p s ≡ some c → ForEachChan p (flow c) λ k. Lies p (comm k) (flow n))
  FlowRule (First a) = ForEach p (flow a) λ s. (x : ℕ × ℕ) → pair_at p s ≡ some x → Lies p (flow x.0) (flow n)
  FlowRule (Second a) = ForEach p (flow a) λ s. (x : ℕ × ℕ) → pair_at p s ≡ some x → Lies p (flow x.1) (flow n)
  FlowRule (Case s x t y w) =
      ForEach p (flow s) λ k.
      ((a : ℕ) → left_at p k ≡ some a → Lies p (flow a) (flow x) × Lies p (flow (result_name p t)) (flow n)) ×
      ((a : ℕ) → right_at p k ≡ some a → Lies p (flow a) (flow y) × Lies p (flow (result_name p w)) (flow n))
  FlowRule (Apply f a) =
      ForEach p (flow f) λ k. (g : ℕ × ℕ × ℕ) → fun_at p k ≡ some g → Lies p (flow a) (flow g.1) × Lies p (flow (result_name p g.2)) (flow n)

-- the flow rule holds at every row
unfoldable pub KeepsAll : Program → Table → Table → Type 0
KeepsAll p flow comm = (r : ℕ) (b : Bind) → bind_at p r ≡ some b → FlowRule p flow comm r b.name b.form
