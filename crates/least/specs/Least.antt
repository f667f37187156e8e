-- "The smallest tables from the program alone": what the flow rules ask, as constraints on sets, and the sets that follow from the constraints.
-- "They keep every flow rule, and each set lies inside the same set of any other tables that do" is a theorem (proofs/Least), and it holds of no other tables.
use Rattle.std.specs.Prelude.{ℕ, zero, suc, Bool, true, false, not, ◌&&◌, ◌||◌, List, [], ◌∷◌, ◌++◌, map, length, ltb}
use Rattle.std.proofs.Math.Decide.{ℕ_discrete}
use Rattle.std.proofs.Math.Bool.{So}
use Rattle.std.specs.Prelude.{Option, None as none, Some as some}
use Rattle.program.specs.declared.Form.{Form}
use Rattle.program.specs.declared.Form.TheVariants.{Chan, Send, Recv, Pair, Left, Right, Fun, Spawn, Sync, First, Second, Case, Apply}
use Rattle.program.specs.Test.{pick, test}
use Rattle.program.specs.Each.{collect, elem}
use Rattle.program.specs.Program.{Program, binders, bind_at, chan_at, send_at, recv_at, pair_at, left_at, right_at, fun_at, result_name, value_row, chan_row}
use Rattle.program.specs.Flow.{Abstract, Abstract-discrete, u, row, Set, Table}

-- "each set lies inside the same set of any other tables"
abbrev pub Within : Table → Table → Type 0
Within flow flow' = (n : ℕ) (a : Abstract) → So (flow n a) → So (flow' n a)

module _ {A : Type 0} where
  -- the test holds of an element
  unfoldable pub among : (A → Bool) → List A → Bool
  among f [] = false
  among f (x ∷ xs) = f x || among f xs

  -- the elements of which the test holds
  unfoldable pub those : (A → Bool) → List A → List A
  those f [] = []
  those f (x ∷ xs) = elim (f x) [ true ↦ x ∷ those f xs | false ↦ those f xs ]

-- a set of the tables: V of a name, or C of a channel row
pub data Variable : Type 0 where
  name : ℕ → Variable
  channel : ℕ → Variable
  deriving Discrete as Variable-discrete

-- what a rule asks: that a set holds a member, or that a set lies in another
pub data Constraint : Type 0 where
  holds : Abstract → Variable → Constraint
  lies : Variable → Variable → Constraint

-- what the numbers below the bound give, one after the other
unfoldable pub gather : {A : Type 0} → ℕ → (ℕ → List A) → List A
gather zero f = []
gather (suc n) f = gather n f ++ f n

unfoldable pub of_found : {A B : Type 0} → Option A → (A → List B) → List B
of_found none f = []
of_found (some a) f = f a

module _ (p : Program) where
  -- of each row of the program that is in the set
  unfoldable pub of_rows : Set → (ℕ → List Constraint) → List Constraint
  of_rows s f = gather (length p) λ r. pick (s (row r)) (f r) []

  unfoldable pub of_chans : Set → (ℕ → List Constraint) → List Constraint
  of_chans s f = of_rows s λ c. of_found (chan_at p c) λ n. f c

-- the constraints of a form at row r whose bind has the name n
module _ (p : Program) (flow : Table) (r n : ℕ) where
  unfoldable pub send_constraints : ℕ → List Constraint
  send_constraints s = of_found (send_at p s) λ (c, m). of_chans p (flow c) λ k. holds u (name n) ∷ lies (name m) (channel k) ∷ []

  unfoldable pub recv_constraints : ℕ → List Constraint
  recv_constraints s = of_found (recv_at p s) λ c. of_chans p (flow c) λ k. lies (channel k) (name n) ∷ []

  unfoldable pub constraints : Form → List Constraint
  constraints Form.Unit = holds u (name n) ∷ []
  constraints Chan = holds (row r) (name n) ∷ []
  constraints (Send c m) = holds (row r) (name n) ∷ []
  constraints (Recv c) = holds (row r) (name n) ∷ []
  constraints (Pair a b) = holds (row r) (name n) ∷ []
  constraints (Left a) = holds (row r) (name n) ∷ []
  constraints (Right a) = holds (row r) (name n) ∷ []
  constraints (Fun f x t) = holds (row r) (name n) ∷ holds (row r) (name f) ∷ []
  constraints (Spawn t) = holds u (name n) ∷ []
  constraints (Sync e) = of_rows p (flow e) λ s. send_constraints s ++ recv_constraints s
  constraints (First a) = of_rows p (flow a) λ s. of_found (pair_at p s) λ (x, y). lies (name x) (name n) ∷ []
  constraints (Second a) = of_rows p (flow a) λ s. of_found (pair_at p s) λ (x, y). lies (name y) (name n) ∷ []
  constraints (Case s x t y w) =
      of_rows p (flow s) λ k.
      of_found (left_at p k) (λ a. lies (name a) (name x) ∷ lies (name (result_name p t)) (name n) ∷ []) ++
      of_found (right_at p k) (λ a. lies (name a) (name y) ∷ lies (name (result_name p w)) (name n) ∷ [])
  constraints (Apply f a) = of_rows p (flow f) λ k. of_found (fun_at p k) λ (g, x, t). lies (name a) (name x) ∷ lies (name (result_name p t)) (name n) ∷ []

-- both tables as one
abbrev pub Sets : Type 0
Sets = Variable → Set

abbrev pub both_tables : Table → Table → Sets
both_tables flow comm (name n) = flow n
both_tables flow comm (channel c) = comm c

-- that a set has a member
abbrev pub Membership : Type 0
Membership = Variable × Abstract

unfoldable pub same_membership : Membership → Membership → Bool
same_membership (q, a) (s, b) = test (Variable-discrete ℕ_discrete q s) && test (Abstract-discrete ℕ_discrete a b)

-- a constraint asks that a set has a member
unfoldable pub asks_for : Sets → Membership → Constraint → Bool
asks_for sets x (holds a q) = same_membership x (q, a)
asks_for sets (s, b) (lies from q) = same_membership (s, b) (q, b) && sets from b

module _ (p : Program) where
  -- the constraints at every row
  unfoldable pub all_constraints : Sets → List Constraint
  all_constraints sets = gather (length p) λ r. of_found (bind_at p r) λ b. constraints p (λ n. sets (name n)) r b.name b.form

  -- "Sets hold `u` and value rows only; comm .. name chan rows; flow names bound names"
  unfoldable pub variable_allowed : Variable → Bool
  variable_allowed (name n) = elem n (collect binders p)
  variable_allowed (channel c) = chan_row p c

  unfoldable pub member_allowed : Abstract → Bool
  member_allowed u = true
  member_allowed (row r) = value_row p r

  -- all that tables may hold
  unfoldable pub widest : Sets
  widest q a = variable_allowed q && member_allowed a

  -- and the same as a list, among other memberships
  unfoldable pub memberships : List Membership
  memberships =
      collect (λ q. map (λ a. (q, a)) (u ∷ gather (length p) λ r. row r ∷ []))
      (map name (collect binders p) ++ gather (length p) λ c. channel c ∷ [])

  -- the widest sets without the memberships that are left out
  unfoldable pub without : List Membership → Sets
  without out q a = widest q a && not (among (same_membership (q, a)) out)

  -- a round puts in what is asked for; what stays out
  unfoldable pub stays_out : List Membership → List Membership
  stays_out out = let asked = all_constraints (without out) in those (λ x. not (among (asks_for (without out) x) asked)) out

  -- rounds, k at most, until one puts in nothing
  unfoldable pub rounds : ℕ → List Membership → List Membership
  rounds zero out = out
  rounds (suc k) out = let less = stays_out out in elim (ltb (length less) (length out)) [ true ↦ rounds k less | false ↦ out ]

  -- first all is out, and each round but the last puts in a membership
  unfoldable pub smallest : Sets
  smallest = without (rounds (length memberships) memberships)

  unfoldable pub smallest_flow : Table
  smallest_flow n = smallest (name n)

  unfoldable pub smallest_comm : Table
  smallest_comm c = smallest (channel c)
