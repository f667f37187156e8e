-- "Walks and claims": row steps, walks, pairs that can share a run, send and receive places, and what a claim says of them.
use Rattle.std.specs.Prelude.{ℕ, Bool, true, false, ◌&&◌, ◌||◌, ◌≡◌, ◌⊎◌, length, eqb}
use Rattle.std.proofs.Math.Bool.{So}
use Rattle.std.specs.Prelude.{Option, Some as some}
use Rattle.program.specs.declared.Word.{Word}
use Rattle.program.specs.declared.Form.{Form}
use Rattle.program.specs.Test.{any}
use Rattle.program.specs.Maybe.{has}
use Rattle.program.specs.Snoc.{Snoc, ε, ◌▷◌, Begins}
use Rattle.program.specs.Program.{Program, bind_at, form_at, case_of, apply_of, by_kind, left_at, right_at, fun_at, fork_at, sync_at, send_at, recv_at, result_row}
use Rattle.program.specs.Flow.{Table, row}
use Rattle.program.specs.Topology.{Fits}

-- a walk is written without its first row, which is row 0
abbrev pub Walk : Type 0
Walk = Snoc ℕ

unfoldable pub last_row : Walk → ℕ
last_row ε = 0
last_row (w ▷ r) = r

-- a bind with this form steps to its rest
abbrev pub plain : Form → Bool
plain = by_kind true true (λ c m. true) (λ c. true) (λ a b. true) (λ a. true) (λ a. true) (λ f x t. true) (λ t. true) (λ e. true) (λ s x t y w. false) (λ f a. false)

-- which sides of a case count; a side is told by the case's S and by the rows of that side, `left_at p` or `right_at p`
abbrev pub Sides : Type 0
Sides = ℕ → (ℕ → Option ℕ) → Bool

-- both, whatever V(S) holds
abbrev pub always : Sides
always s side = true

module _ (p : Program) (flow : Table) where
  -- the sides by which a case is entered: both
  unfoldable pub enters : Sides
  enters s side = always s side

  -- the test holds of a row that row q may call: a branch of its case whose side counts, or the body of a fun in its F's set
  unfoldable pub some_called : Sides → ℕ → (ℕ → Bool) → Bool
  some_called counts q f =
      has (form_at p q) λ k.
      has (case_of k) (λ (s, x, t, y, w). (counts s (left_at p) && f t) || (counts s (right_at p) && f w)) ||
      has (apply_of k) (λ (g, a). any (length p) λ s. flow g (row s) && has (fun_at p s) (λ (h, x, t). f t))

  -- "a bind other than case and apply steps to its rest"
  unfoldable pub to_rest : ℕ → ℕ → Bool
  to_rest r s = has (bind_at p r) λ b. plain b.form && eqb s b.rest

  -- "spawn also to its spawned row"
  unfoldable pub to_child : ℕ → ℕ → Bool
  to_child r s = has (fork_at p r) λ (t, rest). eqb s t

  -- "A case steps to both branches", "An apply steps to the body of each fun row in V(F)"
  unfoldable pub to_called : ℕ → ℕ → Bool
  to_called r s = some_called enters r (eqb s)

  -- "and their result rows to the case's rest", whichever side is entered; "and that body's result row to the apply's rest"
  unfoldable pub to_caller : ℕ → ℕ → Bool
  to_caller r s = any (length p) λ q. has (bind_at p q) (λ b. eqb s b.rest) && some_called always q (λ t. eqb r (result_row p t))

  -- row r steps to row s
  unfoldable pub edge : ℕ → ℕ → Bool
  edge r s = to_rest r s || to_child r s || to_called r s || to_caller r s

  -- "A walk is a list of rows from row 0 by row steps"
  unfoldable pub IsWalk : Walk → Type 0
  IsWalk ε = Unit {0}
  IsWalk (w ▷ r) = IsWalk w × So (edge (last_row w) r)

  -- "A send place of channel row c is a sync row with a send row in V(E) whose C has c in its set"
  unfoldable pub send_place : ℕ → ℕ → Bool
  send_place k r = has (sync_at p r) λ e. any (length p) λ s. flow e (row s) && has (send_at p s) λ (c, m). flow c (row k)

  -- "receive places alike"
  unfoldable pub receive_place : ℕ → ℕ → Bool
  receive_place k r = has (sync_at p r) λ e. any (length p) λ s. flow e (row s) && has (recv_at p s) λ c. flow c (row k)

module _ (p : Program) where
  -- "they agree up to a spawn row after which one enters the spawned row and the other the rest"
  pub record Parted (w₁ w₂ : Walk) : Type 0 where
    pub common : Walk
    pub child : ℕ
    pub rest : ℕ
    pub forks : fork_at p (last_row common) ≡ some (child, rest)
    pub first : Begins (common ▷ child) w₁
    pub second : Begins (common ▷ rest) w₂

  abbrev pub Shares : Walk → Walk → Type 0
  Shares w₁ w₂ = Begins w₁ w₂ ⊎ Parted w₁ w₂

  -- "Two walks can share a run if one begins the other, or if they agree up to a spawn row ..", in either order
  unfoldable pub CanShare : Walk → Walk → Type 0
  CanShare w₁ w₂ = Shares w₁ w₂ ⊎ Shares w₂ w₁

module _ (p : Program) (flow : Table) where
  -- a walk that ends at one of the places
  unfoldable pub EndsAt : (ℕ → Bool) → Walk → Type 0
  EndsAt places w = IsWalk p flow w × So (places (last_row w))

  -- what a claim says of the judged pairs of walks, a set of send places and a set of receive places
  unfoldable pub Holds : (Walk → Walk → Type 0) → Word → (ℕ → Bool) → (ℕ → Bool) → Type 0
  Holds judged word sends receives = Fits judged word (EndsAt sends) (EndsAt receives)
