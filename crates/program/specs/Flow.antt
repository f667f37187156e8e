-- "Flow rules": the sets V(n) and C(c), and the rule of a row as a test. `FlowRule` has the same rules as propositions.
use Rattle.std.specs.Prelude.{ℕ, Bool, ◌&&◌, length}
use Rattle.program.specs.declared.Form.{Form}
use Rattle.program.specs.declared.Form.TheVariants.{Chan, Send, Recv, Pair, Left, Right, Fun, Spawn, Sync, First, Second, Case, Apply}
use Rattle.program.specs.Test.{◌⇒◌, all}
use Rattle.program.specs.Maybe.{when}
use Rattle.program.specs.Program.{Program, bind_at, chan_at, send_at, recv_at, pair_at, left_at, right_at, fun_at, result_name}

-- what a set holds: the unit value, and rows
pub data Abstract : Type 0 where
  u : Abstract
  row : ℕ → Abstract
  deriving Discrete as Abstract-discrete

abbrev pub Set : Type 0
Set = Abstract → Bool

-- V, by names, and C, by channel rows
abbrev pub Table : Type 0
Table = ℕ → Set

module _ (p : Program) where
  -- the test holds of each row of the program that is in the set
  unfoldable pub for_each : Set → (ℕ → Bool) → Bool
  for_each s f = all (length p) (λ r. s (row r) ⇒ f r)

  unfoldable pub for_each_chan : Set → (ℕ → Bool) → Bool
  for_each_chan s f = for_each s (λ c. when (chan_at p c) (λ n. f c))

  -- s lies in t
  unfoldable pub lies : Set → Set → Bool
  lies s t = (s u ⇒ t u) && for_each s (λ r. t (row r))

-- the rule of a form at row r whose bind has the name n
module _ (p : Program) (flow comm : Table) (r n : ℕ) where
  -- what a sync asks of a send row and of a recv row in its E's set
  unfoldable pub send_rule : ℕ → Bool
  send_rule s = when (send_at p s) λ (c, m). for_each_chan p (flow c) λ k. flow n u && lies p (flow m) (comm k)

  unfoldable pub recv_rule : ℕ → Bool
  recv_rule s = when (recv_at p s) λ c. for_each_chan p (flow c) λ k. lies p (comm k) (flow n)

  unfoldable pub keeps_form : Form → Bool
  keeps_form Form.Unit = flow n u
  keeps_form Chan = flow n (row r)
  keeps_form (Send c m) = flow n (row r)
  keeps_form (Recv c) = flow n (row r)
  keeps_form (Pair a b) = flow n (row r)
  keeps_form (Left a) = flow n (row r)
  keeps_form (Right a) = flow n (row r)
  keeps_form (Fun f x t) = flow n (row r) && flow f (row r)
  keeps_form (Spawn t) = flow n u
  keeps_form (Sync e) = for_each p (flow e) λ s. send_rule s && recv_rule s
  keeps_form (First a) = for_each p (flow a) λ s. when (pair_at p s) λ (x, y). lies p (flow x) (flow n)
  keeps_form (Second a) = for_each p (flow a) λ s. when (pair_at p s) λ (x, y). lies p (flow y) (flow n)
  keeps_form (Case s x t y w) =
      for_each p (flow s) λ k.
      when (left_at p k) (λ a. lies p (flow a) (flow x) && lies p (flow (result_name p t)) (flow n)) &&
      when (right_at p k) (λ a. lies p (flow a) (flow y) && lies p (flow (result_name p w)) (flow n))
  keeps_form (Apply f a) = for_each p (flow f) λ k. when (fun_at p k) λ (g, x, t). lies p (flow a) (flow x) && lies p (flow (result_name p t)) (flow n)

module _ (p : Program) (flow comm : Table) where
  unfoldable pub keeps_at : ℕ → Bool
  keeps_at r = when (bind_at p r) λ b. keeps_form p flow comm r b.name b.form

  unfoldable pub keeps_all : Bool
  keeps_all = all (length p) keeps_at
