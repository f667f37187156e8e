-- The fuel of scope: that of the code's contracts is enough, and what a row and a form come to with it.
use Prim.Native.Nat.{ℕ, zero, suc, ◌+◌, ◌*◌, ◌-◌, ◌≤◌, ◌<◌, min}
use native.Mathlib.Omega.{arith}
use native.Mathlib.Nat.{sub-zero}
use native.Mathlib.Decide.{dec_lt, dec_le}
use Rattle.std.specs.Prelude.{None as none, Some as some}
use mathlib.Core.Bool.{Bool, true, false}
use mathlib.Core.Logic.{◌⊎◌, inl, inr}
use mathlib.Core.Path.{◌≡◌, refl, sym, ap, ap₂, ◌∙◌}
use lib.ListN.{length, get_or}
use lib.Dec.{eqb}
use Rattle.program.specs.Test.{pick}
use borrow.Author.Tests.{lt-ltb, le-ltb, le-leb, lt-leb}
use Rattle.program.specs.declared.Form.{Form}
use Rattle.program.specs.declared.Form.TheVariants.{Chan, Send, Recv, Pair, Left, Right, Fun, Spawn, Sync, First, Second, Case, Apply}
use Rattle.program.specs.declared.Row.{Row}
use Rattle.program.specs.Program.{Program, row_at}
use Rattle.format.specs.Text.{Bytes}
use Rattle.format.specs.Limits.{row_limit}
use Rattle.format.specs.Structure.{scope_line}
use Rattle.format.specs.Scope.{Scope, no_names, with_name, use_fault, row_fault, form_fault, scope_fault}
use Rattle.store.specs.Rows.{store_row, store_program}
use Rattle.store.proofs.Laws.{program_length, row_at_program}

-- ---- a row by one step

-- a row that is not passed over, with fuel k for its form and j for its rest
abbrev pub row_step : ℕ → ℕ → Program → ℕ → Row → Scope → ℕ
row_step k j p r row scope =
    elim row [
      | Row.Result n ↦ use_fault r n scope
      | Row.Bind b ↦ min (form_fault k p r b.form scope) (row_fault j p (r + 1) b.rest (with_name b.name scope))
    ]

module _ (p : Program) (from r : ℕ) (scope : Scope) where
  row_before : (k : ℕ) → r < from → row_fault k p from r scope ≡ row_limit
  unfolding row_fault
  row_before zero h = refl
  row_before (suc k) h = simp (lt-ltb r from h)

  row_past : (k : ℕ) → from ≤ r → length p ≤ r → row_fault k p from r scope ≡ row_limit
  unfolding row_fault
  row_past zero h q = refl
  row_past (suc k) h q = simp (le-ltb r from h, le-leb (length p) r q)

  row_within : (k : ℕ) → from ≤ r → r < length p → row_fault (suc k) p from r scope ≡ row_step k k p r (row_at p r) scope
  unfolding row_fault
  row_within k h q = simp (le-ltb r from h, lt-leb (length p) r q)

-- ---- a form by one step

pub case_within : (k : ℕ) (p : Program) (r s x t y w : ℕ) (scope : Scope)
    → form_fault (suc k) p r (Case s x t y w) scope
    ≡ min (use_fault r s scope) (min (row_fault k p (r + 1) t (with_name x scope)) (row_fault k p (r + 1) w (with_name y scope)))
unfolding form_fault
case_within k p r s x t y w scope = refl

-- ---- more fuel changes nothing

-- the rows from `from` on come to the same with either fuel
abbrev Agree : ℕ → ℕ → Program → ℕ → Type 0
Agree k k' p from = (r : ℕ) (scope : Scope) → row_fault k p from r scope ≡ row_fault k' p from r scope

module _ (k k' : ℕ) (p : Program) (r : ℕ) (same : Agree k k' p (r + 1)) where
  form_agrees : (f : Form) (scope : Scope) → form_fault (suc k) p r f scope ≡ form_fault (suc k') p r f scope
  unfolding form_fault
  form_agrees Form.Unit scope = refl
  form_agrees Chan scope = refl
  form_agrees (Send c m) scope = refl
  form_agrees (Recv c) scope = refl
  form_agrees (Pair a b) scope = refl
  form_agrees (Left a) scope = refl
  form_agrees (Right a) scope = refl
  form_agrees (Fun f x t) scope = same t _
  form_agrees (Spawn t) scope = same t scope
  form_agrees (Sync e) scope = refl
  form_agrees (First a) scope = refl
  form_agrees (Second a) scope = refl
  form_agrees (Case s x t y w) scope = ap (min _) (ap₂ min (same t _) (same w _))
  form_agrees (Apply f a) scope = refl

  step_agrees : (j j' : ℕ) (row : Row) (scope : Scope) → Agree j j' p (r + 1) → row_step (suc k) j p r row scope ≡ row_step (suc k') j' p r row scope
  step_agrees j j' (Row.Result n) scope more = refl
  step_agrees j j' (Row.Bind b) scope more = ap₂ min (form_agrees b.form scope) (more b.rest _)

-- a row that is passed over comes to the same with any fuel
passed : (k k' : ℕ) (p : Program) (from r : ℕ) (scope : Scope) → (from ≤ r → r < length p → row_fault k p from r scope ≡ row_fault k' p from r scope)
    → row_fault k p from r scope ≡ row_fault k' p from r scope
passed k k' p from r scope within =
    elim (dec_lt r from) [
      | yes l ↦ row_before p from r scope k l ∙ sym (row_before p from r scope k' l)
      | no l ↦
          elim (dec_le (length p) r) [
            | yes m ↦ row_past p from r scope k (omega arith) m ∙ sym (row_past p from r scope k' (omega arith) m)
            | no m ↦ within (omega arith) (omega arith)
          ]
    ]

pub enough : (k k' : ℕ) (p : Program) (from : ℕ) → 2 * length p + 1 ≤ k + 2 * from → 2 * length p + 1 ≤ k' + 2 * from → Agree k k' p from
enough zero k' p from h h' r scope = passed _ _ p from r scope λ l m. absurd (omega arith)
enough (suc zero) k' p from h h' r scope = passed _ _ p from r scope λ l m. absurd (omega arith)
enough (suc (suc k)) zero p from h h' r scope = passed _ _ p from r scope λ l m. absurd (omega arith)
enough (suc (suc k)) (suc zero) p from h h' r scope = passed _ _ p from r scope λ l m. absurd (omega arith)
enough (suc (suc k)) (suc (suc k')) p from h h' r scope =
    passed _ _ p from r scope λ l m.
    row_within p from r scope (suc k) l m
    ∙ step_agrees k k' p r (enough k k' p (r + 1) (omega arith) (omega arith)) _ _ (row_at p r) scope (enough (suc k) (suc k') p (r + 1) (omega arith) (omega arith))
    ∙ sym (row_within p from r scope (suc k') l m)

-- ---- what is found is a row of the program, or none

abbrev Found : Program → ℕ → Type 0
Found p x = (x < length p) ⊎ (x ≡ row_limit)

module _ (p : Program) where
  least_found : (a b : ℕ) → Found p a → Found p b → Found p (min a b)
  least_found a b (inl l) h = inl (omega arith)
  least_found a b (inr e) (inl l) = inl (omega arith)
  least_found a b (inr e) (inr q) = inr (omega arith)

  use_found : (r n : ℕ) (scope : Scope) → r < length p → Found p (use_fault r n scope)
  unfolding use_fault
  use_found r n scope l = go (eqb (get_or scope n 0) 0)
    where
      go : (b : Bool) → Found p (pick b r row_limit)
      go true = inl l
      go false = inr refl

  form_found : (k r : ℕ) → r < length p → ((t : ℕ) (scope : Scope) → Found p (row_fault k p (r + 1) t scope)) → (f : Form) (scope : Scope) → Found p (form_fault (suc k) p r f scope)
  unfolding form_fault
  form_found k r l rows Form.Unit scope = inr refl
  form_found k r l rows Chan scope = inr refl
  form_found k r l rows (Send c m) scope = least_found _ _ (use_found r c scope l) (use_found r m scope l)
  form_found k r l rows (Recv c) scope = use_found r c scope l
  form_found k r l rows (Pair a b) scope = least_found _ _ (use_found r a scope l) (use_found r b scope l)
  form_found k r l rows (Left a) scope = use_found r a scope l
  form_found k r l rows (Right a) scope = use_found r a scope l
  form_found k r l rows (Fun f x t) scope = rows t _
  form_found k r l rows (Spawn t) scope = rows t scope
  form_found k r l rows (Sync e) scope = use_found r e scope l
  form_found k r l rows (First a) scope = use_found r a scope l
  form_found k r l rows (Second a) scope = use_found r a scope l
  form_found k r l rows (Case s x t y w) scope = least_found _ _ (use_found r s scope l) (least_found _ _ (rows t _) (rows w _))
  form_found k r l rows (Apply f a) scope = least_found _ _ (use_found r f scope l) (use_found r a scope l)

  step_found : (k r : ℕ) → r < length p → ((f : Form) (scope : Scope) → Found p (form_fault k p r f scope)) → ((t : ℕ) (scope : Scope) → Found p (row_fault k p (r + 1) t scope))
      → (row : Row) (scope : Scope) → Found p (row_step k k p r row scope)
  step_found k r l forms rows (Row.Result n) scope = use_found r n scope l
  step_found k r l forms rows (Row.Bind b) scope = least_found _ _ (forms b.form scope) (rows b.rest _)

  within_found : (k from r : ℕ) (scope : Scope) → (r < length p → Found p (row_step k k p r (row_at p r) scope)) → Found p (row_fault (suc k) p from r scope)
  within_found k from r scope h =
      elim (dec_lt r from) [
        | yes l ↦ inr (row_before p from r scope (suc k) l)
        | no l ↦
            elim (dec_le (length p) r) [
              | yes m ↦ inr (row_past p from r scope (suc k) (omega arith) m)
              | no m ↦ rw (row_within p from r scope k (omega arith) (omega arith)) (h (omega arith))
            ]
      ]

  row_found : (k from r : ℕ) (scope : Scope) → Found p (row_fault k p from r scope)
  unfolding row_fault form_fault
  row_found zero from r scope = inr refl
  row_found (suc zero) from r scope = within_found zero from r scope λ l. step_found zero r l (λ f s. inr refl) (λ t s. inr refl) (row_at p r) scope
  row_found (suc (suc k)) from r scope = within_found (suc k) from r scope λ l. step_found (suc k) r l (form_found k r l (row_found k (r + 1))) (row_found (suc k) (r + 1)) (row_at p r) scope

-- ---- with the fuel of the code's contracts

pub form_fuel : (n r : ℕ) → r < n → 2 * (n - r) ≡ suc (2 * (n - (r + 1)) + 1)
form_fuel n r h = omega arith

module _ (n : ℕ) (s : Bytes) (from r : ℕ) (scope : Scope) where
  pub scope_before : r < from → row_fault (2 * (n - from) + 1) (store_program n s) from r scope ≡ row_limit
  scope_before h = row_before (store_program n s) from r scope _ h

  pub scope_past : from ≤ r → n ≤ r → row_fault (2 * (n - from) + 1) (store_program n s) from r scope ≡ row_limit
  scope_past l m = row_past (store_program n s) from r scope _ l (rw (program_length n s) m)

  pub scope_within : from ≤ r → r < n
      → row_fault (2 * (n - from) + 1) (store_program n s) from r scope ≡ row_step (2 * (n - r)) (2 * (n - (r + 1)) + 1) (store_program n s) r (store_row s r) scope
  scope_within l m =
      let p = store_program n s in
      let size : length p ≡ n = program_length n s in
      let k = 2 * (n - from) - 1 in
      let j = 2 * (n - (r + 1)) + 1 in
      let e : 2 * (n - from) + 1 ≡ suc (suc k) = omega arith in
      rw (e, form_fuel n r m, ← (row_at_program n s r m))
      (row_within p from r scope (suc k) l (omega arith)
      ∙ step_agrees k j p r (enough k j p (r + 1) (omega arith) (omega arith)) (suc k) j (row_at p r) scope (enough (suc k) j p (r + 1) (omega arith) (omega arith)))

scope_all : (n : ℕ) (s : Bytes) → scope_fault (store_program n s) ≡ row_fault (2 * (n - 0) + 1) (store_program n s) 0 0 no_names
unfolding scope_fault
scope_all n s = rw (program_length n s, sub-zero)

-- the row of all rows, or none
module _ (n : ℕ) (s : Bytes) {r : ℕ} (e : r ≡ row_fault (2 * (n - 0) + 1) (store_program n s) 0 0 no_names) where
  pub line_is : r < n → some r ≡ scope_line (store_program n s)
  unfolding scope_line
  line_is l = rw (scope_all n s, ← e, program_length n s, lt-ltb r n l)

  pub line_none : n ≤ r → none ≡ scope_line (store_program n s)
  unfolding scope_line
  line_none l = rw (scope_all n s, ← e, program_length n s, le-ltb r n l)

  pub no_fault : n ≤ r → scope_fault (store_program n s) ≡ row_limit
  no_fault l = go (row_found (store_program n s) _ _ _ _)
    where
      size : length (store_program n s) ≡ n
      size = program_length n s

      go : Found (store_program n s) (row_fault (2 * (n - 0) + 1) (store_program n s) 0 0 no_names) → scope_fault (store_program n s) ≡ row_limit
      go (inl m) = absurd (omega (arith, size, e, l))
      go (inr q) = scope_all n s ∙ q
