-- Tests: Bool functions that quantify over the numbers below a bound, and decisions as tests.
use Rattle.std.specs.Prelude.{ℕ, zero, suc, Bool, true, false, ◌&&◌, ◌||◌, ◌⊎◌}
use Rattle.std.proofs.Common.{inl, inr, ⊎_elim}
use Rattle.std.specs.Prelude.{Option, None as none, Some as some}

-- a branch
abbrev pub pick : {A : Type 0} → Bool → A → A → A
pick true a b = a
pick false a b = b

infixr 20 ◌⇒◌
abbrev pub ◌⇒◌ : Bool → Bool → Bool
true ⇒ b = b
false ⇒ b = true

-- the test holds of every number below the bound
unfoldable pub all : ℕ → (ℕ → Bool) → Bool
all zero f = true
all (suc n) f = f n && all n f

-- the test holds of some number below the bound
unfoldable pub any : ℕ → (ℕ → Bool) → Bool
any zero f = false
any (suc n) f = f n || any n f

-- the smallest number below the bound of which the test holds
unfoldable pub least : ℕ → (ℕ → Bool) → Option ℕ
least zero f = none
least (suc n) f = elim (least n f) [ some i ↦ some i | none ↦ pick (f n) (some n) none ]

-- a decision as a test
unfoldable pub test : {P : Type 0} → Dec P → Bool
test (yes p) = true
test (no n) = false

unfoldable pub either? : {P Q : Type 0} → Dec P → Dec Q → Dec (P ⊎ Q)
either? (yes p) d = yes (inl p)
either? (no n) (yes q) = yes (inr q)
either? (no n) (no m) = no (⊎_elim n m)
