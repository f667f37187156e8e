-- Equations between tests over the numbers below a bound.
use Prim.Native.Nat.{ℕ, zero, suc, ◌<◌}
use native.Mathlib.Omega.{arith}
use mathlib.Core.Bool.{Bool, true, false, ◌&&◌, and-false}
use mathlib.Core.Logic.{⊎_elim}
use mathlib.Core.Path.{◌≡◌, refl, ap, ◌∙◌}
use Rattle.program.specs.Test.{◌⇒◌, all}
use Rattle.program.proofs.Test.{below}

pub implies_true : (a : Bool) → a ⇒ true ≡ true
implies_true true = refl
implies_true false = refl

and_swap : (a b c : Bool) → a && (b && c) ≡ b && (a && c)
and_swap true b c = refl
and_swap false true c = refl
and_swap false false c = refl

and_four : (a b c d : Bool) → (a && b) && (c && d) ≡ (a && c) && (b && d)
and_four true true c d = refl
and_four true false true d = refl
and_four true false false d = refl
and_four false b c d = refl

pub implies_and : (s a b : Bool) → s ⇒ (a && b) ≡ (s ⇒ a) && (s ⇒ b)
implies_and true a b = refl
implies_and false a b = refl

pub all_true : (n : ℕ) → all n (λ i. true) ≡ true
unfolding all
all_true zero = refl
all_true (suc n) = all_true n

-- the first number apart
pub all_shift : (n : ℕ) (f : ℕ → Bool) → all (suc n) f ≡ f 0 && all n (λ i. f (suc i))
unfolding all
all_shift zero f = refl
all_shift (suc n) f = ap (λ b. f (suc n) && b) (all_shift n f) ∙ and_swap (f (suc n)) (f 0) _

-- one test that fails
pub all_false : (n : ℕ) (f : ℕ → Bool) (i : ℕ) → i < n → f i ≡ false → all n f ≡ false
unfolding all
all_false zero f i l e = absurd (omega arith)
all_false (suc n) f i l e = ⊎_elim (λ q. rw (← q, e)) (λ m. rw (all_false n f i m e) (and-false (f n))) (below n i l)

pub all_and : (n : ℕ) (f g : ℕ → Bool) → all n (λ i. f i && g i) ≡ all n f && all n g
unfolding all
all_and zero f g = refl
all_and (suc n) f g = rw (all_and n f g) (and_four (f n) (g n) (all n f) (all n g))

-- a test and then another, as two branches
pub and_taken : {r a b c : Bool} → r ≡ a → r ≡ true → c ≡ b → c ≡ a && b
and_taken e t q = rw (← e, t) q

pub and_left : {r a : Bool} (b : Bool) → r ≡ a → r ≡ false → false ≡ a && b
and_left b e t = rw (← e, t)
