-- What a passed test says.
use Prim.Native.Nat.{ℕ, zero, suc, ◌<◌}
use mathlib.Core.Bool.{Bool, true, false, not, ◌&&◌, ◌||◌, So, false≢true}
use mathlib.Core.Path.{◌≡◌, refl, sym, ap₂, ◌∙◌}
use mathlib.Core.Logic.{◌⊎◌, inl, inr, ⊎_elim}
use native.Mathlib.Omega.{arith}
use native.Mathlib.Decide.{dec_lt}
use lib.Dec.{eqb}
use borrow.Author.Tests.{eq-eqb}
use Rattle.std.specs.Prelude.{Option, None as none, Some as some}
use Rattle.program.specs.Test.{pick, ◌⇒◌, all, any, least, test}

pub and_left : (a b : Bool) → So (a && b) → So a
and_left true b t = refl
and_left false b t = t

pub and_right : (a b : Bool) → So (a && b) → So b
and_right true b t = t
and_right false b t = absurd (false≢true t)

pub and_intro : {a b : Bool} → So a → So b → So (a && b)
and_intro s t = rw (s, t)

pub or_left : {a : Bool} (b : Bool) → So a → So (a || b)
or_left b t = rw t

pub or_right : (a : Bool) {b : Bool} → So b → So (a || b)
or_right true t = refl
or_right false t = t

pub or_cases : (a b : Bool) → So (a || b) → So a ⊎ So b
or_cases true b t = inl refl
or_cases false b t = inr t

pub not_elim : {a : Bool} → So (not a) → So a → ⊥
not_elim s t = false≢true (rw t at s)

pub not_intro : (a : Bool) → (So a → ⊥) → So (not a)
not_intro true h = absurd (h refl)
not_intro false h = refl

pub implies_elim : {a : Bool} (b : Bool) → So (a ⇒ b) → So a → So b
implies_elim b t s = rw s at t

pub implies_intro : (a : Bool) {b : Bool} → (So a → So b) → So (a ⇒ b)
implies_intro true f = f refl
implies_intro false f = refl

pub eqb_same : (n : ℕ) → So (eqb n n)
eqb_same n = eq-eqb n n refl

-- below `suc n` is `n` or below `n`
pub below : (n i : ℕ) → i < suc n → (i ≡ n) ⊎ (i < n)
below n i h = go (dec_lt i n)
  where
    go : Dec (i < n) → (i ≡ n) ⊎ (i < n)
    go (yes l) = inr l
    go (no g) = inl (omega arith)

pub all_elim : (n : ℕ) (f : ℕ → Bool) → So (all n f) → (i : ℕ) → i < n → So (f i)
unfolding all
all_elim zero f t i h = absurd (omega arith)
all_elim (suc n) f t i h = ⊎_elim (λ e. rw e (search and_left)) (λ l. all_elim n f (search and_right) i l) (below n i h)

pub all_intro : (n : ℕ) (f : ℕ → Bool) → ((i : ℕ) → i < n → So (f i)) → So (all n f)
unfolding all
all_intro zero f h = refl
all_intro (suc n) f h = and_intro (h n (omega arith)) (all_intro n f (λ i l. h i (omega arith)))

pub any_intro : {n : ℕ} (f : ℕ → Bool) (i : ℕ) → i < n → So (f i) → So (any n f)
unfolding any
any_intro {n = zero} f i h t = absurd (omega arith)
any_intro {n = suc n} f i h t = ⊎_elim (λ e. or_left (any n f) (rw e at t)) (λ l. or_right (f n) (any_intro f i l t)) (below n i h)

pub any_elim : (n : ℕ) (f : ℕ → Bool) → So (any n f) → (i : ℕ) × (i < n) × So (f i)
unfolding any
any_elim zero f t = absurd (false≢true t)
any_elim (suc n) f t =
    ⊎_elim (λ s. (n, omega arith, s)) (λ s. let (i, l, h) = any_elim n f s in (i, omega arith, h)) (or_cases (f n) (any n f) t)

-- tests that pass more often
pub or_mono : (a b c d : Bool) → (So a → So c) → (So b → So d) → So (a || b) → So (c || d)
or_mono a b c d f g h = ⊎_elim (λ s. or_left d (f s)) (λ s. or_right c (g s)) (or_cases a b h)

pub and_mono : (a b c d : Bool) → (So a → So c) → (So b → So d) → So (a && b) → So (c && d)
and_mono a b c d f g h = and_intro (f (and_left a b h)) (g (and_right a b h))

module _ {P : Type 0} where
  pub test_elim : (d : Dec P) → So (test d) → P
  unfolding test
  test_elim (yes p) t = p
  test_elim (no n) t = absurd (false≢true t)

  pub test_intro : (d : Dec P) → P → So (test d)
  unfolding test
  test_intro (yes p) q = refl
  test_intro (no n) q = absurd (n q)

-- what the smallest number that passes says, and what it says that there is none
pub data Least (n : ℕ) (f : ℕ → Bool) : Option ℕ → Type 0 where
  none_passes : ((i : ℕ) → i < n → f i ≡ false) → Least n f none
  smallest : {i : ℕ} → i < n → So (f i) → ((j : ℕ) → j < i → f j ≡ false) → Least n f (some i)

pub least_is : (n : ℕ) (f : ℕ → Bool) → Least n f (least n f)
unfolding least
least_is zero f = none_passes (λ i l. absurd (omega arith))
least_is (suc n) f = go (least n f) (f n) refl (least_is n f)
  where
    go : (o : Option ℕ) (b : Bool) → f n ≡ b → Least n f o → Least (suc n) f (elim o as (λ o. Option ℕ) [ some i ↦ some i | none ↦ pick b (some n) none ])
    go none true q (none_passes h) = smallest {i = n} (omega arith) q h
    go none false q (none_passes h) = none_passes (λ i l. ⊎_elim (λ e. rw e q) (h i) (below n i l))
    go (some i) b q (smallest l t h) = smallest {i = i} (omega arith) t h

pub least_none : (n : ℕ) (f : ℕ → Bool) → least n f ≡ none → (i : ℕ) → i < n → f i ≡ false
least_none n f e = go (rw e at (least_is n f))
  where
    go : Least n f none → (i : ℕ) → i < n → f i ≡ false
    go (none_passes h) = h

pub least_some : (n : ℕ) (f : ℕ → Bool) (i : ℕ) → least n f ≡ some i → (i < n) × So (f i) × ((j : ℕ) → j < i → f j ≡ false)
least_some n f i e = go (rw e at (least_is n f))
  where
    go : Least n f (some i) → (i < n) × So (f i) × ((j : ℕ) → j < i → f j ≡ false)
    go (smallest l t h) = (l, t, h)

-- no number passes: there is no smallest
pub none_least : (n : ℕ) (f : ℕ → Bool) → ((i : ℕ) → i < n → f i ≡ false) → least n f ≡ none
none_least n f h = go (least n f) (least_is n f)
  where
    go : (o : Option ℕ) → Least n f o → o ≡ none
    go none (none_passes k) = refl
    go (some i) (smallest l t k) = absurd (false≢true (sym (h i l) ∙ t))

-- ---- equations between tests

pub or_neither : (a b : Bool) → (a || b) ≡ false → (a ≡ false) × (b ≡ false)
or_neither true b e = absurd (false≢true (sym e))
or_neither false b e = (refl, e)

-- two tests that pass together are the same
pub same_tests : (a b : Bool) → (So a → So b) → (So b → So a) → a ≡ b
same_tests true b f g = sym (f refl)
same_tests false true f g = g refl
same_tests false false f g = refl

-- a flag that one of two tests sets
pub pick_or : (f g : Bool) (x : ℕ) → pick g 1 (pick f 1 x) ≡ pick (f || g) 1 x
pick_or true true x = refl
pick_or true false x = refl
pick_or false true x = refl
pick_or false false x = refl

pub all_same : (n : ℕ) (f g : ℕ → Bool) → ((i : ℕ) → i < n → f i ≡ g i) → all n f ≡ all n g
unfolding all
all_same zero f g h = refl
all_same (suc n) f g h = ap₂ ◌&&◌ (h n (omega arith)) (all_same n f g λ i l. h i (omega arith))

pub any_same : (n : ℕ) (f g : ℕ → Bool) → ((i : ℕ) → i < n → f i ≡ g i) → any n f ≡ any n g
unfolding any
any_same zero f g h = refl
any_same (suc n) f g h = ap₂ ◌||◌ (h n (omega arith)) (any_same n f g λ i l. h i (omega arith))
