-- An element of which a test holds, and the elements of which it does.
use Prim.Native.Nat.{◌≤◌}
use native.Mathlib.Omega.{arith}
use mathlib.Core.Bool.{Bool, true, false, So, false≢true}
use mathlib.Core.List.{List, [], ◌∷◌}
use mathlib.Core.Path.{◌≡◌, refl}
use mathlib.Core.Logic.{⊎_elim}
use lib.ListN.{length}
use Rattle.program.specs.Each.{Member, here, there, Each, nil, ◌&◌}
use Rattle.program.proofs.Test.{or_cases, or_left, or_right}
use Rattle.least.specs.Least.{among, those}

module _ {A : Type 0} (f : A → Bool) where
  pub among_elim : (xs : List A) → So (among f xs) → (a : A) × Member a xs × So (f a)
  unfolding among
  among_elim [] t = absurd (false≢true t)
  among_elim (x ∷ xs) t = ⊎_elim (λ s. (x, here refl, s)) (λ s. let (a, m, k) = among_elim xs s in (a, there m, k)) (or_cases (f x) (among f xs) t)

  pub among_intro : {a : A} {xs : List A} → Member a xs → So (f a) → So (among f xs)
  unfolding among
  among_intro (here {xs = xs} e) t = or_left (among f xs) (rw e at t)
  among_intro (there {x = x} m) t = or_right (f x) (among_intro m t)

  pub those_member : {a : A} {xs : List A} → Member a xs → So (f a) → Member a (those f xs)
  unfolding those
  those_member (here {x = x} {xs = xs} e) t = let k : So (f x) = rw e at t in rw (k, those) (here e)
  those_member {a} (there {x = x} {xs = xs} m) t = go (f x) (those_member m t)
    where
      go : (b : Bool) → Member a (those f xs) → Member a (elim b as (λ b. List A) [ true ↦ x ∷ those f xs | false ↦ those f xs ])
      go true k = there k
      go false k = k

  pub those_fewer : (xs : List A) → length (those f xs) ≤ length xs
  unfolding those
  those_fewer [] = omega arith
  those_fewer (x ∷ xs) = go (f x) (those_fewer xs)
    where
      go : (b : Bool) → length (those f xs) ≤ length xs → length {A = A} (elim b as (λ b. List A) [ true ↦ x ∷ those f xs | false ↦ those f xs ]) ≤ length (x ∷ xs)
      go true h = omega arith
      go false h = omega arith

  -- no element fewer: the test holds of each
  pub those_all : (xs : List A) → length xs ≤ length (those f xs) → Each (λ a. So (f a)) xs
  unfolding those
  those_all [] h = nil
  those_all (x ∷ xs) h = go (f x) refl h (those_fewer xs) (those_all xs)
    where
      go : (b : Bool) → f x ≡ b → length (x ∷ xs) ≤ length {A = A} (elim b as (λ b. List A) [ true ↦ x ∷ those f xs | false ↦ those f xs ])
          → length (those f xs) ≤ length xs → (length xs ≤ length (those f xs) → Each (λ a. So (f a)) xs) → Each (λ a. So (f a)) (x ∷ xs)
      go true e h l k = e & k (omega arith)
      go false e h l k = absurd (omega arith)
