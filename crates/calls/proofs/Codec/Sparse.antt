-- A list with rising keys, laid out as a value for each number of a range, and gathered again.
use Prim.Native.Nat.{ℕ, zero, suc, ◌+◌, ◌≤◌, ◌<◌}
use native.Mathlib.Omega.{arith}
use native.Mathlib.Decide.{ℕ_discrete}
use mathlib.Core.Bool.{Bool, true, false, So}
use mathlib.Core.List.{List, [], ◌∷◌, map}
use mathlib.Core.Path.{◌≡◌, refl, ap, ◌∙◌}
use Rattle.std.specs.Prelude.{Option, None as none, Some as some}
use lib.ListN.{length}
use lib.Dec.{ltb, eqb}
use borrow.Author.Tests.{ltb-true, eq-eqb, ne_eqb}
use Rattle.program.specs.Test.{pick}
use Rattle.program.specs.Each.{every, Each, nil, ◌&◌}
use Rattle.program.proofs.Test.{and_left, and_right}
use Rattle.program.proofs.Each.{every_elim, each_imp, each_both, each_unmap}
use Rattle.format.specs.Read.{rising}
use Rattle.calls.specs.Layout.{counting}

-- by whether a test passes
pub either : {P : Type 0} (b : Bool) → (b ≡ true → P) → (b ≡ false → P) → P
either true yea nay = yea refl
either false yea nay = nay refl

pub counting-length : {A : Type 0} (n i : ℕ) (f : ℕ → A) → length (counting n i f) ≡ n
unfolding counting
counting-length zero i f = refl
counting-length (suc n) i f = ap suc (counting-length n (suc i) f)

-- what two functions give of the numbers that are counted
pub counting_same : {A : Type 0} (k i : ℕ) (f g : ℕ → A) → ((n : ℕ) → i ≤ n → n < k + i → f n ≡ g n) → counting k i f ≡ counting k i g
unfolding counting
counting_same zero i f g h = refl
counting_same (suc k) i f g h = rw (h i (omega arith) (omega arith)) (ap (λ xs. g i ∷ xs) (counting_same k (suc i) f g λ n l m. h n (omega arith) (omega arith)))

pub counting_each : {A : Type 0} {P : A → Type 0} (n i : ℕ) (f : ℕ → A) → ((k : ℕ) → P (f k)) → Each P (counting n i f)
unfolding counting
counting_each zero i f h = nil
counting_each (suc n) i f h = h i & counting_each n (suc i) f h

module _ {A : Type 0} where
  -- what is found at i, i + 1 and so on, n of them
  unfoldable pub gather : ℕ → ℕ → (ℕ → Option A) → List A
  gather zero i g = []
  gather (suc n) i g = elim (g i) [ none ↦ gather n (suc i) g | some a ↦ a ∷ gather n (suc i) g ]

  module _ (key : A → ℕ) where
    -- the first element with a key
    unfoldable pub lookup : List A → ℕ → Option A
    lookup [] k = none
    lookup (x ∷ xs) k = pick (eqb k (key x)) (some x) (lookup xs k)

    lookup_at : (k : ℕ) (x : A) (xs : List A) → k ≡ key x → lookup (x ∷ xs) k ≡ some x
    unfolding lookup
    lookup_at k x xs e = rw (eq-eqb k (key x) e)

    lookup_past : (k : ℕ) (x : A) (xs : List A) → (k ≡ key x → ⊥) → lookup (x ∷ xs) k ≡ lookup xs k
    unfolding lookup
    lookup_past k x xs n = rw (ne_eqb k (key x) n)

    lookup_below : (k : ℕ) (xs : List A) → Each (λ x. k < key x) xs → lookup xs k ≡ none
    unfolding lookup
    lookup_below k [] nil = refl
    lookup_below k (x ∷ xs) (h & hs) = lookup_past k x xs (omega arith) ∙ lookup_below k xs hs

    above : (x : A) (xs : List A) → So (rising (map key (x ∷ xs))) → Each (λ y. key x < key y) xs
    unfolding rising
    above x xs up =
        each_imp (λ y t. ltb-true (key x) (key y) t)
        (each_unmap key xs (every_elim (ltb (key x)) (map key xs) (and_left _ (rising (map key xs)) up)))

    -- a list with rising keys between i and i + n
    abbrev pub Within : ℕ → ℕ → List A → Type 0
    Within i n xs = Each (λ x. (i ≤ key x) × (key x < i + n)) xs × So (rising (map key xs))

    pub gather_back : (n i : ℕ) (g : ℕ → Option A) (xs : List A)
        → ((k : ℕ) → i ≤ k → g k ≡ lookup xs k) → Within i n xs → gather n i g ≡ xs
    unfolding gather rising
    gather_back zero i g [] same h = refl
    gather_back zero i g (x ∷ xs) same (h & hs, up) = absurd (omega arith)
    gather_back (suc n) i g [] same h =
        rw (same i (omega arith), lookup_below i [] nil, gather)
        (gather_back n (suc i) g [] (λ k l. same k (omega arith)) (nil, refl))
    gather_back (suc n) i g (x ∷ xs) same (h & hs, up) = go (ℕ_discrete i (key x)) (gather_back n (suc i) g)
      where
        rest : Each (λ y. (key x < key y) × (key y < suc i + n)) xs
        rest = each_imp (λ y t. omega arith) (each_both hs (above x xs up))

        go : Dec (i ≡ key x)
            → ((ys : List A) → ((k : ℕ) → suc i ≤ k → g k ≡ lookup ys k) → Within (suc i) n ys → gather n (suc i) g ≡ ys)
            → gather (suc n) i g ≡ x ∷ xs
        go (yes e) back =
            rw (same i (omega arith), lookup_at i x xs e, gather)
            (ap (λ ys. x ∷ ys)
            (back xs (λ k l. same k (omega arith) ∙ lookup_past k x xs (omega arith))
            (each_imp (λ y t. omega arith) rest, and_right (every (ltb (key x)) (map key xs)) _ up)))
        go (no d) back =
            rw (same i (omega arith), lookup_below i (x ∷ xs) (omega arith & each_imp (λ y t. omega arith) rest), gather)
            (back (x ∷ xs) (λ k l. same k (omega arith)) (omega arith & each_imp (λ y t. omega arith) rest, up))
