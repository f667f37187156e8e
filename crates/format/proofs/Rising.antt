-- Tests over lists that grow at their end: every, rising.
use Prim.Native.Nat.{ℕ}
use mathlib.Core.Bool.{Bool, false, So, false≢true}
use mathlib.Core.List.{List, [], ◌∷◌, ◌++◌, map}
use mathlib.Core.Path.{◌≡◌, refl, sym}
use lib.Dec.{ltb}
use Rattle.program.specs.Each.{every}
use Rattle.program.proofs.Test.{and_left, and_right, and_intro}
use Rattle.format.specs.Read.{present, rising}

module _ {A : Type 0} (f : A → Bool) where
  pub every_append : (xs ys : List A) → So (every f xs) → So (every f ys) → So (every f (xs ++ ys))
  unfolding every
  every_append [] ys h k = k
  every_append (x ∷ xs) ys h k = and_intro (and_left (f x) (every f xs) h) (every_append xs ys (and_right (f x) (every f xs) h) k)

  pub every_left : (xs ys : List A) → So (every f (xs ++ ys)) → So (every f xs)
  unfolding every
  every_left [] ys h = refl
  every_left (x ∷ xs) ys h = and_intro (and_left (f x) (every f (xs ++ ys)) h) (every_left xs ys (and_right (f x) (every f (xs ++ ys)) h))

  pub every_right : (xs ys : List A) → So (every f (xs ++ ys)) → So (every f ys)
  unfolding every
  every_right [] ys h = h
  every_right (x ∷ xs) ys h = every_right xs ys (and_right (f x) (every f (xs ++ ys)) h)

  pub every_one : (x : A) → So (f x) → So (every f (x ∷ []))
  unfolding every
  every_one x h = and_intro h refl

  pub every_head : (x : A) (xs : List A) → So (every f (x ∷ xs)) → So (f x)
  unfolding every
  every_head x xs h = and_left (f x) (every f xs) h

  pub every_tail : (x : A) (xs : List A) → So (every f (x ∷ xs)) → So (every f xs)
  unfolding every
  every_tail x xs h = and_right (f x) (every f xs) h

module _ {A B : Type 0} (f : B → Bool) (g : A → B) where
  pub every_map : (xs : List A) → So (every (λ x. f (g x)) xs) → So (every f (map g xs))
  unfolding every
  every_map [] h = refl
  every_map (x ∷ xs) h = and_intro (and_left (f (g x)) (every (λ x. f (g x)) xs) h) (every_map xs (and_right (f (g x)) (every (λ x. f (g x)) xs) h))

  pub every_unmap : (xs : List A) → So (every f (map g xs)) → So (every (λ x. f (g x)) xs)
  unfolding every
  every_unmap [] h = refl
  every_unmap (x ∷ xs) h = and_intro (and_left (f (g x)) (every f (map g xs)) h) (every_unmap xs (and_right (f (g x)) (every f (map g xs)) h))

-- one more number that is above all
pub rising_snoc : (xs : List ℕ) (n : ℕ) → So (rising xs) → So (every (λ x. ltb x n) xs) → So (rising (xs ++ (n ∷ [])))
unfolding rising every
rising_snoc [] n h k = refl
rising_snoc (x ∷ xs) n h k =
    and_intro (every_append (ltb x) xs (n ∷ []) (search and_left) (every_one (ltb x) n (and_left (ltb x n) (every (λ x. ltb x n) xs) k)))
    (rising_snoc xs n (search and_right) (and_right (ltb x n) (every (λ x. ltb x n) xs) k))

-- what stands before a number is below it
pub rising_before : (xs : List ℕ) (n : ℕ) (ys : List ℕ) → So (rising (xs ++ (n ∷ ys))) → So (every (λ x. ltb x n) xs)
unfolding rising every
rising_before [] n ys h = refl
rising_before (x ∷ xs) n ys h =
    let low : So (every (ltb x) (xs ++ (n ∷ ys))) = search and_left in
    and_intro (every_head (ltb x) n ys (every_right (ltb x) xs (n ∷ ys) low)) (rising_before xs n ys (search and_right))

pub present_cases : {A : Type 0} (xs : List A) → present xs ≡ false → xs ≡ []
unfolding present
present_cases [] e = refl
present_cases (x ∷ xs) e = absurd (false≢true (sym e))
