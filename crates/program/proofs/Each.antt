-- Laws of what holds of each element of a list, and of every two.
use Prim.Native.Nat.{ℕ}
use mathlib.Core.Bool.{Bool, So, ◌||◌, or_assoc}
use mathlib.Core.List.{List, [], ◌∷◌, ◌++◌, map, append_assoc}
use mathlib.Core.Path.{◌≡◌, refl, sym, ap, ◌∙◌}
use lib.Dec.{eqb}
use Rattle.program.specs.Each.{Member, here, there, Each, nil, ◌&◌, every, collect, elem}
use Rattle.program.proofs.Test.{and_left, and_right}

module _ {A : Type 0} where
  -- R holds of every two elements, of an element and itself too
  abbrev pub EachTwo : (A → A → Type 0) → List A → Type 0
  EachTwo R xs = Each (λ a. Each (R a) xs) xs

  pub every_elim : (f : A → Bool) (xs : List A) → So (every f xs) → Each (λ a. So (f a)) xs
  unfolding every
  every_elim f [] t = nil
  every_elim f (x ∷ xs) t = and_left (f x) (every f xs) t & every_elim f xs (and_right (f x) (every f xs) t)

  pub each_at : {P : A → Type 0} {a : A} {xs : List A} → Each P xs → Member a xs → P a
  each_at nil m = elim m [ ]
  each_at (p & h) (here e) = rw e p
  each_at (p & h) (there m) = each_at h m

  pub each_imp : {P Q : A → Type 0} {xs : List A} → ((a : A) → P a → Q a) → Each P xs → Each Q xs
  each_imp f nil = nil
  each_imp f (◌&◌ {x = x} p h) = f x p & each_imp f h

  pub each_both : {P Q : A → Type 0} {xs : List A} → Each P xs → Each Q xs → Each (λ a. P a × Q a) xs
  each_both nil nil = nil
  each_both (p & h) (q & k) = (p, q) & each_both h k

  pub each_append : {P : A → Type 0} {xs ys : List A} → Each P xs → Each P ys → Each P (xs ++ ys)
  each_append nil k = k
  each_append (p & h) k = p & each_append h k

  pub each_left : {P : A → Type 0} (xs ys : List A) → Each P (xs ++ ys) → Each P xs
  each_left [] ys h = nil
  each_left (x ∷ xs) ys (p & h) = p & each_left xs ys h

  pub each_right : {P : A → Type 0} (xs ys : List A) → Each P (xs ++ ys) → Each P ys
  each_right [] ys h = h
  each_right (x ∷ xs) ys (p & h) = each_right xs ys h

  pub each_member : (xs : List A) → Each (λ a. Member a xs) xs
  each_member [] = nil
  each_member (x ∷ xs) = here refl & each_imp (λ a m. there m) (each_member xs)

  pub each_all : {P : A → Type 0} (xs : List A) → ((a : A) → P a) → Each P xs
  each_all [] f = nil
  each_all (x ∷ xs) f = f x & each_all xs f

pub each_swap : {A B : Type 0} {R : A → B → Type 0} (ys : List B) {xs : List A} → Each (λ a. Each (R a) ys) xs → Each (λ b. Each (λ a. R a b) xs) ys
each_swap ys nil = each_all ys λ b. nil
each_swap ys (p & h) = each_imp (λ b k. k.0 & k.1) (each_both p (each_swap ys h))

-- every two of two lists put together, where R goes both ways
pub every_two_append : {A : Type 0} {R : A → A → Type 0} {xs ys : List A} → ((a b : A) → R a b → R b a)
    → EachTwo R xs → Each (λ a. Each (R a) ys) xs → EachTwo R ys → EachTwo R (xs ++ ys)
every_two_append {ys = ys} flip h k l =
    each_append (each_imp (λ a r. each_append r.0 r.1) (each_both h k))
    (each_imp (λ b r. each_append (each_imp (λ a q. flip a b q) r.0) r.1) (each_both (each_swap ys k) l))

pub each_map : {A B : Type 0} {P : B → Type 0} (f : A → B) {xs : List A} → Each (λ a. P (f a)) xs → Each P (map f xs)
each_map f nil = nil
each_map f (p & h) = p & each_map f h

pub member_unmap : {A B : Type 0} {b : B} (f : A → B) (xs : List A) → Member b (map f xs) → (a : A) × Member a xs × (b ≡ f a)
member_unmap f [] m = elim m [ ]
member_unmap f (x ∷ xs) (here e) = (x, here refl, e)
member_unmap f (x ∷ xs) (there m) = let (a, k, e) = member_unmap f xs m in (a, there k, e)

pub each_unmap : {A B : Type 0} {P : B → Type 0} (f : A → B) (xs : List A) → Each P (map f xs) → Each (λ a. P (f a)) xs
each_unmap f [] h = nil
each_unmap f (x ∷ xs) (p & h) = p & each_unmap f xs h

pub collect-append : {A B : Type 0} (f : A → List B) (xs ys : List A) → collect f (xs ++ ys) ≡ collect f xs ++ collect f ys
unfolding collect
collect-append f [] ys = refl
collect-append f (x ∷ xs) ys = rw (collect-append f xs ys) (sym (append_assoc (f x) (collect f xs) (collect f ys)))

pub elem-append : (n : ℕ) (xs ys : List ℕ) → elem n (xs ++ ys) ≡ (elem n xs || elem n ys)
unfolding elem
elem-append n [] ys = refl
elem-append n (x ∷ xs) ys = ap (λ (b : Bool). eqb n x || b) (elem-append n xs ys) ∙ sym (or_assoc (eqb n x) (elem n xs) (elem n ys))
