-- Bytes in parts and in parts of equal size, lists that are read key by key, and tests as facts.
use Prim.Native.Nat.{ℕ, zero, suc, ◌+◌, ◌*◌, ◌-◌, ◌≤◌, ◌<◌}
use native.Mathlib.Omega.{arith}
use native.Mathlib.Nat.{zero-add, suc-add, zero-mul, suc-mul, add_comm, add-zero, add-suc}
use mathlib.Core.Bool.{Bool, not, So, not-not}
use mathlib.Core.List.{List, [], ◌∷◌, ◌++◌}
use mathlib.Core.Path.{◌≡◌, refl, sym, ap, ◌∙◌}
use mathlib.Core.Logic.{◌↔◌}
use lib.ListN.{length, get_or, take, drop, replicate, take-append-drop}
use lib.Seq.{take_at, drop_at, take-take, drop-drop, take-nil, take-add}
use lib.Dec.{ltb, eqb}
use borrow.Author.Tests.{ltb-true, lt-ltb, eqb-true}
use Rattle.program.specs.Each.{every, collect, Each, nil, ◌&◌}
use Rattle.program.proofs.Test.{and_left, and_right, and_intro}
use Rattle.program.proofs.Each.{every_elim, each_imp, each_map, each_append, each_left, each_right}
use Rattle.format.specs.Limits.{row_limit}
use Rattle.format.specs.Text.{Bytes}
use Rattle.format.specs.Document.{Line}
use Rattle.format.specs.Read.{rising, line_numbers, above_limit}
use Rattle.calls.specs.Layout.{counting}
use Rattle.calls.proofs.Codec.Sparse.{Within}

pub every_intro : {A : Type 0} (f : A → Bool) {xs : List A} → Each (λ a. So (f a)) xs → So (every f xs)
unfolding every
every_intro f nil = refl
every_intro f (t & h) = and_intro t (every_intro f h)

-- bytes are two parts exactly if these stand at their places
pub parts_iff : (a b s : Bytes) (n : ℕ) → length a ≡ n → (a ++ b ≡ s) ↔ ((a ≡ take n s) × (b ≡ drop n s))
parts_iff a b s n e = (λ q. rw (← q) (sym (take_at a b n e), sym (drop_at a b n e)), λ (p, q). rw (p, q) (take-append-drop n s))

pub drop-take : (n m : ℕ) (s : Bytes) → drop n (take (n + m) s) ≡ take m (drop n s)
drop-take zero m s = rw zero-add
drop-take (suc n) m [] = ap (drop (suc n)) (take-nil (suc n + m)) ∙ sym (take-nil m)
drop-take (suc n) m (x ∷ s) = rw suc-add (drop-take n m s)

-- a part of the first n bytes
pub each_part : {P : ℕ → Type 0} (n a w : ℕ) (s : Bytes) → a + w ≤ n → Each P (take n s) → Each P (take w (drop a s))
each_part n a w s l h =
    let m = n - (a + w) in
    let e : n ≡ a + (w + m) = omega arith in
    let q : take n s ≡ take a s ++ (take w (drop a s) ++ take m (drop w (drop a s))) =
    ap (λ (k : ℕ). take k s) e ∙ take-add a (w + m) s ∙ ap (λ (t : Bytes). take a s ++ t) (take-add w m (drop a s)) in
    each_left (take w (drop a s)) _ (each_right (take a s) _ (rw q at h))

pub zeros_iff : (s : Bytes) (n : ℕ) → length s ≡ n → (replicate n 0 ≡ s) ↔ So (every (λ b. eqb b 0) s)
unfolding every
zeros_iff s n e = (λ q. rw (← q) (there n), λ t. rw (← e) (back s t))
  where
    there : (n : ℕ) → So (every (λ b. eqb b 0) (replicate n 0))
    there zero = refl
    there (suc n) = there n

    back : (s : Bytes) → So (every (λ b. eqb b 0) s) → replicate (length s) 0 ≡ s
    back [] t = refl
    back (b ∷ s) t = rw (eqb-true b 0 (and_left _ (every (λ b. eqb b 0) s) t), back s (and_right (eqb b 0) _ t))

pub drop_part : (w j : ℕ) (s : Bytes) → drop (j * w) (drop w s) ≡ drop (suc j * w) s
drop_part w j s = drop-drop (j * w) w s ∙ rw (suc-mul, add_comm w (j * w))

-- what holds of 0 and of the others below a bound
each_below : (P : ℕ → Type 0) (n : ℕ) → P 0 → ((j : ℕ) → j < n → P (suc j)) → (j : ℕ) → j < suc n → P j
each_below P n p h zero l = p
each_below P n p h (suc j) l = h j (omega arith)

module _ {A : Type 0} where
  pub counting_shift : (n i : ℕ) (f : ℕ → A) → counting n (suc i) f ≡ counting n i (λ j. f (suc j))
  unfolding counting
  counting_shift zero i f = refl
  counting_shift (suc n) i f = ap (λ l. f (suc i) ∷ l) (counting_shift n (suc i) f)

  -- a list is what its places hold
  pub counting_is : (n i : ℕ) (f : ℕ → A) (d : A) (s : List A) → length s ≡ n → ((j : ℕ) → f (i + j) ≡ get_or s j d) → counting n i f ≡ s
  unfolding counting
  counting_is zero i f d [] e h = refl
  counting_is zero i f d (x ∷ s) e h = absurd (omega arith)
  counting_is (suc n) i f d [] e h = absurd (omega arith)
  counting_is (suc n) i f d (x ∷ s) e h =
      let first : f i ≡ x = ap f (sym (add-zero i)) ∙ h 0 in
      rw (first, counting_is n (suc i) f d s (omega arith) (λ j. ap f (suc-add i j ∙ sym (add-suc i j)) ∙ h (suc j)))

  pub every-counting : (p : A → Bool) (n : ℕ) (f : ℕ → A) → So (every p (counting n 0 f)) ↔ ((j : ℕ) → j < n → So (p (f j)))
  unfolding every counting
  every-counting p zero f = (λ t j l. absurd (omega arith), λ h. refl)
  every-counting p (suc n) f =
      let (there, back) = every-counting p n (λ j. f (suc j)) in
      rw (counting_shift n 0 f) (
        λ t. each_below (λ j. So (p (f j))) n (and_left (p (f 0)) _ t) (there (and_right (p (f 0)) _ t)),
        λ h. and_intro (h 0 (omega arith)) (back λ j l. h (suc j) (omega arith)),
      )

-- the parts of size w that f gives
module _ {A : Type 0} (w : ℕ) (g : A → Bytes) (size : (a : A) → length (g a) ≡ w) where
  pub chunks_iff : (n : ℕ) (f : ℕ → A) (s : Bytes) → (collect g (counting n 0 f) ≡ take (n * w) s) ↔ ((j : ℕ) → j < n → g (f j) ≡ take w (drop (j * w) s))
  unfolding collect counting
  chunks_iff zero f s = (λ q j l. absurd (omega arith), λ h. rw zero-mul)
  chunks_iff (suc n) f s =
      let (there, back) = chunks_iff n (λ j. f (suc j)) (drop w s) in
      let (split, join) = parts_iff (g (f 0)) (collect g (counting n 0 λ j. f (suc j))) (take (w + n * w) s) w (size (f 0)) in
      let first : take w (take (w + n * w) s) ≡ take w (drop (0 * w) s) = take-take w (w + n * w) s (omega arith) ∙ rw zero-mul in
      rw (counting_shift n 0 f, suc-mul, add_comm (n * w) w) (
        λ q. let (p, r) = split q in each_below (λ j. g (f j) ≡ take w (drop (j * w) s)) n (p ∙ first) (λ j l. there (r ∙ drop-take w (n * w) s) j l ∙ ap (take w) (drop_part w j s)),
        λ h. join (h 0 (omega arith) ∙ sym first, back (λ j l. h (suc j) (omega arith) ∙ ap (take w) (sym (drop_part w j s))) ∙ sym (drop-take w (n * w) s)),
      )

-- ---- a list that is read from keys i to i + n, one key after the other

module _ {A : Type 0} (key : A → ℕ) (i n : ℕ) {xs : List A} where
  pub within_skip : Within key (suc i) n xs → Within key i (suc n) xs
  within_skip (h, up) = (each_imp (λ x l. omega arith) h, up)

  pub within_cons : (x : A) → key x ≡ i → Within key (suc i) n xs → Within key i (suc n) (x ∷ xs)
  unfolding rising
  within_cons x e (h, up) = (
    ◌&◌ {x = x} (omega arith) (each_imp (λ y l. omega arith) h),
    and_intro (every_intro (ltb (key x)) (each_map key (each_imp (λ y l. lt-ltb (key x) (key y) (omega arith)) h))) up,
  )

  -- a key before the first
  pub within_below : (k : ℕ) → k < i → Within key i n xs → Each (λ x. k < key x) xs
  within_below k l (h, up) = each_imp (λ x m. omega arith) h

pub each_collect : {A : Type 0} {P : ℕ → Type 0} (g : A → Bytes) → ((a : A) → Each P (g a)) → (xs : List A) → Each P (collect g xs)
unfolding collect
each_collect g h [] = nil
each_collect g h (x ∷ xs) = each_append (h x) (each_collect g h xs)

-- a line whose numbers are below the limit
pub low_line : (l : Line) → Each (λ n. n < row_limit) (line_numbers l) → So (not (above_limit l))
unfolding above_limit
low_line l h = rw not-not (every_intro (λ n. ltb n row_limit) (each_imp (λ n t. lt-ltb n row_limit t) h))

-- bytes below a bound, as a test
pub below_iff : (n : ℕ) (s : Bytes) → So (every (λ b. ltb b n) s) ↔ Each (λ b. b < n) s
below_iff n s = (λ t. each_imp (λ b. ltb-true b n) (every_elim (λ b. ltb b n) s t), λ h. every_intro (λ b. ltb b n) (each_imp (λ b. lt-ltb b n) h))
