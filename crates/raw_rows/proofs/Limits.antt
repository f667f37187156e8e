-- The numbers of a row as read: whether one is above the limit, and that a byte holds each where none is.
use Prim.Native.Nat.{ℕ, zero, suc, ◌+◌, ◌%◌, ◌<◌, ◌≤◌}
use mathlib.Core.Bool.{Bool, true, false, not, ◌&&◌, So, false≢true, and-false}
use mathlib.Core.List.{List, [], ◌∷◌, ◌++◌, map}
use mathlib.Core.Path.{◌≡◌, refl, sym, ap, ◌∙◌}
use native.Mathlib.Omega.{arith}
use native.Mathlib.Nat.{mod-eq_of_lt}
use native.Mathlib.Numerals.{add-one}
use native.Mathlib.Decide.{ℕ_discrete}
use lib.ListN.{length, take, drop, get_or, drop_of_length-le}
use lib.Seq.{drop-cons}
use lib.Dec.{ltb, eqb}
use borrow.Author.Tests.{ltb-true, ne_eqb, not-true, not-false}
use Rattle.program.specs.declared.Row.{Row}
use Rattle.program.specs.declared.Form.{Form}
use Rattle.program.specs.Test.{pick}
use Rattle.program.specs.Each.{every}
use Rattle.program.proofs.Test.{and_left, and_right}
use Rattle.format.specs.Limits.{row_limit}
use Rattle.format.specs.Forms.{arity, form_with, form_of}
use Rattle.format.specs.Print.{form_numbers}
use Rattle.format.specs.Read.{row_numbers}
use Rattle.raw_rows.specs.Raw.{numbers_above, row_above}

-- a form's numbers are the first of five, as many as its code has
record Arity (a b c d e k : ℕ) : Type 0 where
  numbers : form_numbers (form_with k a b c d e) ≡ take (arity k) (a ∷ b ∷ c ∷ d ∷ e ∷ [])
  form : form_with k a b c d e ≡ form_of k (take (arity k) (a ∷ b ∷ c ∷ d ∷ e ∷ []))

code : {a b c d e : ℕ} (n k : ℕ) → Arity a b c d e n → (eqb k n ≡ false → Arity a b c d e k) → Arity a b c d e k
code n k here other = elim (ℕ_discrete k n) [ yes q ↦ rw q here | no q ↦ other (ne_eqb k n q) ]

arity_is : (a b c d e k : ℕ) → Arity a b c d e k
unfolding form_numbers arity form_of
arity_is a b c d e k =
    code 2 k (record { numbers = refl; form = refl }) λ e2.
    code 3 k (record { numbers = refl; form = refl }) λ e3.
    code 4 k (record { numbers = refl; form = refl }) λ e4.
    code 5 k (record { numbers = refl; form = refl }) λ e5.
    code 6 k (record { numbers = refl; form = refl }) λ e6.
    code 7 k (record { numbers = refl; form = refl }) λ e7.
    code 8 k (record { numbers = refl; form = refl }) λ e8.
    code 9 k (record { numbers = refl; form = refl }) λ e9.
    code 10 k (record { numbers = refl; form = refl }) λ e10.
    code 11 k (record { numbers = refl; form = refl }) λ e11.
    code 12 k (record { numbers = refl; form = refl }) λ e12.
    code 13 k (record { numbers = refl; form = refl }) λ e13.
    code 14 k (record { numbers = refl; form = refl }) λ e14.
    record { numbers = rw (e2, e3, e4, e5, e6, e7, e8, e9, e10, e11, e12, e13, e14); form = rw (e2, e3, e4, e5, e6, e7, e8, e9, e10, e11, e12, e13, e14) }

-- ---- whether a number is above the limit, test by test

every_append : {A : Type 0} (f : A → Bool) (xs ys : List A) → every f (xs ++ ys) ≡ (every f xs && every f ys)
unfolding every
every_append f [] ys = refl
every_append f (x ∷ xs) ys = go (f x) (every_append f xs ys)
  where
    go : (b : Bool) → every f (xs ++ ys) ≡ (every f xs && every f ys) → (b && every f (xs ++ ys)) ≡ (b && every f xs && every f ys)
    go true h = h
    go false h = refl

not_all : (p q r : Bool) → not (p && (q && (r && true))) ≡ pick (not p) true (pick (not r) true (not q))
not_all true true true = refl
not_all true true false = refl
not_all true false true = refl
not_all true false false = refl
not_all false q r = refl

-- ---- a byte holds each number that is not above the limit

low_same : (n : ℕ) → So (ltb n row_limit) → n % 256 ≡ n
low_same n h = let k : n < 256 = omega (arith, ltb-true n row_limit h) in mod-eq_of_lt k

lows_same : (j : ℕ) (ns : List ℕ) → So (every (λ n. ltb n row_limit) (take j ns)) → take j (map (λ n. n % 256) ns) ≡ take j ns
unfolding every
lows_same zero ns h = refl
lows_same (suc j) [] h = refl
lows_same (suc j) (n ∷ ns) h = rw (low_same n (search and_left), lows_same j ns (search and_right))

-- the tests of the numbers from i on
module _ (ns : List ℕ) (i : ℕ) where
  pub from_above : i < length ns → not (ltb (get_or ns i 0) row_limit) ≡ true → true ≡ numbers_above (drop i ns)
  unfolding every
  from_above l h = rw (drop-cons ns i 0 l, not-true (ltb (get_or ns i 0) row_limit) h)

  pub from_next : i < length ns → not (ltb (get_or ns i 0) row_limit) ≡ false → numbers_above (drop (i + 1) ns) ≡ numbers_above (drop i ns)
  unfolding every
  from_next l h = rw (drop-cons ns i 0 l, add-one i, not-false (ltb (get_or ns i 0) row_limit) h)

  pub from_end : length ns ≤ i → false ≡ numbers_above (drop i ns)
  unfolding every
  from_end l = rw (drop_of_length-le ns l)

-- five numbers, one by one
abbrev one_by_one : List ℕ → List ℕ
one_by_one ns = get_or ns 0 0 ∷ get_or ns 1 0 ∷ get_or ns 2 0 ∷ get_or ns 3 0 ∷ get_or ns 4 0 ∷ []

five : (ns : List ℕ) → length ns ≡ 5 → one_by_one ns ≡ ns
five [] h = absurd (omega (arith, h))
five (a ∷ []) h = absurd (omega (arith, h))
five (a ∷ b ∷ []) h = absurd (omega (arith, h))
five (a ∷ b ∷ c ∷ []) h = absurd (omega (arith, h))
five (a ∷ b ∷ c ∷ d ∷ []) h = absurd (omega (arith, h))
five (a ∷ b ∷ c ∷ d ∷ e ∷ []) h = refl
five (a ∷ b ∷ c ∷ d ∷ e ∷ f ∷ ns) h = absurd (omega (arith, h))

-- a form as read, of which the numbers are five
module _ (k : ℕ) (ns : List ℕ) (long : length ns ≡ 5) where
  pub numbers_are : form_numbers (form_of k ns) ≡ take (arity k) ns
  unfolding form_of
  numbers_are = (arity_is (get_or ns 0 0) (get_or ns 1 0) (get_or ns 2 0) (get_or ns 3 0) (get_or ns 4 0) k).numbers ∙ ap (take (arity k)) (five ns long)

  pub low_form : numbers_above (form_numbers (form_of k ns)) ≡ false
      → form_with k (get_or ns 0 0 % 256) (get_or ns 1 0 % 256) (get_or ns 2 0 % 256) (get_or ns 3 0 % 256) (get_or ns 4 0 % 256) ≡ form_of k ns
  unfolding form_of
  low_form h =
      let all_small : So (every (λ n. ltb n row_limit) (take (arity k) (one_by_one ns))) = rw (five ns long) (not-false (every (λ n. ltb n row_limit) (take (arity k) ns)) (rw numbers_are at h)) in
      (arity_is (get_or ns 0 0 % 256) (get_or ns 1 0 % 256) (get_or ns 2 0 % 256) (get_or ns 3 0 % 256) (get_or ns 4 0 % 256) k).form
      ∙ ap (form_of k) (lows_same (arity k) (one_by_one ns) all_small)
      ∙ sym (arity_is (get_or ns 0 0) (get_or ns 1 0) (get_or ns 2 0) (get_or ns 3 0) (get_or ns 4 0) k).form

module _ (name rest : ℕ) (f : Form) where
  pub above_bind : row_above (Row.Bind (record { name = name; form = f; rest = rest }))
      ≡ pick (not (ltb name row_limit)) true (pick (not (ltb rest row_limit)) true (numbers_above (form_numbers f)))
  unfolding row_numbers every
  above_bind = rw (every_append (λ n. ltb n row_limit) (form_numbers f) (rest ∷ [])) (not_all (ltb name row_limit) (every (λ n. ltb n row_limit) (form_numbers f)) (ltb rest row_limit))

  pub record BindBelow : Type 0 where
    pub name_below : name % 256 ≡ name
    pub form_below : numbers_above (form_numbers f) ≡ false
    pub rest_below : rest % 256 ≡ rest

  -- the tests of a bind, which all pass
  pub bind_below : row_above (Row.Bind (record { name = name; form = f; rest = rest })) ≡ false → BindBelow
  bind_below h = go (ltb name row_limit) (numbers_above (form_numbers f)) (ltb rest row_limit) refl refl refl (rw above_bind at h)
    where
      go : (p q r : Bool) → ltb name row_limit ≡ p → numbers_above (form_numbers f) ≡ q → ltb rest row_limit ≡ r → pick (not p) true (pick (not r) true q) ≡ false → BindBelow
      go true false true a b c e = record { name_below = low_same name a; form_below = b; rest_below = low_same rest c }
      go true true true a b c e = absurd (false≢true (sym e))
      go true q false a b c e = absurd (false≢true (sym e))
      go false q r a b c e = absurd (false≢true (sym e))

pub above_result : (n : ℕ) → row_above (Row.Result n) ≡ not (ltb n row_limit)
unfolding row_numbers every
above_result n = go (ltb n row_limit)
  where
    go : (p : Bool) → not (p && true) ≡ not p
    go true = refl
    go false = refl

pub low_result : (n : ℕ) → row_above (Row.Result n) ≡ false → Row.Result (n % 256) ≡ Row.Result n
low_result n h = ap Row.Result (low_same n (go (ltb n row_limit) (rw (above_result n) at h)))
  where
    go : (p : Bool) → not p ≡ false → So p
    go true e = refl
    go false e = sym e
