-- What a well-formed program's shape gives: rests lead to later rows, a spawn's two rows differ, one chan row binds a name.
use Prim.Native.Nat.{ℕ, zero, suc, ◌<◌}
use mathlib.Core.Bool.{not, ◌&&◌, So, false≢true}
use mathlib.Core.List.{List, [], ◌∷◌, ◌++◌}
use Rattle.std.specs.Prelude.{Some as some}
use mathlib.Core.Path.{◌≡◌, refl, ap}
use mathlib.Core.Logic.{◌≢◌, ⊎_elim}
use native.Mathlib.Omega.{arith}
use lib.ListN.{length}
use lib.Dec.{eqb, ltb}
use borrow.Author.Tests.{eq-eqb, ltb-true}
use Rattle.program.specs.declared.Row.{Row}
use Rattle.program.specs.declared.Bind.{Bind}
use Rattle.program.specs.Each.{Member, here, there, collect, elem, Each, ◌&◌}
use Rattle.program.specs.Maybe.{◌>>=◌}
use Rattle.program.specs.Program.{Program, row_at, bind_of, bind_at, spawn_of, chan_of, chan_at, fork_at, rows_of, pointers, binders}
use Rattle.program.proofs.Each.{every_elim, each_right}
use Rattle.program.proofs.Maybe.{Found, found, found_self, found_bind, found_at, found_map}
use Rattle.program.proofs.Sound.Forms.{chan_form, spawn_form}
use Rattle.program.proofs.Test.{and_left, and_right, or_left, or_right, or_cases, and_intro, all_elim, not_elim, not_intro}
use Rattle.program.proofs.WellFormed.{distinct, pointers_rise, WellFormed}

-- a bind stands at a row of the program
pub bind_bound : (p : Program) (r : ℕ) (b : Bind) → bind_at p r ≡ some b → r < length p
unfolding bind_at bind_of row_at
bind_bound [] r b e = let z : ◌≡◌ {A = ℕ} 0 1 = cc in absurd (omega arith)
bind_bound (x ∷ p) zero b e = omega arith
bind_bound (x ∷ p) (suc r) b e = omega (arith, bind_bound p r b e)

pub row_of : (p : Program) (r : ℕ) (b : Bind) → bind_at p r ≡ some b → row_at p r ≡ Row.Bind b
unfolding bind_at bind_of
row_of p r b e = go (row_at p r) refl e
  where
    go : (x : Row) → row_at p r ≡ x → bind_of x ≡ some b → row_at p r ≡ Row.Bind b
    go (Row.Result n) q h = cc
    go (Row.Bind d) q h = cc

-- the members of a list of numbers as a test finds them
pub member_elem : {n : ℕ} {xs : List ℕ} → Member n xs → So (elem n xs)
unfolding elem
member_elem {n} (here {x = x} {xs = xs} e) = or_left (elem n xs) (eq-eqb n x e)
member_elem {n} (there {x = x} {xs = xs} m) = or_right (eqb n x) (member_elem m)

pub member_left : {A : Type 0} {n : A} {xs : List A} (ys : List A) → Member n xs → Member n (xs ++ ys)
member_left ys (here e) = here e
member_left ys (there m) = there (member_left ys m)

pub member_right : {A : Type 0} {n : A} (xs : List A) {ys : List A} → Member n ys → Member n (xs ++ ys)
member_right [] m = m
member_right (x ∷ xs) m = there (member_right xs m)

elem_left : (n : ℕ) (xs ys : List ℕ) → So (elem n xs) → So (elem n (xs ++ ys))
unfolding elem
elem_left n [] ys t = absurd (false≢true t)
elem_left n (x ∷ xs) ys t =
    ⊎_elim (or_left (elem n (xs ++ ys))) (λ k. or_right (eqb n x) (elem_left n xs ys k)) (or_cases (eqb n x) (elem n xs) t)

distinct_left : (xs ys : List ℕ) → So (distinct (xs ++ ys)) → So (distinct xs)
unfolding distinct
distinct_left [] ys t = refl
distinct_left (x ∷ xs) ys t =
    let apart : So (not (elem x (xs ++ ys))) = search and_left in
    and_intro (not_intro (elem x xs) (λ k. not_elim apart (elem_left x xs ys k))) (distinct_left xs ys (search and_right))

distinct_right : (xs ys : List ℕ) → So (distinct (xs ++ ys)) → So (distinct ys)
unfolding distinct
distinct_right [] ys t = t
distinct_right (x ∷ xs) ys t = distinct_right xs ys (search and_right)

-- a number is not in both parts
distinct_apart : {n : ℕ} {xs : List ℕ} (ys : List ℕ) → So (distinct (xs ++ ys)) → Member n xs → Member n ys → ⊥
unfolding distinct
distinct_apart ys t (here {x = x} {xs = xs} e) k =
    let apart : So (not (elem x (xs ++ ys))) = search and_left in
    not_elim apart (member_elem (member_right xs (rw e at k)))
distinct_apart ys t (there {x = x} {xs = xs} m) k = distinct_apart ys (search and_right) m k

module _ (f : Row → List ℕ) where
  pub member_collect : (n : ℕ) (p : Program) (r : ℕ) → r < length p → Member n (f (row_at p r)) → Member n (collect f p)
  unfolding collect row_at
  member_collect n [] r l m = absurd (omega arith)
  member_collect n (x ∷ p) zero l m = member_left (collect f p) m
  member_collect n (x ∷ p) (suc r) l m = member_right (f x) (member_collect n p r (omega arith) m)

  distinct_at : (p : Program) (r : ℕ) → r < length p → So (distinct (collect f p)) → So (distinct (f (row_at p r)))
  unfolding collect row_at
  distinct_at [] r l t = absurd (omega arith)
  distinct_at (x ∷ p) zero l t = distinct_left (f x) (collect f p) t
  distinct_at (x ∷ p) (suc r) l t = distinct_at p r (omega arith) (distinct_right (f x) (collect f p) t)

  -- what two rows have in common makes them one row
  distinct_rows : (n : ℕ) (p : Program) (r s : ℕ) → r < length p → s < length p → So (distinct (collect f p))
      → Member n (f (row_at p r)) → Member n (f (row_at p s)) → r ≡ s
  unfolding collect row_at
  distinct_rows n [] r s l k t a b = absurd (omega arith)
  distinct_rows n (x ∷ p) zero zero l k t a b = refl
  distinct_rows n (x ∷ p) zero (suc s) l k t a b = absurd (distinct_apart (collect f p) t a (member_collect n p s (omega arith) b))
  distinct_rows n (x ∷ p) (suc r) zero l k t a b = absurd (distinct_apart (collect f p) t b (member_collect n p r (omega arith) a))
  distinct_rows n (x ∷ p) (suc r) (suc s) l k t a b =
      ap suc (distinct_rows n p r s (omega arith) (omega arith) (distinct_right (f x) (collect f p) t) a b)

-- the name that a chan row binds is among its binders
pub chan_at_lem : (p : Program) (n c : ℕ) → chan_at p c ≡ some n → (c < length p) × Member n (binders (row_at p c))
unfolding chan_at binders
chan_at_lem p n c e = found_at e (found_bind (found_self (bind_at p c)) binds)
  where
    binds : (b : Bind) → bind_at p c ≡ some b → Found (λ n. (c < length p) × Member n (binders (row_at p c))) (chan_of b.name b.form)
    binds b at = found_map (λ m q. (bind_bound p c b at, rw (row_of p c b at) (here q.0))) (chan_form b.name b.form)

-- the three facts that the run's soundness rests on
module _ (p : Program) (well : WellFormed p) where
  pub rests_rise : (r : ℕ) → r < length p → Each (λ t. So (ltb r t && ltb t (length p))) (pointers (row_at p r))
  unfolding pointers_rise
  rests_rise r l = every_elim _ _ (all_elim (length p) _ well.rises r l)

  pub rest_rises_lem : (r : ℕ) (b : Bind) → bind_at p r ≡ some b → (r < b.rest) × (b.rest < length p)
  unfolding pointers
  rest_rises_lem r b e = go (each_right (rows_of b.form) (b.rest ∷ []) (rw (row_of p r b e) at (rests_rise r (bind_bound p r b e))))
    where
      go : Each (λ t. So (ltb r t && ltb t (length p))) (b.rest ∷ []) → (r < b.rest) × (b.rest < length p)
      go (h & k) = (ltb-true r b.rest (search and_left), ltb-true b.rest (length p) (search and_right))

  pub fork_differs : (r t rest : ℕ) → fork_at p r ≡ some (t, rest) → t ≢ rest
  unfolding fork_at pointers distinct
  fork_differs r t rest e = found_at {P = λ x. x.0 ≢ x.1} e (found_bind (found_self (bind_at p r)) forks)
    where
      differ : (b : Bind) (child : ℕ) → So (distinct (child ∷ b.rest ∷ [])) → child ≢ b.rest
      differ b child t q =
          let apart : So (not (elem child (b.rest ∷ []))) = search and_left in
          not_elim apart (member_elem (here q))

      apart : (b : Bind) → bind_at p r ≡ some b → So (distinct (rows_of b.form ++ (b.rest ∷ [])))
      apart b at = rw (row_of p r b at) at (distinct_at pointers p r (bind_bound p r b at) well.pointed_once)

      forks : (b : Bind) → bind_at p r ≡ some b → Found (λ (x : ℕ × ℕ). x.0 ≢ x.1) (spawn_of b.form >>= λ t. some (t, b.rest))
      forks b at = found_bind (spawn_form b.form) (λ child q. found (differ b child (rw q at (apart b at))))

  pub chan_unique : (n c d : ℕ) → chan_at p c ≡ some n → chan_at p d ≡ some n → c ≡ d
  chan_unique n c d e k =
      let (l, m) = chan_at_lem p n c e in
      let (l', m') = chan_at_lem p n d k in
      distinct_rows binders n p c d l l' well.bound_once m m'
