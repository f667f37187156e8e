-- A row step leads to a row of the program.
use Prim.Native.Nat.{ℕ, ◌<◌}
use mathlib.Core.Bool.{Bool, ◌&&◌, ◌||◌, So}
use mathlib.Core.List.{[], ◌∷◌}
use Rattle.std.specs.Prelude.{Some as some}
use mathlib.Core.Path.{◌≡◌}
use mathlib.Core.Logic.{⊎_elim}
use lib.ListN.{length}
use lib.Dec.{eqb}
use borrow.Author.Tests.{eqb-true, ltb-true}
use Rattle.program.specs.declared.Bind.{Bind}
use Rattle.program.specs.declared.Form.{Form}
use Rattle.program.specs.Flow.{row, Table}
use Rattle.program.specs.Maybe.{has}
use Rattle.program.specs.Program.{Program, bind_at, form_at, fun_at, fork_at, case_of, apply_of, left_at, right_at, rows_of, pointers}
use Rattle.program.specs.Test.{any}
use Rattle.program.specs.Walk.{Sides, enters, some_called, to_rest, to_child, to_called, to_caller, edge}
use Rattle.program.specs.Each.{Each, nil, ◌&◌}
use Rattle.program.proofs.Each.{each_imp, each_left}
use Rattle.program.proofs.Maybe.{Found, found, found_self, found_bind, found_at, found_map, has_elim}
use Rattle.program.proofs.Sound.Forms.{spawn_form, fun_form, case_form}
use Rattle.program.proofs.Sound.Shape.{bind_bound, row_of, rest_rises_lem, rests_rise}
use Rattle.program.proofs.Test.{and_left, and_right, or_cases, any_elim}
use Rattle.program.proofs.WellFormed.{WellFormed}

module _ (p : Program) (well : WellFormed p) where
  -- the rows that a form points at
  rows_bound : (r : ℕ) (b : Bind) → bind_at p r ≡ some b → Each (λ t. t < length p) (rows_of b.form)
  unfolding pointers
  rows_bound r b e =
      each_imp (λ t q. ltb-true t (length p) (search and_right)) (each_left (rows_of b.form) (b.rest ∷ []) (rw (row_of p r b e) at (rests_rise p well r (bind_bound p r b e))))

  form_rows : (r : ℕ) → Found (λ f. Each (λ t. t < length p) (rows_of f)) (form_at p r)
  unfolding form_at
  form_rows r = found_bind (found_self (bind_at p r)) λ b e. found (rows_bound r b e)

  fork_bound : (r : ℕ) → Found (λ x. x.0 < length p) (fork_at p r)
  unfolding fork_at
  fork_bound r = found_bind (found_self (bind_at p r)) λ b e. found_bind (spawn_form b.form) λ t q. found (only t (rw q at (rows_bound r b e)))
    where
      only : (t : ℕ) → Each (λ t. t < length p) (t ∷ []) → t < length p
      only t (h & nil) = h

  fun_bound : (r : ℕ) → Found (λ x. x.2 < length p) (fun_at p r)
  unfolding fun_at
  fun_bound r = found_bind (form_rows r) λ f h. found_map (λ (g, x, t) q. only t (rw q at h)) (fun_form f)
    where
      only : (t : ℕ) → Each (λ t. t < length p) (t ∷ []) → t < length p
      only t (h & nil) = h

  branches_bound : (r : ℕ) (f : Form) → form_at p r ≡ some f → Found (λ x. (x.2 < length p) × (x.4 < length p)) (case_of f)
  branches_bound r f e = found_map (λ (s, x, t, y, w) q. two t w (rw q at (found_at e (form_rows r)))) (case_form f)
    where
      two : (t w : ℕ) → Each (λ t. t < length p) (t ∷ w ∷ []) → (t < length p) × (w < length p)
      two t w (h & (k & nil)) = (h, k)

  module _ (flow : Table) where
    called_bound : (counts : Sides) (q : ℕ) (f : ℕ → Bool) → So (some_called p flow counts q f) → (t : ℕ) × (t < length p) × So (f t)
    unfolding some_called
    called_bound counts q f h =
        let (k, e, i) = has_elim _ (form_at p q) h in
        ⊎_elim (branch k e) (apply k) (or_cases _ _ i)
      where
        branch : (k : Form) → form_at p q ≡ some k → So (has (case_of k) (λ (s, x, t, y, w). (counts s (left_at p) && f t) || (counts s (right_at p) && f w)))
            → (t : ℕ) × (t < length p) × So (f t)
        branch k e i =
            let ((s, x, t, y, w), c, j) = has_elim _ (case_of k) i in
            let (l, m) = found_at c (branches_bound q k e) in
            ⊎_elim (λ a. (t, l, and_right (counts s (left_at p)) (f t) a)) (λ a. (w, m, and_right (counts s (right_at p)) (f w) a))
            (or_cases (counts s (left_at p) && f t) _ j)

        apply : (k : Form) → So (has (apply_of k) (λ (g, a). any (length p) λ s. flow g (row s) && has (fun_at p s) (λ (h, x, t). f t))) → (t : ℕ) × (t < length p) × So (f t)
        apply k i =
            let (a, c, j) = has_elim _ (apply_of k) i in
            let (s, l, m) = any_elim (length p) _ j in
            let body : So (has (fun_at p s) (λ (h, x, t). f t)) = search and_right in
            let ((h, x, t), e, n) = has_elim _ (fun_at p s) body in
            (t, found_at e (fun_bound s), n)

    pub edge_cases : {X : Type 0} (r s : ℕ) → (So (to_rest p flow r s) → X) → (So (to_child p flow r s) → X) → (So (to_called p flow r s) → X) → (So (to_caller p flow r s) → X)
        → So (edge p flow r s) → X
    unfolding edge
    edge_cases r s rest child called caller h =
        ⊎_elim (λ a. ⊎_elim (λ b. ⊎_elim rest child (or_cases (to_rest p flow r s) _ b)) called (or_cases (to_rest p flow r s || to_child p flow r s) _ a)) caller
        (or_cases (to_rest p flow r s || to_child p flow r s || to_called p flow r s) _ h)

    pub edge_bound : (r s : ℕ) → So (edge p flow r s) → s < length p
    unfolding to_rest to_child to_called to_caller
    edge_bound r s h = edge_cases r s rest child called caller h
      where
        rest_bound : (q : ℕ) (b : Bind) → bind_at p q ≡ some b → So (eqb s b.rest) → s < length p
        rest_bound q b e i = rw (eqb-true s b.rest i) (rest_rises_lem p well q b e).1

        rest : So (to_rest p flow r s) → s < length p
        rest i = let (b, e, j) = has_elim _ (bind_at p r) i in rest_bound r b e (search and_right)

        child : So (to_child p flow r s) → s < length p
        child i = let ((t, rest), e, j) = has_elim _ (fork_at p r) i in rw (eqb-true s t j) (found_at e (fork_bound r))

        called : So (to_called p flow r s) → s < length p
        called i = let (t, l, j) = called_bound (enters p flow) r (eqb s) i in rw (eqb-true s t j) l

        caller : So (to_caller p flow r s) → s < length p
        caller i =
            let (q, l, j) = any_elim (length p) _ i in
            let there : So (has (bind_at p q) (λ b. eqb s b.rest)) = search and_left in
            let (b, e, k) = has_elim _ (bind_at p q) there in
            rest_bound q b e k
