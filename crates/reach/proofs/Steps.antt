-- The row steps that the rows give are the edges.
use Prim.Native.Nat.{ℕ, ◌+◌, ◌<◌, ◌≤◌}
use native.Mathlib.Omega.{arith}
use mathlib.Core.Bool.{Bool, true, false, ◌&&◌, ◌||◌, So, or-false, false≢true}
use Rattle.std.specs.Prelude.{Option, None as none, Some as some}
use mathlib.Core.Path.{◌≡◌, refl, sym, ap, ◌∙◌, fun_ext}
use mathlib.Core.Logic.{inl, ⊎_elim}
use lib.ListN.{length}
use lib.Dec.{eqb}
use borrow.Author.Tests.{eqb-true, eq-eqb}
use Rattle.program.specs.declared.Row.{Row}
use Rattle.program.specs.declared.Bind.{Bind}
use Rattle.program.specs.declared.Form.{Form}
use Rattle.program.specs.declared.Form.TheVariants.{Chan, Send, Recv, Pair, Left, Right, Fun, Spawn, Sync, First, Second, Case, Apply}
use Rattle.program.specs.Test.{any}
use Rattle.program.specs.Maybe.{◌>>=◌, has}
use Rattle.program.specs.Program.{Program, row_at, bind_of, bind_at, form_at, case_of, apply_of, left_at, right_at, spawn_of, fun_of, fun_at, fork_at, result_row}
use Rattle.program.specs.Flow.{Table, row}
use Rattle.program.specs.Verdict.{reach}
use Rattle.program.specs.Walk.{plain, Sides, always, enters, some_called, to_rest, to_child, to_called, to_caller, edge}
use Rattle.program.proofs.Test.{and_left, and_right, and_intro, or_left, or_right, or_cases, any_intro, any_elim, same_tests}
use Rattle.program.proofs.Maybe.{has_elim, has_intro, bind_elim}
use Rattle.program.proofs.Sound.Shape.{bind_bound, row_of}
use Rattle.program.proofs.Sound.Edges.{form_at_lem, Calls, edge-rest, edge_child, edge_call, edge_return}
use Rattle.format.specs.Limits.{row_limit}
use Rattle.format.specs.Text.{Bytes}
use Rattle.store.specs.Rows.{store_program}
use Rattle.store.proofs.Laws.{program_length}
use Rattle.grids.specs.Grid.{step, Shows, Fills, Closes, Kept, Within, Marks, Onward, Follows}
use Rattle.grids.proofs.Keeping.{kept_all, kept_then}
use Rattle.row_kinds.specs.Kinds.{kind_of, kind_of_row, kind_at}
use Rattle.step_marks.specs.Marks.{call_steps, from_both}
use Rattle.reach.specs.Edges.{kind_called, body_steps, any_body, entering, kind_steps, row_steps, any_row}
use Rattle.grids.proofs.Stepping.{follows_as}
use Rattle.grids.proofs.Settled.{settled, closed_over}

-- either of two tests, of a number below n, of what is there, and beside a third
any_or : (n : ℕ) (f g : ℕ → Bool) → any n (λ i. f i || g i) ≡ (any n f || any n g)
any_or n f g = same_tests (any n λ i. f i || g i) (any n f || any n g) apart together
  where
    apart : So (any n λ i. f i || g i) → So (any n f || any n g)
    apart h = let (i, l, t) = any_elim n _ h in ⊎_elim (λ a. or_left _ (any_intro f i l a)) (λ b. or_right (any n f) (any_intro g i l b)) (or_cases (f i) (g i) t)

    together : So (any n f || any n g) → So (any n λ i. f i || g i)
    together h =
        ⊎_elim (λ a. let (i, l, t) = any_elim n f a in any_intro _ i l (or_left (g i) t)) (λ b. let (i, l, t) = any_elim n g b in any_intro _ i l (or_right (f i) t))
        (or_cases (any n f) (any n g) h)

has_or : {A : Type 0} (a : Bool) (o : Option A) (f g : A → Bool) → (a && has o (λ x. f x || g x)) ≡ ((a && has o f) || (a && has o g))
unfolding has
has_or true none f g = refl
has_or true (some x) f g = refl
has_or false o f g = refl

module _ (p : Program) (flow : Table) where
  -- ---- the steps of a kind are those of its row

  fun_called : (q rest r s rest' : ℕ) (f : Form) → kind_called p q rest (kind_of rest' f) r s ≡ has (fun_of f) (λ (h, x, t). call_steps q rest t (result_row p t) r s)
  unfolding kind_called has
  fun_called q rest r s rest' Form.Unit = refl
  fun_called q rest r s rest' Chan = refl
  fun_called q rest r s rest' (Send c m) = refl
  fun_called q rest r s rest' (Recv c) = refl
  fun_called q rest r s rest' (Pair a b) = refl
  fun_called q rest r s rest' (Left a) = refl
  fun_called q rest r s rest' (Right a) = refl
  fun_called q rest r s rest' (Fun f x t) = refl
  fun_called q rest r s rest' (Spawn t) = refl
  fun_called q rest r s rest' (Sync e) = refl
  fun_called q rest r s rest' (First a) = refl
  fun_called q rest r s rest' (Second a) = refl
  fun_called q rest r s rest' (Case k x t y w) = refl
  fun_called q rest r s rest' (Apply f a) = refl

  row_called : (q rest r s : ℕ) (x : Row)
      → kind_called p q rest (kind_of_row x) r s ≡ has (bind_of x >>= (λ b. some b.form) >>= fun_of) (λ (h, x, t). call_steps q rest t (result_row p t) r s)
  unfolding kind_called kind_of_row bind_of ◌>>=◌ has
  row_called q rest r s (Row.Result n) = refl
  row_called q rest r s (Row.Bind b) = fun_called q rest r s b.rest b.form

  body_called : (q rest r s k : ℕ) → kind_called p q rest (kind_at p k) r s ≡ has (fun_at p k) (λ (h, x, t). call_steps q rest t (result_row p t) r s)
  unfolding kind_at fun_at form_at bind_at
  body_called q rest r s k = row_called q rest r s (row_at p k)

  -- what a form calls, by the sides that count
  form_called : Sides → Form → (ℕ → Bool) → Bool
  form_called counts k f =
      has (case_of k) (λ (s, x, t, y, w). (counts s (left_at p) && f t) || (counts s (right_at p) && f w)) ||
      has (apply_of k) (λ (g, a). any (length p) λ s. flow g (row s) && has (fun_at p s) (λ (h, x, t). f t))

  -- a step to the rest, a step to a child, steps into what is called, and from its result row
  form_steps : ℕ → ℕ → Form → ℕ → ℕ → Bool
  form_steps q rest f r s =
      (plain f && step q rest r s) ||
      (has (spawn_of f) (λ t. step q t r s) ||
      (form_called (enters p flow) f (λ t. step q t r s) || form_called always f (λ t. step (result_row p t) rest r s)))

  form_steps_lem : (q rest r s : ℕ) (f : Form) → kind_steps p flow q (kind_of rest f) r s ≡ form_steps q rest f r s
  unfolding kind_steps form_steps form_called has any_body body_steps call_steps entering from_both
  form_steps_lem q rest r s Form.Unit = sym (or-false (step q rest r s))
  form_steps_lem q rest r s Chan = sym (or-false (step q rest r s))
  form_steps_lem q rest r s (Send c m) = sym (or-false (step q rest r s))
  form_steps_lem q rest r s (Recv c) = sym (or-false (step q rest r s))
  form_steps_lem q rest r s (Pair a b) = sym (or-false (step q rest r s))
  form_steps_lem q rest r s (Left a) = sym (or-false (step q rest r s))
  form_steps_lem q rest r s (Right a) = sym (or-false (step q rest r s))
  form_steps_lem q rest r s (Fun f x t) = sym (or-false (step q rest r s))
  form_steps_lem q rest r s (Spawn t) = rw (or-false (step q t r s))
  form_steps_lem q rest r s (Sync e) = sym (or-false (step q rest r s))
  form_steps_lem q rest r s (First a) = sym (or-false (step q rest r s))
  form_steps_lem q rest r s (Second a) = sym (or-false (step q rest r s))
  form_steps_lem q rest r s (Case k x t y w) = rw (or-false (entering p flow k q t w r s), or-false (from_both rest (result_row p t) (result_row p w) r s))
  form_steps_lem q rest r s (Apply f a) =
      ap (any (length p)) (fun_ext λ k. rw (body_called q rest r s k) (has_or (flow f (row k)) (fun_at p k) (λ (h, x, t). step q t r s) (λ (h, x, t). step (result_row p t) rest r s)))
      ∙ any_or (length p) (λ k. flow f (row k) && has (fun_at p k) (λ (h, x, t). step q t r s)) (λ k. flow f (row k) && has (fun_at p k) (λ (h, x, t). step (result_row p t) rest r s))

  row_steps_lem : (q r s : ℕ) (b : Bind) → bind_at p q ≡ some b → row_steps p flow q r s ≡ form_steps q b.rest b.form r s
  unfolding row_steps kind_at kind_of_row
  row_steps_lem q r s b e = rw (row_of p q b e) (form_steps_lem q b.rest r s b.form)

  -- a row that is no bind gives nothing
  bind_gives : (q r s : ℕ) (x : Row) → So (kind_steps p flow q (kind_of_row x) r s) → (b : Bind) × (bind_of x ≡ some b)
  unfolding kind_steps kind_of_row bind_of
  bind_gives q r s (Row.Result n) h = absurd (false≢true h)
  bind_gives q r s (Row.Bind b) h = (b, refl)

  row_gives : (q r s : ℕ) → So (row_steps p flow q r s) → (b : Bind) × (bind_at p q ≡ some b)
  unfolding row_steps kind_at bind_at
  row_gives q r s h = bind_gives q r s (row_at p q) h

  -- ---- calls

  called : (counts : Sides) (q : ℕ) (f : ℕ → Bool) → So (some_called p flow counts q f) → (t : ℕ) × So (f t) × Calls p flow counts q t
  unfolding some_called
  called counts q f h =
      let (k, e, i) = has_elim _ (form_at p q) h in
      ⊎_elim (branch k e) (apply k e) (or_cases _ _ i)
    where
      branch : (k : Form) → form_at p q ≡ some k → So (has (case_of k) (λ (s, x, t, y, w). (counts s (left_at p) && f t) || (counts s (right_at p) && f w)))
          → (t : ℕ) × So (f t) × Calls p flow counts q t
      branch k e i =
          let ((s, x, t, y, w), c, j) = has_elim _ (case_of k) i in
          ⊎_elim
          (λ a. (
            t,
            and_right (counts s (left_at p)) (f t) a,
            λ g b. has_intro _ e (or_left _ (has_intro _ c (or_left _ (and_intro (and_left (counts s (left_at p)) (f t) a) b)))),
          ))
          (λ a. (
            w,
            and_right (counts s (right_at p)) (f w) a,
            λ g b. has_intro _ e (or_left _ (has_intro _ c (or_right (counts s (left_at p) && g t) (and_intro (and_left (counts s (right_at p)) (f w) a) b)))),
          ))
          (or_cases (counts s (left_at p) && f t) _ j)

      apply : (k : Form) → form_at p q ≡ some k → So (has (apply_of k) (λ (g, a). any (length p) λ s. flow g (row s) && has (fun_at p s) (λ (h, x, t). f t)))
          → (t : ℕ) × So (f t) × Calls p flow counts q t
      apply k e i =
          let ((g, a), c, j) = has_elim _ (apply_of k) i in
          let (s, l, m) = any_elim (length p) _ j in
          let body : So (has (fun_at p s) (λ (h, x, t). f t)) = search and_right in
          let there : So (flow g (row s)) = search and_left in
          let ((h, x, t), d, n) = has_elim _ (fun_at p s) body in (
            t,
            n,
            λ g' b. has_intro _ e (or_right (has (case_of k) (λ (s, x, t, y, w). (counts s (left_at p) && g' t) || (counts s (right_at p) && g' w)))
                (has_intro _ c (any_intro _ s l (and_intro there (has_intro _ d b))))),
          )

  -- a row that calls is a bind
  call_bind : (counts : Sides) (q : ℕ) (f : ℕ → Bool) → So (some_called p flow counts q f) → (b : Bind) × (bind_at p q ≡ some b)
  unfolding some_called form_at
  call_bind counts q f h =
      let (k, e, i) = has_elim _ (form_at p q) h in
      let (b, d, c) = bind_elim (bind_at p q) _ e in
      (b, d)

  module _ (q : ℕ) (b : Bind) (at : bind_at p q ≡ some b) where
    calls_form : (counts : Sides) (f : ℕ → Bool) → some_called p flow counts q f ≡ form_called counts b.form f
    unfolding some_called form_called has
    calls_form counts f = rw (form_at_lem p q b b.form at refl, has)

    call_gives : (r s : ℕ) → So (form_called (enters p flow) b.form (λ t. step q t r s) || form_called always b.form (λ t. step (result_row p t) b.rest r s))
        → So (row_steps p flow q r s)
    unfolding form_steps
    call_gives r s h =
        rw (row_steps_lem q r s b at)
        (or_right (plain b.form && step q b.rest r s) (or_right (has (spawn_of b.form) (λ t. step q t r s)) h))

    -- the step into a row that is called, and the step from its result row
    enter_gives : (t r s : ℕ) → Calls p flow (enters p flow) q t → So (step q t r s) → So (row_steps p flow q r s)
    enter_gives t r s calls h = call_gives r s (or_left _ (rw calls_form at (calls (λ t. step q t r s) h)))

    return_gives : (t r s : ℕ) → Calls p flow always q t → So (step (result_row p t) b.rest r s) → So (row_steps p flow q r s)
    return_gives t r s calls h =
        call_gives r s (or_right (form_called (enters p flow) b.form (λ t. step q t r s)) (rw calls_form at (calls (λ t. step (result_row p t) b.rest r s) h)))

  fork : (q t : ℕ) (b : Bind) → bind_at p q ≡ some b → spawn_of b.form ≡ some t → fork_at p q ≡ some (t, b.rest)
  unfolding fork_at ◌>>=◌
  fork q t b at c = rw (at, c)

  -- ---- the same step

  step_elim : (a b r s : ℕ) → So (step a b r s) → (r ≡ a) × (s ≡ b)
  unfolding step
  step_elim a b r s h = (eqb-true r a (and_left _ (eqb s b) h), eqb-true s b (and_right (eqb r a) _ h))

  step_intro : {a b r s : ℕ} → r ≡ a → s ≡ b → So (step a b r s)
  unfolding step
  step_intro {a} {b} {r} {s} e d = and_intro (eq-eqb r a e) (eq-eqb s b d)

  -- ---- what a row gives is an edge

  given : (q r s : ℕ) → So (row_steps p flow q r s) → So (edge p flow r s)
  unfolding form_steps
  given q r s h =
      let (b, at) = row_gives q r s h in
      ⊎_elim (rest b at) (λ i. ⊎_elim (child b at) (λ j. ⊎_elim (entry b at) (return b at) (or_cases _ _ j)) (or_cases _ _ i)) (or_cases _ _ (rw (row_steps_lem q r s b at) at h))
    where
      here : (a b : ℕ) → So (edge p flow a b) → So (step a b r s) → So (edge p flow r s)
      here a b e i = let (m, n) = step_elim a b r s i in rw (m, n) e

      rest : (b : Bind) → bind_at p q ≡ some b → So (plain b.form && step q b.rest r s) → So (edge p flow r s)
      rest b at i = here q b.rest (edge-rest p flow q b at (and_left _ (step q b.rest r s) i)) (and_right (plain b.form) _ i)

      child : (b : Bind) → bind_at p q ≡ some b → So (has (spawn_of b.form) (λ t. step q t r s)) → So (edge p flow r s)
      child b at i = let (t, c, j) = has_elim _ (spawn_of b.form) i in here q t (edge_child p flow q t b.rest (fork q t b at c)) j

      entry : (b : Bind) → bind_at p q ≡ some b → So (form_called (enters p flow) b.form (λ t. step q t r s)) → So (edge p flow r s)
      entry b at i =
          let (t, j, calls) = called (enters p flow) q _ (rw (← (calls_form q b at (enters p flow) (λ t. step q t r s))) at i) in
          here q t (edge_call p flow q t calls) j

      return : (b : Bind) → bind_at p q ≡ some b → So (form_called always b.form (λ t. step (result_row p t) b.rest r s)) → So (edge p flow r s)
      return b at i =
          let (t, j, calls) = called always q _ (rw (← (calls_form q b at always (λ t. step (result_row p t) b.rest r s))) at i) in
          here (result_row p t) b.rest (edge_return p flow q t b at calls) j

  -- ---- and an edge is given by a row

  taken : (r s : ℕ) → So (edge p flow r s) → So (any_row p flow (length p) r s)
  unfolding edge to_rest to_child to_called to_caller any_row form_steps fork_at
  taken r s h =
      ⊎_elim (λ i. ⊎_elim (λ j. ⊎_elim rest child (or_cases _ _ j)) call (or_cases _ _ i)) back (or_cases _ _ h)
    where
      by : (q : ℕ) (b : Bind) → bind_at p q ≡ some b → So (row_steps p flow q r s) → So (any (length p) λ q. row_steps p flow q r s)
      by q b at i = any_intro (λ q. row_steps p flow q r s) q (bind_bound p q b at) i

      rest : So (has (bind_at p r) (λ b. plain b.form && eqb s b.rest)) → So (any (length p) λ q. row_steps p flow q r s)
      rest i =
          let (b, at, j) = has_elim _ (bind_at p r) i in
          let e : s ≡ b.rest = eqb-true s b.rest (and_right (plain b.form) _ j) in
          let flat : So (plain b.form) = and_left _ (eqb s b.rest) j in
          let there : So (plain b.form && step r b.rest r s) = and_intro flat (step_intro refl e) in
          by r b at (rw (row_steps_lem r r s b at) (or_left _ there))

      child : So (has (fork_at p r) (λ (t, rest). eqb s t)) → So (any (length p) λ q. row_steps p flow q r s)
      child i =
          let ((t, rest), e, j) = has_elim _ (fork_at p r) i in
          let (b, at, c) = bind_elim (bind_at p r) _ e in
          let (u, k, d) = bind_elim (spawn_of b.form) _ c in
          let same : t ≡ u = cc in
          let there : So (has (spawn_of b.form) (λ t. step r t r s)) = has_intro _ k (step_intro refl (eqb-true s t j ∙ same)) in
          by r b at (rw (row_steps_lem r r s b at) (or_right (plain b.form && step r b.rest r s) (or_left _ there)))

      call : So (some_called p flow (enters p flow) r (eqb s)) → So (any (length p) λ q. row_steps p flow q r s)
      call i =
          let (b, at) = call_bind (enters p flow) r (eqb s) i in
          let (t, j, calls) = called (enters p flow) r (eqb s) i in
          by r b at (enter_gives r b at t r s calls (step_intro refl (eqb-true s t j)))

      back : So (any (length p) λ q. has (bind_at p q) (λ b. eqb s b.rest) && some_called p flow always q (λ t. eqb r (result_row p t)))
          → So (any (length p) λ q. row_steps p flow q r s)
      back i =
          let (q, l, j) = any_elim (length p) _ i in
          let there : So (has (bind_at p q) (λ b. eqb s b.rest)) = search and_left in
          let calling : So (some_called p flow always q (λ t. eqb r (result_row p t))) = search and_right in
          let (b, at, k) = has_elim _ (bind_at p q) there in
          let (t, m, calls) = called always q _ calling in
          let e : s ≡ b.rest = eqb-true s b.rest k in
          let d : r ≡ result_row p t = eqb-true r (result_row p t) m in
          by q b at (return_gives q b at t r s calls (step_intro d e))

  pub edge_rows : (r s : ℕ) → any_row p flow (length p) r s ≡ edge p flow r s
  unfolding any_row
  edge_rows r s = same_tests (any_row p flow (length p) r s) (edge p flow r s) some (taken r s)
    where
      some : So (any_row p flow (length p) r s) → So (edge p flow r s)
      some h = let (q, l, i) = any_elim (length p) (λ q. row_steps p flow q r s) h in given q r s i

-- in a store, what all n rows give
pub follows_edges : (n : ℕ) (s : Bytes) (flow : Table) (q : ℕ) {m : Bool} {a b : Bytes} → q ≡ n → Follows n (any_row (store_program n s) flow q) a b m
    → Follows n (edge (store_program n s) flow) a b m
follows_edges n s flow q e h =
    let l : q ≡ length (store_program n s) = e ∙ sym (program_length n s) in
    follows_as (λ r t. rw l (edge_rows (store_program n s) flow r t)) h

-- ---- the grid while the steps are taken again and again

-- it has nothing but what is reached, and every step once they are taken; nothing else was altered
pub record Taken (n k : ℕ) (f : ℕ → ℕ → Bool) (bytes grid : Bytes) : Type 0 where
  pub kept : Kept bytes grid
  pub within : Within n f grid
  pub marks : 0 < k → Marks n f grid

module _ {n : ℕ} {f : ℕ → ℕ → Bool} where
  pub taken_none : {grid : Bytes} → Shows (λ r s. false) grid → Taken n 0 f grid grid
  taken_none {grid} h = record { kept = kept_all grid; within = λ r s lr ls. inl (h r s lr ls); marks = λ l. absurd (omega arith) }

  pub taken_more : {k : ℕ} {bytes grid left : Bytes} {m : Bool} → Taken n k f bytes grid → Follows n f grid left m → Taken n (k + 1) f bytes left
  taken_more h t = record { kept = kept_then h.kept t.kept; within = t.within f (λ a b e. e) h.within; marks = λ l. t.marks }

module _ (n : ℕ) (s : Bytes) (flow : Table) (few : n ≤ row_limit) {k : ℕ} {bytes grid : Bytes} (once : 0 < k) (h : Taken n k (edge (store_program n s) flow) bytes grid) where
  -- nothing changed
  pub fills_settled : Onward n (edge (store_program n s) flow) grid → Fills (reach (store_program n s) flow) bytes grid
  unfolding reach
  fills_settled onward = record { kept = h.kept; shows = rw program_length (settled n (edge (store_program n s) flow) grid few h.within (h.marks once) onward) }

  -- closed by rounds
  pub fills_closed : {left : Bytes} → Closes n grid left → Fills (reach (store_program n s) flow) bytes left
  unfolding reach
  fills_closed c = record { kept = kept_then h.kept c.kept; shows = rw program_length (closed_over n (edge (store_program n s) flow) grid few h.within (h.marks once) c) }
