-- Every pool that a run comes to has a walk for each path, any two of them related as their paths are, and any invariant of theirs.
use mathlib.Core.Bool.{So}
use mathlib.Core.List.{List, [], ◌∷◌, ◌++◌, map, map-append}
use Rattle.std.specs.Prelude.{Option, None as none, Some as some}
use mathlib.Core.Path.{◌≡◌, refl, sym, ◌∙◌, ap}
use Rattle.program.specs.declared.Bind.{Bind}
use Rattle.program.specs.Each.{Member, Each, nil, ◌&◌}
use Rattle.program.specs.Maybe.{given, provided}
use Rattle.program.specs.Program.{Program, bind_at}
use Rattle.program.specs.Run.{Path, same_label, Instance, same_instance, State, Move, Thread, Pool, next, Value, unit, empty, proceed, moves, offer, receives_on}
use Rattle.program.specs.Run.{state_of, leaf, leaf_state, lengthen, Step, own, meet, added, step, after, start_pool, run}
use Rattle.program.specs.Snoc.{ε, Snoc-discrete, Continues, continues?}
use Rattle.program.specs.Walk.{Walk, last_row}
use Rattle.program.proofs.Each.{EachTwo, every_elim, each_at, each_member, each_imp, each_both, each_append, each_map, each_unmap, each_all, every_two_append}
use Rattle.program.proofs.Maybe.{Found, nothing, found, found_self, found_bind}
use Rattle.program.proofs.Snoc.{size}
use Rattle.program.proofs.Sound.Moves.{Forked}
use Rattle.program.proofs.Sound.Traces.{Traced, thread, child, Level, child_level, Related, related_refl, related_sym, child_related, children_related, meeting_related}
use Rattle.program.proofs.Test.{test_intro, not_elim}

-- the state of a path is that of a traced thread
traced_state : {Q : Traced → Type 0} {ts : List Traced} (path : Path) → Each Q ts → Found (λ st. (w : Walk) × Q (record { path = path; walk = w; state = st })) (state_of (map thread ts) path)
unfolding state_of thread
traced_state path nil = nothing
traced_state {Q} path (◌&◌ {x = t} {xs = ts} q h) = go (Snoc-discrete same_label t.path path) (traced_state path h)
  where
    go : (d : Dec (t.path ≡ path)) → Found (λ st. (w : Walk) × Q (record { path = path; walk = w; state = st })) (state_of (map thread ts) path)
        → Found (λ st. (w : Walk) × Q (record { path = path; walk = w; state = st })) (elim d [ yes e ↦ some t.state | no n ↦ state_of (map thread ts) path ])
    go (yes e) k = found {a = t.state} (t.walk, rw (← e) q)
    go (no n) k = k

leaf_alone : (ts : List Traced) (path : Path) → So (leaf (map thread ts) path) → Each (λ t. Continues path t.path → ⊥) ts
unfolding leaf thread
leaf_alone ts path h = each_imp (λ t n c. not_elim n (test_intro (continues? same_label path t.path) c)) (each_unmap thread ts (every_elim _ (map thread ts) h))

children_threads : (t : Traced) (ms : List Move) → map thread (map (child t) ms) ≡ map (lengthen t.path) ms
unfolding thread child lengthen
children_threads t [] = refl
children_threads t (m ∷ ms) = ap (λ ts. lengthen t.path m ∷ ts) (children_threads t ms)

-- the thread that a run starts with
unfoldable pub first : Traced
first = record { path = ε; walk = ε; state = record { row = 0; env = empty; returns = [] } }

module _ (p : Program) where
  -- what holds of the first thread and is kept by every step
  pub record Invariant (Inv : Traced → Type 0) : Type 0 where
    pub start : Inv first
    pub own : (t : Traced) → Level t → Inv t → Found (λ ms. Each (λ m. Inv (child t m)) ms × EachTwo (Forked p t.state) ms) (moves p t.path t.state)
    pub meet : (x y : Traced) → Level x → Level y → Inv x → Inv y → (b d : Bind) → bind_at p x.state.row ≡ some b → bind_at p y.state.row ≡ some d
        → (i : Instance) (v : Value) → offer p x.state ≡ some (i, v) → receives_on p y.state ≡ some i
        → Inv (child x (proceed x.state b unit)) × Inv (child y (proceed y.state d v))

  module _ (Inv : Traced → Type 0) where
    -- traced threads, any two related
    pub record Traces (ts : List Traced) : Type 0 where
      pub levels : Each Level ts
      pub kept : Each Inv ts
      pub related : EachTwo (Related p) ts

    -- a pool that has traces
    pub record Traceable (pool : Pool) : Type 0 where
      pub traced : List Traced
      pub same : map thread traced ≡ pool
      pub traces : Traces traced

    -- threads to add to traced ones
    record Added (ts : List Traced) (new : List Thread) : Type 0 where
      traced : List Traced
      same : map thread traced ≡ new
      traces : Traces traced
      others : Each (λ s. Each (Related p s) ts) traced

    -- a leaf among them
    record Leaf (ts : List Traced) (path : Path) (st : State) : Type 0 where
      walk : Walk
      member : Member (record { path = path; walk = walk; state = st }) ts
      alone : Each (λ s. Continues path s.path → ⊥) ts

    leaf_state_lem : (ts : List Traced) (path : Path) → Found (Leaf ts path) (leaf_state (map thread ts) path)
    unfolding leaf_state
    leaf_state_lem ts path =
        found_bind (traced_state path (each_member ts)) λ st (w, m).
        found_bind (found_self (given (leaf (map thread ts) path))) λ l _.
        found (record { walk = w; member = m; alone = leaf_alone ts path l })

-- at one row two binds are the same
same_proceed : (p : Program) (s r : State) (b d : Bind) → bind_at p s.row ≡ some b → bind_at p r.row ≡ some d → (v w : Value) → s.row ≡ r.row
    → ((proceed s b v).label ≡ (proceed r d w).label) × ((proceed s b v).state.row ≡ (proceed r d w).state.row)
unfolding proceed
same_proceed p s r b d e f v w q = let x : b ≡ d = cc in (ap (λ b. next b.name) x, ap (λ b. b.rest) x)

module _ (p : Program) (Inv : Traced → Type 0) (inv : Invariant p Inv) where
  module _ (ts : List Traced) (h : Traces p Inv ts) where
    -- a child of a leaf and the others
    child_others : (path : Path) (st : State) (l : Leaf p Inv ts path st) (m : Move) → Each (Related p (child (record { path = path; walk = l.walk; state = st }) m)) ts
    child_others path st l m =
        let t : Traced = record { path = path; walk = l.walk; state = st } in
        each_imp (λ s (g, (n, r)). child_related p t s m (each_at h.levels l.member) g n r)
        (each_both h.levels (each_both l.alone (each_at h.related l.member)))

    -- a thread's own step
    own_added : (path : Path) → Found (Added p Inv ts) (added p (map thread ts) (own path))
    unfolding added
    own_added path =
        found_bind (leaf_state_lem p Inv ts path) λ st l.
        let t : Traced = record { path = path; walk = l.walk; state = st } in
        let g : Level t = each_at h.levels l.member in
        found_bind (inv.own t g (each_at h.kept l.member)) λ ms (kept, forked).
        found (record {
          traced = map (child t) ms;
          same = children_threads t ms;
          traces = record {
            levels = each_map (child t) (each_all ms (λ m. child_level t m g));
            kept = each_map (child t) kept;
            related = each_map (child t) (each_imp (λ m k. each_map (child t) (each_imp (λ n f. children_related p t m n g f) k)) forked);
          };
          others = each_map (child t) (each_all ms (child_others path st l));
        })

    -- two leaves, each with a move
    module _ (path : Path) (s : State) (l : Leaf p Inv ts path s) (path' : Path) (s' : State) (l' : Leaf p Inv ts path' s') where
      two_added : (m k : Move) → Inv (child (record { path = path; walk = l.walk; state = s }) m) → Inv (child (record { path = path'; walk = l'.walk; state = s' }) k)
          → (s.row ≡ s'.row → (m.label ≡ k.label) × (m.state.row ≡ k.state.row)) → Added p Inv ts (lengthen path m ∷ lengthen path' k ∷ [])
      unfolding thread child lengthen
      two_added m k i i' same =
          let x : Traced = record { path = path; walk = l.walk; state = s } in
          let y : Traced = record { path = path'; walk = l'.walk; state = s' } in
          let g : Level x = each_at h.levels l.member in
          let g' : Level y = each_at h.levels l'.member in
          let a : Traced = child x m in
          let b : Traced = child y k in
          let met : Related p a b = meeting_related p x y m k same g g' (each_at l.alone l'.member) (each_at l'.alone l.member) (each_at (each_at h.related l.member) l'.member) in
          record {
            traced = a ∷ b ∷ [];
            same = refl;
            traces = record {
              levels = child_level x m g & child_level y k g' & nil;
              kept = i & i' & nil;
              related = (related_refl p a & met & nil) & (related_sym p a b met & related_refl p b & nil) & nil;
            };
            others = child_others path s l m & child_others path' s' l' k & nil;
          }

    -- a send and a receive that meet
    meet-added : (sender receiver : Path) → Found (Added p Inv ts) (added p (map thread ts) (meet sender receiver))
    unfolding added
    meet-added sender receiver =
        found_bind (leaf_state_lem p Inv ts sender) λ s l.
        found_bind (leaf_state_lem p Inv ts receiver) λ r k.
        found_bind (found_self (bind_at p s.row)) λ b at.
        found_bind (found_self (bind_at p r.row)) λ d at'.
        found_bind (found_self (offer p s)) λ (i, v) o.
        found_bind (found_self (receives_on p r)) λ j a.
        found_bind (found_self (provided (same_instance i j))) λ same _.
        let (x, y) = inv.meet (record { path = sender; walk = l.walk; state = s }) (record { path = receiver; walk = k.walk; state = r })
        (each_at h.levels l.member) (each_at h.levels k.member) (each_at h.kept l.member) (each_at h.kept k.member) b d at at' i v o (a ∙ ap some (sym same)) in
        found (two_added sender s l receiver r k (proceed s b unit) (proceed r d v) x y (same_proceed p s r b d at at' unit v))

    step_added : (s : Step) → Found (Added p Inv ts) (added p (map thread ts) s)
    step_added (own path) = own_added path
    step_added (meet sender receiver) = meet-added sender receiver

  add : (ts : List Traced) → Traces p Inv ts → (new : List Thread) → Added p Inv ts new → Traceable p Inv (new ++ map thread ts)
  add ts h new a = record {
    traced = a.traced ++ ts;
    same = map-append thread a.traced ts ∙ ap (λ new. new ++ map thread ts) a.same;
    traces = record {
      levels = each_append a.traces.levels h.levels;
      kept = each_append a.traces.kept h.kept;
      related = every_two_append (related_sym p) a.traces.related a.others h.related;
    };
  }

  step_traceable : (ts : List Traced) → Traces p Inv ts → (s : Step) → Traceable p Inv (step p (map thread ts) s)
  unfolding step
  step_traceable ts h s = grow (step_added ts h s)
    where
      grow : {o : Option (List Thread)} → Found (Added p Inv ts) o → Traceable p Inv (elim o [ none ↦ map thread ts | some new ↦ new ++ map thread ts ])
      grow nothing = record { traced = ts; same = refl; traces = h }
      grow (found {a = new} a) = add ts h new a

  after_traceable : (ss : List Step) (pool : Pool) → Traceable p Inv pool → Traceable p Inv (after p pool ss)
  unfolding after
  after_traceable [] pool h = h
  after_traceable (s ∷ ss) pool h = after_traceable ss (step p pool s) (rw h.same at (step_traceable h.traced h.traces s))

  start_traceable : Traceable p Inv (start_pool p)
  unfolding start_pool thread first last_row size
  start_traceable = record {
    traced = first ∷ [];
    same = refl;
    traces = record { levels = record { ends = refl; size = refl } & nil; kept = inv.start & nil; related = (related_refl p first & nil) & nil };
  }

  pub run_traceable : (ss : List Step) → Traceable p Inv (run p ss)
  unfolding run
  run_traceable ss = after_traceable ss (start_pool p) start_traceable
