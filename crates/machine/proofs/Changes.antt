-- A thread's change stands for the moves that the run rules give it, and there is a change exactly where there are moves.
use Prim.Native.Nat.{ℕ, suc, ◌≤◌}
use native.Mathlib.Omega.{arith}
use mathlib.Core.Bool.{Bool, true, false, So}
use mathlib.Core.List.{List, [], ◌∷◌, ◌++◌}
use Rattle.std.specs.Prelude.{Option, None as none, Some as some}
use mathlib.Core.Path.{◌≡◌, refl, sym, ◌∙◌, ap, ap₂}
use mathlib.Core.Logic.{◌⊎◌, inl, inr, ⊎_elim, ◌≢◌}
use lib.ListN.{length}
use lib.Dec.{eqb}
use borrow.Author.Tests.{eqb-true}
use Rattle.program.specs.Test.{pick}
use Rattle.program.specs.declared.Row.{Row}
use Rattle.program.specs.declared.Bind.{Bind}
use Rattle.program.specs.declared.Form.{Form}
use Rattle.program.specs.declared.Form.TheVariants.{Chan, Send, Recv, Pair, Left, Right, Fun, Spawn, Sync, First, Second, Case, Apply}
use Rattle.program.specs.Maybe.{◌>>=◌}
use Rattle.program.specs.Program.{Program, row_at, pair_at, left_at, right_at, fun_at}
use Rattle.program.specs.Run.{next, spawn, return, Path, Instance, made, Value, unit, channel, closure, Env, extend, lookup, closure_at, Return, State, Move, proceed, enter, start, form_moves, result_moves, moves}
use Rattle.machine.specs.declared.ThreadRecord.{ThreadRecord}
use Rattle.machine.specs.declared.Cell.{Cell}
use Rattle.machine.specs.declared.Frame.{Frame}
use Rattle.machine.specs.declared.Held.{Held}
use Rattle.machine.specs.declared.Held.TheVariants.{Closure}
use Rattle.machine.specs.declared.Kept.{Kept}
use Rattle.machine.specs.declared.Kept.TheVariants.{Makes, Keeps}
use Rattle.machine.specs.Machine.{Memory, find, find_closure, Change, grown, bound, newest, go_on, fork, go_into, form_change, result_change, change}
use Rattle.machine.specs.Meaning.{Marked, cells, count, made_by, own_at, kept_by, value_by, env_at, value_of, returns_at, state_in, Marks, memory_of}
use Rattle.machine.proofs.Like.{Like, neither, both, like_bind, like_same, like_either}
use Rattle.machine.proofs.Meaning.{KeptIn, CellsIn, FramesIn, ThreadIn, env_older, env_newest, value_older, held_older, returns_older, frames_older, frame_older, frame_newest, Means, find_like, closure_like, Last, no_return, last, last_of}

-- the path on which an instance was made
unfoldable pub maker : Instance → Path
maker (made path n) = path

pub record Meant (g : Marks) : Type 0 where
  pub cells : CellsIn g.cells
  pub frames : FramesIn g.cells g.frames

-- memory that was extended by a thread on a path: what was there means the same, and an instance that is new is of that path and has the next number
pub record Extends (path : Path) (g g' : Marks) : Type 0 where
  pub cells : count g.cells ≤ count g'.cells
  pub frames : length g.frames ≤ length g'.frames
  pub env : (k : ℕ) → k ≤ count g.cells → env_at g'.cells k ≡ env_at g.cells k
  pub returns : (k : ℕ) → k ≤ length g.frames → returns_at g'.cells g'.frames k ≡ returns_at g.cells g.frames k
  pub own : (k : ℕ) (i : Instance) → own_at g'.cells k ≡ some i → (own_at g.cells k ≡ some i) ⊎ ((k ≡ suc (count g.cells)) × (maker i ≡ path))

abbrev memory_with : List Cell → List Frame → Memory
memory_with cs fs = record { cells = cs; frames = fs }

abbrev mark : ℕ → ℕ → Kept → Instance → Marked
mark n o k i = record { cell = record { name = n; older = o; kept = k }; instance = i }

-- one cell more
abbrev with_cell : Marks → Marked → Marks
with_cell g c = record { cells = c ∷ g.cells; frames = g.frames }

abbrev with_frame : Marks → Frame → Marks
with_frame g f = record { cells = g.cells; frames = f ∷ g.frames }

module _ (path : Path) where
  pub extends_refl : (g : Marks) → Extends path g g
  extends_refl g = record { cells = omega arith; frames = omega arith; env = λ k l. refl; returns = λ k l. refl; own = λ k i e. inl e }

-- a cell that keeps a value makes no channel; one that makes a channel makes one
own_keeps : (cs : List Marked) (n o : ℕ) (h : Held) (j : Instance) (k : ℕ) (i : Instance) → own_at (mark n o (Keeps h) j ∷ cs) k ≡ some i → own_at cs k ≡ some i
unfolding own_at made_by
own_keeps cs n o h j k i e = go (eqb k (suc (count cs))) e
  where
    go : (t : Bool) → pick t none (own_at cs k) ≡ some i → own_at cs k ≡ some i
    go true e = let z : ◌≡◌ {A = ℕ} 0 1 = cc in absurd (omega arith)
    go false e = e

own_makes : (cs : List Marked) (n o : ℕ) (j : Instance) (k : ℕ) (i : Instance) → own_at (mark n o Makes j ∷ cs) k ≡ some i → (own_at cs k ≡ some i) ⊎ ((k ≡ suc (count cs)) × (i ≡ j))
unfolding own_at made_by
own_makes cs n o j k i e = go (eqb k (suc (count cs))) (eqb-true k (suc (count cs))) e
  where
    go : (t : Bool) → (So t → k ≡ suc (count cs)) → pick t (some j) (own_at cs k) ≡ some i → (own_at cs k ≡ some i) ⊎ ((k ≡ suc (count cs)) × (i ≡ j))
    go true q e = inr (q refl, cc)
    go false q e = inl e

module _ (path : Path) (g g' : Marks) (e : Extends path g g') where
  extends_cell : (n o : ℕ) (h : Held) (i : Instance) → Meant g' → Extends path g (with_cell g' (mark n o (Keeps h) i))
  extends_cell n o h i w = record {
    cells = omega (arith, e.cells);
    frames = e.frames;
    env = λ k l. env_older _ g'.cells k (omega (arith, e.cells)) ∙ e.env k l;
    returns = λ k l. returns_older _ g'.cells g'.frames k w.frames ∙ e.returns k l;
    own = λ k j q. e.own k j (own_keeps g'.cells n o h i k j q);
  }

  extends_frame : (f : Frame) → Extends path g (with_frame g' f)
  extends_frame f = record {
    cells = e.cells;
    frames = omega (arith, e.frames);
    env = e.env;
    returns = λ k l. frame_older g'.cells f g'.frames k (omega (arith, e.frames)) ∙ e.returns k l;
    own = e.own;
  }

module _ (path : Path) (g : Marks) (w : Meant g) where
  extends_own : (n o m : ℕ) → Extends path g (with_cell g (mark n o Makes (made path m)))
  unfolding maker
  extends_own n o m = record {
    cells = omega arith;
    frames = omega arith;
    env = λ k l. env_older _ g.cells k l;
    returns = λ k l. returns_older _ g.cells g.frames k w.frames;
    own = λ k i q. ⊎_elim inl (λ (a, b). inr (a, ap maker b)) (own_makes g.cells n o (made path m) k i q);
  }

  meant_cell : (c : Marked) → c.cell.older ≤ count g.cells → KeptIn g.cells c.cell.kept → Meant (with_cell g c)
  meant_cell c o k = record { cells = (o, k, w.cells); frames = frames_older c g.cells g.frames w.frames }

  meant_frame : (f : Frame) → f.cell ≤ count g.cells → f.older ≤ length g.frames → Meant (with_frame g f)
  meant_frame f c o = record { cells = w.cells; frames = (c, o, w.frames) }

-- ---- changes and moves

-- one move, of the thread; or two, of the thread and of the one that it starts
pub data Outcome (g : Marks) (t : ThreadRecord) : List ThreadRecord → List Move → Type 0 where
  one : {m : Move} → m.state ≡ state_in g.cells g.frames t → Outcome g t [] (m ∷ [])
  two : {m k : Move} {b : ThreadRecord} → m.label ≢ k.label → m.state ≡ state_in g.cells g.frames t
      → ThreadIn g.cells g.frames b → k.state ≡ state_in g.cells g.frames b → Outcome g t (b ∷ []) (m ∷ k ∷ [])

pub record Follows (path : Path) (g : Marks) (c : Change) (ms : List Move) : Type 0 where
  pub after : Marks
  pub same : grown (memory_of g) c ≡ memory_of after
  pub meant : Meant after
  pub extends : Extends path g after
  pub there : ThreadIn after.cells after.frames c.thread
  pub outcome : Outcome after c.thread c.born ms

pub unit_means : (cs : List Marked) → Means cs Held.Unit unit
unfolding value_of value_by
unit_means cs = record { there = tt; value = refl }

next_spawn : (n : ℕ) → next n ≢ spawn n
next_spawn n e = let z : ◌≡◌ {A = ℕ} 0 1 = cc in absurd (omega arith)

no_frame : (cs : List Marked) (fs : List Frame) → returns_at cs fs 0 ≡ []
unfolding returns_at
no_frame cs [] = refl
no_frame cs (f ∷ fs) = frame_older cs f fs 0 (omega arith) ∙ no_frame cs fs

-- the state of a thread whose newest cell is the newest of all
newest_state : (cs : List Marked) (fs : List Frame) → FramesIn cs fs → (n o : ℕ) (k : Kept) (i : Instance) (r f : ℕ)
    → state_in (mark n o k i ∷ cs) fs (record { row = r; cell = suc (count cs); frame = f })
    ≡ record { row = r; env = extend (env_at cs o) n (kept_by (env_at cs) (own_at cs) i k); returns = returns_at cs fs f }
unfolding state_in
newest_state cs fs h n o k i r f = rw (env_newest (mark n o k i) cs, returns_older (mark n o k i) cs fs f h)

module _ (p : Program) (path : Path) (g : Marks) (w : Meant g) (t : ThreadRecord) (h : ThreadIn g.cells g.frames t) (b : Bind) where
  abbrev state : State
  state = state_in g.cells g.frames t

  -- on to the rest
  on_with : (k : Kept) (i : Instance) (v : Value) → KeptIn g.cells k → v ≡ kept_by (env_at g.cells) (own_at g.cells) i k
      → Extends path g (with_cell g (mark b.name t.cell k i)) → Follows path g (go_on (memory_of g) t b k) (proceed state b v ∷ [])
  unfolding go_on grown newest proceed state_in
  on_with k i v inside e x = record {
    after = with_cell g (mark b.name t.cell k i);
    same = refl;
    meant = meant_cell path g w (mark b.name t.cell k i) h.cell inside;
    extends = x;
    there = record { cell = omega arith; frame = h.frame };
    outcome = one {m = proceed state b v} (rw e (sym (newest_state g.cells g.frames w.frames b.name t.cell k i b.rest t.frame)));
  }

  -- on with a value that is held
  pub on_held : (a : Held) (v : Value) → Means g.cells a v → Follows path g (go_on (memory_of g) t b (Keeps a)) (proceed state b v ∷ [])
  unfolding kept_by value_of
  on_held a v m = on_with (Keeps a) (made path 0) v m.there m.value (extends_cell path g g (extends_refl path g) b.name t.cell a (made path 0) w)

  on_with_held : (a : Held) (v : Value) → Means g.cells a v → Like (Follows path g) (some (go_on (memory_of g) t b (Keeps a))) (some (proceed state b v ∷ []))
  on_with_held a v m = both (on_held a v m)

  on_with_own : Like (Follows path g) (some (go_on (memory_of g) t b (Keeps (Closure t.row t.cell)))) (some (proceed state b (closure state.row state.env) ∷ []))
  unfolding state_in value_of value_by
  on_with_own = on_with_held (Closure t.row t.cell) (closure t.row (env_at g.cells t.cell)) (record { there = h.cell; value = refl })

  on_with_chan : Like (Follows path g) (some (go_on (memory_of g) t b Makes)) (some (proceed state b (channel (made path b.name)) ∷ []))
  unfolding kept_by
  on_with_chan = both (on_with Makes (made path b.name) (channel (made path b.name)) tt refl (extends_own path g w b.name t.cell b.name))

  -- a spawn
  forks : (r : ℕ) → Follows path g (fork (memory_of g) t b r) (proceed state b unit ∷ start state b r ∷ [])
  unfolding fork grown newest proceed start state_in kept_by value_by returns_at
  forks r =
      let c : Marked = mark b.name t.cell (Keeps Held.Unit) (made path 0) in
      let x : Extends path g (with_cell g c) = extends_cell path g g (extends_refl path g) b.name t.cell Held.Unit (made path 0) w in
      record {
        after = with_cell g c;
        same = refl;
        meant = meant_cell path g w c h.cell tt;
        extends = x;
        there = record { cell = omega arith; frame = h.frame };
        outcome = two {m = proceed state b unit} {k = start state b r} {b = record { row = r; cell = t.cell; frame = 0 }}
            (next_spawn b.name)
            (sym (newest_state g.cells g.frames w.frames b.name t.cell (Keeps Held.Unit) (made path 0) b.rest t.frame))
            (record { cell = omega (arith, h.cell); frame = omega arith })
            (rw (x.env t.cell h.cell, no_frame (c ∷ g.cells) g.frames));
      }

  -- into a branch or a body, whose cells extend those of the thread
  into : (r : ℕ) (new : List Cell) (cs : List Marked) → new ++ cells g.cells ≡ cells cs → (env : Env) → Meant (record { cells = cs; frames = g.frames })
      → Extends path g (record { cells = cs; frames = g.frames }) → env ≡ env_at cs (count cs) → Follows path g (go_into (memory_of g) t b r new) (enter state b r env ∷ [])
  unfolding go_into grown enter state_in
  into r new cs eq env meant x e =
      let inner : Marks = record { cells = cs; frames = g.frames } in
      let f : Frame = record { name = b.name; rest = b.rest; cell = t.cell; older = t.frame } in
      record {
        after = with_frame inner f;
        same = ap (λ (l : List Cell). memory_with l (f ∷ g.frames)) eq;
        meant = meant_frame path inner meant f (omega (arith, h.cell, x.cells)) h.frame;
        extends = extends_frame path g inner x f;
        there = record { cell = let q : length (new ++ cells g.cells) ≡ count cs = ap length eq in omega (arith, q); frame = omega arith };
        outcome = one {m = enter state b r env} (rw (eq, e, frame_newest cs f g.frames, x.env t.cell h.cell, x.returns t.frame h.frame));
      }

  -- into a branch: one cell more
  branch : (o : Option ℕ) (k x r : ℕ) (env : Env) → env ≡ env_at g.cells k
      → Like (Follows path g) (o >>= λ a. find (cells g.cells) k a >>= λ v. some (go_into (memory_of g) t b r (bound x t.cell (Keeps v) ∷ [])))
      (o >>= λ a. lookup env a >>= λ v. some (enter state b r (extend state.env x v) ∷ []))
  unfolding kept_by value_of state_in
  branch o k x r env e =
      like_same o λ a _.
      rw e (like_bind (find_like g.cells w.cells k a) λ q v m.
      let c : Marked = mark x t.cell (Keeps q) (made path 0) in
      both (into r (c.cell ∷ []) (c ∷ g.cells) refl (extend state.env x v) (meant_cell path g w c h.cell m.there) (extends_cell path g g (extends_refl path g) x t.cell q (made path 0) w)
      (rw m.value (sym (env_newest c g.cells)))))

  -- a part of a pair
  part : (of : ℕ × ℕ → ℕ) (a : ℕ)
      → Like (Follows path g) (find_closure (cells g.cells) t.cell a >>= λ k. pair_at p k.0 >>= λ xy. find (cells g.cells) k.1 (of xy) >>= λ v. some (go_on (memory_of g) t b (Keeps v)))
      (closure_at state.env a >>= λ k. pair_at p k.0 >>= λ xy. lookup k.1 (of xy) >>= λ v. some (proceed state b v ∷ []))
  unfolding state_in
  part of a =
      like_bind (closure_like g.cells w.cells t.cell a) λ (r, k) (r', env) (q, l, e).
      rw (q, e) (like_same (pair_at p r') λ xy _.
      like_bind (find_like g.cells w.cells k (of xy)) on_with_held)

  -- a body: two cells more
  applied : (r k own x inner : ℕ) (v : Held) (v' : Value) → Means g.cells v v' → k ≤ count g.cells → (env : Env) → env ≡ env_at g.cells k
      → Follows path g (go_into (memory_of g) t b inner (bound x (suc (newest (memory_of g))) (Keeps v) ∷ bound own k (Keeps (Closure r k)) ∷ []))
      (enter state b inner (extend (extend env own (closure r env)) x v') ∷ [])
  unfolding newest kept_by value_of value_by
  applied r k own x inner v v' m l env e =
      let c : Marked = mark own k (Keeps (Closure r k)) (made path 0) in
      let d : Marked = mark x (suc (count g.cells)) (Keeps v) (made path 0) in
      let w' : Meant (with_cell g c) = meant_cell path g w c l l in
      let x' : Extends path g (with_cell g c) = extends_cell path g g (extends_refl path g) own k (Closure r k) (made path 0) w in
      into inner (d.cell ∷ c.cell ∷ []) (d ∷ c ∷ g.cells) refl (extend (extend env own (closure r env)) x v')
      (meant_cell path (with_cell g c) w' d (omega arith) (held_older c g.cells v m.there))
      (extends_cell path g (with_cell g c) x' x (suc (count g.cells)) v (made path 0) w')
      (rw (e, m.value) (sym (env_newest d (c ∷ g.cells) ∙ ap₂ (λ e v. extend e x v) (env_newest c g.cells) (value_older c g.cells v m.there))))

  branches : (s x l y u : ℕ) → Like (Follows path g) (form_change p (memory_of g) t b (Case s x l y u)) (form_moves p path state b (Case s x l y u))
  unfolding form_change form_moves state_in
  branches s x l y u =
      like_bind (closure_like g.cells w.cells t.cell s) λ (r, k) (r', env) (q, _, e).
      rw q (like_either (branch (left_at p r') k x l env e) (branch (right_at p r') k y u env e))

  body : (f a : ℕ) → Like (Follows path g) (form_change p (memory_of g) t b (Apply f a)) (form_moves p path state b (Apply f a))
  unfolding form_change form_moves state_in newest kept_by value_of value_by
  body f a =
      like_bind (closure_like g.cells w.cells t.cell f) λ (r, k) (r', env) (q, l, e).
      rw q (like_same (fun_at p r') λ (own, x, inner) _.
      like_bind (find_like g.cells w.cells t.cell a) λ v v' m.
      both (applied r' k own x inner v v' m l env e))

  form_like : (f : Form) → Like (Follows path g) (form_change p (memory_of g) t b f) (form_moves p path state b f)
  unfolding form_change form_moves
  form_like Form.Unit = on_with_held Held.Unit unit (unit_means g.cells)
  form_like Chan = on_with_chan
  form_like (Send c m) = on_with_own
  form_like (Recv c) = on_with_own
  form_like (Pair x y) = on_with_own
  form_like (Left x) = on_with_own
  form_like (Right x) = on_with_own
  form_like (Fun f x r) = on_with_own
  form_like (Spawn r) = both (forks r)
  form_like (Sync e) = neither
  form_like (First a) = part (λ xy. xy.0) a
  form_like (Second a) = part (λ xy. xy.1) a
  form_like (Case s x l y u) = branches s x l y u
  form_like (Apply f a) = body f a

module _ (p : Program) (path : Path) (g : Marks) (w : Meant g) (t : ThreadRecord) (h : ThreadIn g.cells g.frames t) where
  -- a result takes the last return
  result_like : (n : ℕ) → Like (Follows path g) (result_change (memory_of g) t n) (result_moves p path (state_in g.cells g.frames t) n (returns_at g.cells g.frames t.frame))
  unfolding result_change result_moves state_in grown newest kept_by value_of ◌>>=◌
  result_like n = go (last_of g.cells g.frames w.frames t.frame)
    where
      returned : (f : Frame) → f.cell ≤ count g.cells → f.older ≤ length g.frames → (v : Held) (v' : Value) → Means g.cells v v'
          → Follows path g (record { cells = bound f.name f.cell (Keeps v) ∷ []; frames = []; thread = record { row = f.rest; cell = suc (newest (memory_of g)); frame = f.older }; born = [] })
          (record { label = return f.name; state = record { row = f.rest; env = extend (env_at g.cells f.cell) f.name v'; returns = returns_at g.cells g.frames f.older } } ∷ [])
      returned f l o v v' m = record {
        after = with_cell g (mark f.name f.cell (Keeps v) (made path 0));
        same = refl;
        meant = meant_cell path g w (mark f.name f.cell (Keeps v) (made path 0)) l m.there;
        extends = extends_cell path g g (extends_refl path g) f.name f.cell v (made path 0) w;
        there = record { cell = omega arith; frame = o };
        outcome = one {m = record { label = return f.name; state = record { row = f.rest; env = extend (env_at g.cells f.cell) f.name v'; returns = returns_at g.cells g.frames f.older } }}
            (rw m.value (sym (newest_state g.cells g.frames w.frames f.name f.cell (Keeps v) (made path 0) f.rest f.older)));
      }

      go : {o : Option Frame} {rs : List Return} → Last g.cells g.frames o rs
          → Like (Follows path g) (o >>= λ f. find (cells g.cells) t.cell n >>= λ v. some (record { cells = bound f.name f.cell (Keeps v) ∷ []; frames = []; thread = record { row = f.rest; cell = suc (newest (memory_of g)); frame = f.older }; born = [] }))
          (result_moves p path (state_in g.cells g.frames t) n rs)
      go no_return = neither
      go (last {f = f} l o) = like_bind (find_like g.cells w.cells t.cell n) λ v v' m. both (returned f l o v v' m)

  pub change_like : Like (Follows path g) (change p (memory_of g) t) (moves p path (state_in g.cells g.frames t))
  unfolding change moves state_in
  change_like = go (row_at p t.row)
    where
      go : (x : Row) → Like (Follows path g) (elim x [ Row.Result n ↦ result_change (memory_of g) t n | Row.Bind b ↦ form_change p (memory_of g) t b b.form ])
          (elim x [ Row.Result n ↦ result_moves p path (state_in g.cells g.frames t) n (returns_at g.cells g.frames t.frame) | Row.Bind b ↦ form_moves p path (state_in g.cells g.frames t) b b.form ])
      go (Row.Result n) = result_like n
      go (Row.Bind b) = form_like p path g w t h b b.form
