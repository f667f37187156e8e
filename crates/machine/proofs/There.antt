-- Rows and names that a watched run's memory names are there.
use Prim.Native.Nat.{ℕ, zero, suc, ◌<◌}
use native.Mathlib.Omega.{arith}
use mathlib.Core.Bool.{Bool, true, false, ◌&&◌, ◌||◌, So}
use mathlib.Core.List.{List, [], ◌∷◌, ◌++◌}
use Rattle.std.specs.Prelude.{Option, None as none, Some as some}
use mathlib.Core.Path.{◌≡◌, refl, sym, ◌∙◌, ap, subst}
use lib.ListN.{length, set}
use lib.Dec.{eqb, ltb}
use borrow.Author.Tests.{lt-ltb}
use Rattle.program.specs.declared.Row.{Row}
use Rattle.program.specs.declared.Bind.{Bind}
use Rattle.program.specs.declared.Form.{Form}
use Rattle.program.specs.declared.Form.TheVariants.{Chan, Send, Recv, Pair, Left, Right, Fun, Spawn, Sync, First, Second, Case, Apply}
use Rattle.program.specs.Each.{elem, collect, Each, nil, ◌&◌}
use Rattle.program.specs.Maybe.{◌>>=◌, given}
use Rattle.program.specs.Program.{Program, row_at, bind_of, bind_at, form_at, send_at, pair_at, left_at, right_at, fun_of, fun_at, rows_of, binders_of, pointers, binders}
use Rattle.program.specs.Test.{pick}
use Rattle.program.proofs.Each.{each_imp, each_append, each_left, each_right}
use Rattle.program.proofs.Maybe.{Found, nothing, found, found_self, found_bind, found_either, found_map}
use Rattle.program.proofs.Sound.Forms.{fun_form}
use Rattle.program.proofs.Sound.Shape.{bind_bound, row_of, rests_rise}
use Rattle.program.proofs.Test.{and_right, or_left, or_right, eqb_same}
use Rattle.program.proofs.WellFormed.{WellFormed}
use Rattle.machine.specs.declared.ThreadRecord.{ThreadRecord}
use Rattle.machine.specs.declared.Cell.{Cell}
use Rattle.machine.specs.declared.Frame.{Frame}
use Rattle.machine.specs.declared.Held.{Held}
use Rattle.machine.specs.declared.Held.TheVariants.{Channel, Closure}
use Rattle.machine.specs.declared.Kept.{Kept}
use Rattle.machine.specs.declared.Kept.TheVariants.{Makes, Keeps}
use Rattle.machine.specs.Machine.{Memory, Machine, numbered, held_by, find, closure_held_by, find_closure, thread_at, Change, grown, bound, newest, go_on, fork, go_into, form_change, result_change, change, event_of, sends, sends_what, offers, awaits, begin, changed, Order, alone, together, moved, within, Answer, refused, accepted, answer, left, watched, row_there, name_there}
use Rattle.machine.proofs.Flat.{flat, flat-moved}

-- ---- what a row names is there

elem_left : (n : ℕ) (xs ys : List ℕ) → So (elem n xs) → So (elem n (xs ++ ys))
unfolding elem
elem_left n [] ys t = let z : ◌≡◌ {A = ℕ} 0 1 = cc in absurd (omega arith)
elem_left n (x ∷ xs) ys t = go (eqb n x) t (elem_left n xs ys)
  where
    go : (b : Bool) → So (b || elem n xs) → (So (elem n xs) → So (elem n (xs ++ ys))) → So (b || elem n (xs ++ ys))
    go true t k = refl
    go false t k = k t

elem_right : (n : ℕ) (xs ys : List ℕ) → So (elem n ys) → So (elem n (xs ++ ys))
unfolding elem
elem_right n [] ys t = t
elem_right n (x ∷ xs) ys t = or_right (eqb n x) (elem_right n xs ys t)

elem-collect : (n : ℕ) (p : Program) (r : ℕ) → r < length p → So (elem n (binders (row_at p r))) → So (elem n (collect binders p))
unfolding collect row_at
elem-collect n [] r l t = absurd (omega arith)
elem-collect n (x ∷ p) zero l t = elem_left n (binders x) (collect binders p) t
elem-collect n (x ∷ p) (suc r) l t = elem_right n (binders x) (collect binders p) (elem-collect n p r (omega arith) t)

each_elem : (xs : List ℕ) → Each (λ n. So (elem n xs)) xs
unfolding elem
each_elem [] = nil
each_elem (x ∷ xs) = or_left (elem x xs) (eqb_same x) & each_imp (λ n t. or_right (eqb n x) t) (each_elem xs)

module _ (p : Program) where
  abbrev pub RowThere : ℕ → Type 0
  RowThere r = So (row_there p r)

  abbrev pub NameThere : ℕ → Type 0
  NameThere n = So (name_there p n)

  -- the rows and names of a bind
  record BindThere (b : Bind) : Type 0 where
    rest : RowThere b.rest
    rows : Each RowThere (rows_of b.form)
    name : NameThere b.name
    names : Each NameThere (binders_of b.form)

  module _ (well : WellFormed p) where
    bind_there : (r : ℕ) (b : Bind) → bind_at p r ≡ some b → BindThere b
    unfolding row_there name_there pointers binders
    bind_there r b e =
        let l : r < length p = bind_bound p r b e in
        let row : row_at p r ≡ Row.Bind b = row_of p r b e in
        let ps : Each RowThere (pointers (Row.Bind b)) = each_imp (λ t k. and_right (ltb r t) (ltb t (length p)) k) (subst (λ x. Each (λ t. So (ltb r t && ltb t (length p))) (pointers x)) row (rests_rise p well r l)) in
        let ns : Each NameThere (binders (Row.Bind b)) = subst (λ x. Each NameThere (binders x)) row (each_imp (λ n t. elem-collect n p r l t) (each_elem (binders (row_at p r)))) in
        record { rest = last (each_right (rows_of b.form) (b.rest ∷ []) ps); rows = each_left (rows_of b.form) (b.rest ∷ []) ps; name = head ns; names = tail ns }
      where
        last : Each RowThere (b.rest ∷ []) → RowThere b.rest
        last (h & k) = h

        head : Each NameThere (b.name ∷ binders_of b.form) → NameThere b.name
        head (h & k) = h

        tail : Each NameThere (b.name ∷ binders_of b.form) → Each NameThere (binders_of b.form)
        tail (h & k) = k

-- ---- what memory names is there

module _ (p : Program) where
  abbrev pub HeldThere : Held → Type 0
  HeldThere Held.Unit = Unit {0}
  HeldThere (Channel k) = Unit {0}
  HeldThere (Closure r k) = RowThere p r

  abbrev pub KeptThere : Kept → Type 0
  KeptThere Makes = Unit {0}
  KeptThere (Keeps h) = HeldThere h

  abbrev pub CellThere : Cell → Type 0
  CellThere c = NameThere p c.name × KeptThere c.kept

  abbrev pub FrameThere : Frame → Type 0
  FrameThere f = NameThere p f.name × RowThere p f.rest

  abbrev pub ThreadThere : ThreadRecord → Type 0
  ThreadThere t = RowThere p t.row

  pub record MemoryThere (m : Memory) : Type 0 where
    pub cells : Each CellThere m.cells
    pub frames : Each FrameThere m.frames

  record ChangeThere (c : Change) : Type 0 where
    cells : Each CellThere c.cells
    frames : Each FrameThere c.frames
    thread : ThreadThere c.thread
    born : Each ThreadThere c.born

  pub record MachineThere (m : Machine) : Type 0 where
    pub memory : MemoryThere m.memory
    pub threads : Each ThreadThere m.threads

  held_there : (n : ℕ) (k : Kept) → KeptThere k → HeldThere (held_by n k)
  unfolding held_by
  held_there n Makes h = tt
  held_there n (Keeps a) h = h

  find_there : (cs : List Cell) → Each CellThere cs → (k x : ℕ) → Found HeldThere (find cs k x)
  unfolding find
  find_there [] h k x = nothing
  find_there (c ∷ cs) ((n, a) & h) k x = go (eqb k (suc (length cs))) (eqb x c.name) (find_there cs h c.older x) (find_there cs h k x)
    where
      go : (t u : Bool) → Found HeldThere (find cs c.older x) → Found HeldThere (find cs k x)
          → Found HeldThere (pick t (pick u (some (held_by (suc (length cs)) c.kept)) (find cs c.older x)) (find cs k x))
      go true true _ _ = found (held_there (suc (length cs)) c.kept a)
      go true false q _ = q
      go false u _ q = q

  closure_there : (cs : List Cell) → Each CellThere cs → (k x : ℕ) → Found (λ a. RowThere p a.0) (find_closure cs k x)
  unfolding find_closure closure_held_by
  closure_there cs h k x = found_bind (find_there cs h k x) only
    where
      only : (a : Held) → HeldThere a → Found (λ (a : ℕ × ℕ). RowThere p a.0) (closure_held_by a)
      only Held.Unit _ = nothing
      only (Channel k) _ = nothing
      only (Closure r k) t = found t

  numbered_there : (fs : List Frame) → Each FrameThere fs → (k : ℕ) → Found FrameThere (numbered fs k)
  unfolding numbered
  numbered_there [] h k = nothing
  numbered_there (f ∷ fs) (a & h) k = go (eqb k (suc (length fs))) (numbered_there fs h k)
    where
      go : (t : Bool) → Found FrameThere (numbered fs k) → Found FrameThere (pick t (some f) (numbered fs k))
      go true _ = found a
      go false q = q

  module _ (well : WellFormed p) (m : Memory) (h : MemoryThere m) (t : ThreadRecord) (row : ThreadThere t) where
    module _ (b : Bind) (at : bind_at p t.row ≡ some b) where
      abbrev there_bind : BindThere p b
      there_bind = bind_there p well t.row b at

      on_there : (k : Kept) → KeptThere k → ChangeThere (go_on m t b k)
      unfolding go_on
      on_there k a = record { cells = (there_bind.name, a) & nil; frames = nil; thread = there_bind.rest; born = nil }

      fork_there : (r : ℕ) → RowThere p r → ChangeThere (fork m t b r)
      unfolding fork
      fork_there r a = record { cells = (there_bind.name, tt) & nil; frames = nil; thread = there_bind.rest; born = a & nil }

      into_there : (r : ℕ) → RowThere p r → (new : List Cell) → Each CellThere new → ChangeThere (go_into m t b r new)
      unfolding go_into
      into_there r a new k = record { cells = k; frames = (there_bind.name, there_bind.rest) & nil; thread = a; born = nil }

      part_there : (of : ℕ × ℕ → ℕ) (a : ℕ)
          → Found ChangeThere (find_closure m.cells t.cell a >>= λ k. pair_at p k.0 >>= λ xy. find m.cells k.1 (of xy) >>= λ v. some (go_on m t b (Keeps v)))
      part_there of a =
          found_bind (closure_there m.cells h.cells t.cell a) λ (r, k) _.
          found_bind (found_self (pair_at p r)) λ xy _.
          found_bind (find_there m.cells h.cells k (of xy)) λ v w.
          found (on_there (Keeps v) w)

      branch_there : (o : Option ℕ) (k x r : ℕ) → NameThere p x → RowThere p r
          → Found ChangeThere (o >>= λ a. find m.cells k a >>= λ v. some (go_into m t b r (bound x t.cell (Keeps v) ∷ [])))
      branch_there o k x r n a =
          found_bind (found_self o) λ q _.
          found_bind (find_there m.cells h.cells k q) λ v w.
          found (into_there r a (bound x t.cell (Keeps v) ∷ []) ((n, w) & nil))

      case_there : (s x l y u : ℕ) → Each (NameThere p) (x ∷ y ∷ []) → Each (RowThere p) (l ∷ u ∷ []) → Found ChangeThere (form_change p m t b (Case s x l y u))
      unfolding form_change
      case_there s x l y u (nx & ny & nil) (rl & ru & nil) =
          found_bind (closure_there m.cells h.cells t.cell s) λ (r, k) _.
          found_either (branch_there (left_at p r) k x l nx rl) (branch_there (right_at p r) k y u ny ru)

      -- a fun row's names and body
      fun_there : (r : ℕ) → Found (λ a. NameThere p a.0 × NameThere p a.1 × RowThere p a.2) (fun_at p r)
      unfolding fun_at form_at
      fun_there r = found_bind (found_bind (found_self (bind_at p r)) λ d e. found (d, refl, bind_there p well r d e)) parts
        where
          named : (f x u : ℕ) → Each (NameThere p) (f ∷ x ∷ []) → Each (RowThere p) (u ∷ []) → NameThere p f × NameThere p x × RowThere p u
          named f x u (a & b & nil) (c & nil) = (a, b, c)

          parts : (f : Form) → ((d : Bind) × (d.form ≡ f) × BindThere p d) → Found (λ a. NameThere p a.0 × NameThere p a.1 × RowThere p a.2) (fun_of f)
          parts f (d, q, g) = found_map (λ a e. named a.0 a.1 a.2 (subst (λ z. Each (NameThere p) (binders_of z)) (q ∙ e) g.names) (subst (λ z. Each (RowThere p) (rows_of z)) (q ∙ e) g.rows)) (fun_form f)

      apply_there : (f a : ℕ) → Found ChangeThere (form_change p m t b (Apply f a))
      unfolding form_change
      apply_there f a =
          found_bind (closure_there m.cells h.cells t.cell f) λ (r, k) row.
          found_bind (fun_there r) λ (g, x, body) (ng, nx, rb).
          found_bind (find_there m.cells h.cells t.cell a) λ v w.
          found (into_there body rb (bound x (suc (newest m)) (Keeps v) ∷ bound g k (Keeps (Closure r k)) ∷ []) ((nx, w) & (ng, row) & nil))

      form_there : (f : Form) → b.form ≡ f → Found ChangeThere (form_change p m t b f)
      unfolding form_change
      form_there Form.Unit q = found (on_there (Keeps Held.Unit) tt)
      form_there Chan q = found (on_there Makes tt)
      form_there (Send c x) q = found (on_there (Keeps (Closure t.row t.cell)) row)
      form_there (Recv c) q = found (on_there (Keeps (Closure t.row t.cell)) row)
      form_there (Pair x y) q = found (on_there (Keeps (Closure t.row t.cell)) row)
      form_there (Left x) q = found (on_there (Keeps (Closure t.row t.cell)) row)
      form_there (Right x) q = found (on_there (Keeps (Closure t.row t.cell)) row)
      form_there (Fun f x r) q = found (on_there (Keeps (Closure t.row t.cell)) row)
      form_there (Spawn r) q = found (fork_there r (only (subst (λ z. Each (RowThere p) (rows_of z)) q there_bind.rows)))
        where
          only : Each (RowThere p) (r ∷ []) → RowThere p r
          only (a & nil) = a
      form_there (Sync e) q = nothing
      form_there (First a) q = part_there (λ xy. xy.0) a
      form_there (Second a) q = part_there (λ xy. xy.1) a
      form_there (Case s x l y u) q = case_there s x l y u (subst (λ z. Each (NameThere p) (binders_of z)) q there_bind.names) (subst (λ z. Each (RowThere p) (rows_of z)) q there_bind.rows)
      form_there (Apply f a) q = apply_there f a

    result_there : (n : ℕ) → Found ChangeThere (result_change m t n)
    unfolding result_change
    result_there n =
        found_bind (numbered_there m.frames h.frames t.frame) λ f (a, r).
        found_bind (find_there m.cells h.cells t.cell n) λ v w.
        found (record { cells = (a, w) & nil; frames = nil; thread = r; born = nil })

    change_there : Found ChangeThere (change p m t)
    unfolding change bind_at bind_of
    change_there = go (row_at p t.row) refl
      where
        go : (x : Row) → row_at p t.row ≡ x → Found ChangeThere (elim x [ Row.Result n ↦ result_change m t n | Row.Bind b ↦ form_change p m t b b.form ])
        go (Row.Result n) q = result_there n
        go (Row.Bind b) q = form_there b (ap bind_of q) b.form refl

-- ---- every move leaves it so

thread_there : {P : ThreadRecord → Type 0} (ts : List ThreadRecord) → Each P ts → (n : ℕ) → Found P (thread_at ts n)
unfolding thread_at
thread_there [] nil n = nothing
thread_there (t ∷ ts) (a & h) zero = found a
thread_there (t ∷ ts) (a & h) (suc n) = thread_there ts h n

put_there : {P : ThreadRecord → Type 0} (ts : List ThreadRecord) → Each P ts → (n : ℕ) (u : ThreadRecord) → P u → Each P (set ts n u)
put_there [] nil n u a = nil
put_there (t ∷ ts) (b & h) zero u a = a & h
put_there (t ∷ ts) (b & h) (suc n) u a = b & put_there ts h n u a

module _ (p : Program) (well : WellFormed p) where
  changed_there : (m : Machine) → MachineThere p m → (n : ℕ) (c : Change) → ChangeThere p c → MachineThere p (changed m n c)
  unfolding changed grown
  changed_there m h n c g = record { memory = record { cells = each_append g.cells h.memory.cells; frames = each_append g.frames h.memory.frames }; threads = each_append (put_there m.threads h.threads n c.thread g.thread) g.born }

  offer_there : (m : Machine) → MachineThere p m → (t : ThreadRecord) → Found (λ a. HeldThere p a.1) (offers p m.memory t)
  unfolding offers sends_what
  offer_there m h t =
      found_bind (found_self (sends p m.memory t)) λ i _.
      found_bind (found_bind (found_self (event_of p m.memory t)) λ (r, k) _. found_bind (found_self (send_at p r)) λ (c, x) _. find_there p m.memory.cells h.memory.cells k x) λ v w.
      found w

  flat_there : (m : Machine) → MachineThere p m → (o : Order) → Found (MachineThere p) (flat p m o)
  unfolding flat offers
  flat_there m h (alone n) =
      found_bind (thread_there m.threads h.threads n) λ t row.
      found_bind (change_there p well m.memory h.memory t row) λ c g.
      found (changed_there m h n c g)
  flat_there m h (together sender receiver) =
      found_bind (thread_there m.threads h.threads sender) λ s row.
      found_bind (thread_there m.threads h.threads receiver) λ r row'.
      found_bind (found_self (bind_at p s.row)) λ b at.
      found_bind (found_self (bind_at p r.row)) λ d at'.
      found_bind (offer_there m h s) λ (i, v) w.
      found_bind (found_self (awaits p m.memory r)) λ j _.
      found_bind (found_self (given (eqb i j))) λ _ _.
      let h' : MachineThere p (changed m receiver (go_on m.memory r d (Keeps v))) = changed_there m h receiver (go_on m.memory r d (Keeps v)) (on_there p well m.memory h.memory r row' d at' (Keeps v) w) in
      found (changed_there _ h' sender _ (on_there p well _ h'.memory s row b at (Keeps Held.Unit) tt))

  moved_there : (m : Machine) → MachineThere p m → (o : Order) → Found (MachineThere p) (moved p m o)
  moved_there m h o = subst (Found (MachineThere p)) (sym (flat-moved p m o)) (flat_there m h o)

  left_there : (m : Machine) → MachineThere p m → (o : Order) → MachineThere p (left p m o)
  unfolding left answer
  left_there m h o = go (moved_there m h o)
    where
      fitting : (b : Bool) (m' : Machine) → MachineThere p m' → MachineThere p (elim (pick b (accepted m') (refused 31)) [ refused n ↦ m | accepted after ↦ after ])
      fitting true m' g = g
      fitting false m' g = h

      go : {q : Option Machine} → Found (MachineThere p) q
          → MachineThere p (elim (elim q as (λ q. Answer) [ none ↦ refused 30 | some after ↦ pick (within after) (accepted after) (refused 31) ]) [ refused n ↦ m | accepted after ↦ after ])
      go nothing = h
      go (found {a = m'} g) = fitting (within m') m' g

  pub watched_there : (os : List Order) (m : Machine) → MachineThere p m → MachineThere p (watched p m os)
  unfolding watched
  watched_there [] m h = h
  watched_there (o ∷ os) m h = watched_there os (left p m o) (left_there m h o)

  pub begin_there : 0 < length p → MachineThere p begin
  unfolding begin row_there
  begin_there l = record { memory = record { cells = nil; frames = nil }; threads = lt-ltb 0 (length p) l & nil }
