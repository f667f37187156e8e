-- A machine stands for a pool: thread for leaf, instance for instance; and its moves stand for the steps of the run rules.
use Prim.Native.Nat.{ℕ, zero, suc}
use native.Mathlib.Omega.{arith}
use native.Mathlib.Decide.{ℕ_discrete}
use mathlib.Core.Bool.{false, So, false≢true}
use mathlib.Core.List.{List, [], ◌∷◌, ◌++◌, map}
use Rattle.std.specs.Prelude.{Option, None as none, Some as some}
use mathlib.Core.Path.{◌≡◌, refl, sym, ◌∙◌, ap, subst}
use mathlib.Core.Logic.{inl, inr, ⊎_elim, ◌≢◌}
use lib.ListN.{length, set}
use Rattle.program.specs.Maybe.{◌>>=◌}
use Rattle.program.specs.declared.Bind.{Bind}
use Rattle.program.specs.Each.{◌&◌}
use Rattle.program.specs.Program.{Program}
use Rattle.program.specs.Run.{Label, next, Path, Value, proceed, Instance, State, Move, Thread, Pool, own, state_of, leaf, leaf_state, lengthen, moves, added}
use Rattle.program.specs.Snoc.{◌▷◌, Begins}
use Rattle.program.proofs.Snoc.{size, begins_size}
use Rattle.machine.specs.declared.ThreadRecord.{ThreadRecord}
use Rattle.machine.specs.declared.Held.{Held}
use Rattle.machine.specs.declared.Kept.TheVariants.{Keeps}
use Rattle.machine.specs.Machine.{Memory, Machine, thread_at, Change, grown, change, changed, go_on, alone}
use Rattle.machine.specs.Meaning.{own_at, state_in, Marks, memory_of, states}
use Rattle.machine.specs.Standing.{Lined}
use Rattle.machine.proofs.Flat.{flat}
use Rattle.machine.proofs.Like.{Like, both, like_bind}
use Rattle.machine.proofs.Meaning.{ThreadIn, Means}
use Rattle.machine.proofs.Changes.{maker, Meant, Extends, Outcome, one, two, Follows, on_held, change_like}
use Rattle.machine.proofs.Leaves.{put, put_same, put_other, put_idle, put_cong, decide, same_path, no_some, leaf_state_lem, New, leaf_new, new_state, not_leaf, shorter_leaf, leaf_stays, longer_differs, other_state, leaves_after}
use Rattle.machine.proofs.Lined.{lined_same, leave, arrive}

-- ---- threads by their numbers

put_here : (ts bs : List ThreadRecord) (n : ℕ) (t u : ThreadRecord) → thread_at ts n ≡ some t → thread_at (set ts n u ++ bs) n ≡ some u
unfolding thread_at
put_here [] bs n t u e = no_some {o = none} refl e
put_here (x ∷ ts) bs zero t u e = refl
put_here (x ∷ ts) bs (suc n) t u e = put_here ts bs n t u e

pub put_elsewhere : (ts bs : List ThreadRecord) (n k : ℕ) (u : ThreadRecord) → k ≢ n → thread_at (set ts n u ++ bs) k ≡ thread_at (ts ++ bs) k
unfolding thread_at
put_elsewhere [] bs n k u h = refl
put_elsewhere (x ∷ ts) bs zero zero u h = absurd (h refl)
put_elsewhere (x ∷ ts) bs zero (suc k) u h = refl
put_elsewhere (x ∷ ts) bs (suc n) zero u h = refl
put_elsewhere (x ∷ ts) bs (suc n) (suc k) u h = put_elsewhere ts bs n k u (λ e. h (ap suc e))

pub at_none : (ts : List ThreadRecord) (k : ℕ) → thread_at (ts ++ []) k ≡ thread_at ts k
unfolding thread_at
at_none [] k = refl
at_none (x ∷ ts) zero = refl
at_none (x ∷ ts) (suc k) = at_none ts k

at_born : (ts : List ThreadRecord) (b : ThreadRecord) → thread_at (ts ++ (b ∷ [])) (length ts) ≡ some b
unfolding thread_at
at_born [] b = refl
at_born (x ∷ ts) b = at_born ts b

at_older : (ts : List ThreadRecord) (b : ThreadRecord) (k : ℕ) → k ≢ length ts → thread_at (ts ++ (b ∷ [])) k ≡ thread_at ts k
unfolding thread_at
at_older [] b zero h = absurd (h refl)
at_older [] b (suc k) h = refl
at_older (x ∷ ts) b zero h = refl
at_older (x ∷ ts) b (suc k) h = at_older ts b k (λ e. h (ap suc e))

at_end : (ts : List ThreadRecord) → thread_at ts (length ts) ≡ none
unfolding thread_at
at_end [] = refl
at_end (x ∷ ts) = at_end ts

pub same_some : {A : Type 0} {a b : A} → some a ≡ some b → a ≡ b
same_some e = cc

only_one : {g : Marks} {t : ThreadRecord} {m : Move} → Outcome g t [] (m ∷ []) → m.state ≡ state_in g.cells g.frames t
only_one (one e) = e

two_differ : (x : Path) (l k : Label) → l ≢ k → Begins (x ▷ l) (x ▷ k) → ⊥
unfolding size
two_differ x l k h (inl e) = let q : l ≡ k = cc in h q
two_differ x l k h (inr b) = omega (arith, begins_size (x ▷ l) x b)

pub states_at : (g : Marks) (ts : List ThreadRecord) (n : ℕ) (t : ThreadRecord) → thread_at ts n ≡ some t → states g ts n ≡ some (state_in g.cells g.frames t)
unfolding states ◌>>=◌
states_at g ts n t e = rw e

states_none : (g : Marks) (ts : List ThreadRecord) (n : ℕ) → thread_at ts n ≡ none → states g ts n ≡ none
unfolding states ◌>>=◌
states_none g ts n e = rw e

states_same : (g : Marks) (ts us : List ThreadRecord) (n : ℕ) → thread_at ts n ≡ thread_at us n → states g ts n ≡ states g us n
unfolding states
states_same g ts us n e = rw e

pub record Stands (m : Machine) (pool : Pool) (path : ℕ → Path) : Type 0 where
  pub marks : Marks
  pub same : m.memory ≡ memory_of marks
  pub meant : Meant marks
  pub inside : (n : ℕ) (t : ThreadRecord) → thread_at m.threads n ≡ some t → ThreadIn marks.cells marks.frames t
  -- thread for leaf
  pub lined : Lined (states marks m.threads) (leaf_state pool) path
  -- instance for instance: no two cells made the same, and none of a path that is still a leaf
  pub apart : (j k : ℕ) (i : Instance) → own_at marks.cells j ≡ some i → own_at marks.cells k ≡ some i → j ≡ k
  pub continued : (k : ℕ) (i : Instance) → own_at marks.cells k ≡ some i → leaf pool (maker i) ≡ false

module _ (m : Machine) (pool : Pool) (path : ℕ → Path) (h : Stands m pool path) (n : ℕ) (t : ThreadRecord) (at : thread_at m.threads n ≡ some t) where
  abbrev g : Marks
  g = h.marks

  -- its path is a leaf, with its state
  pub here : leaf_state pool (path n) ≡ some (state_in g.cells g.frames t)
  here = h.lined.each n (state_in g.cells g.frames t) (states_at g m.threads n t at)

  pub leaf_here : So (leaf pool (path n))
  leaf_here = (leaf_state_lem pool (path n) (state_in g.cells g.frames t) here).1

  pub state_here : state_of pool (path n) ≡ some (state_in g.cells g.frames t)
  state_here = (leaf_state_lem pool (path n) (state_in g.cells g.frames t) here).0

  module _ (g' : Marks) (x : Extends (path n) g g') where
    -- the others mean what they meant
    inside_after : (k : ℕ) (u : ThreadRecord) → thread_at m.threads k ≡ some u → ThreadIn g'.cells g'.frames u
    inside_after k u e = let i = h.inside k u e in record { cell = omega (arith, i.cell, x.cells); frame = omega (arith, i.frame, x.frames) }

    states_after : (k : ℕ) → states g' m.threads k ≡ states g m.threads k
    unfolding states ◌>>=◌ state_in
    states_after k = go (thread_at m.threads k) refl
      where
        go : (o : Option ThreadRecord) → thread_at m.threads k ≡ o → o >>= (λ t. some (state_in g'.cells g'.frames t)) ≡ o >>= (λ t. some (state_in g.cells g.frames t))
        go none e = refl
        go (some u) e = let i = h.inside k u e in rw (x.env u.cell i.cell, x.returns u.frame i.frame)

    -- instances, where the path is a leaf no more
    apart_after : (j k : ℕ) (i : Instance) → own_at g'.cells j ≡ some i → own_at g'.cells k ≡ some i → j ≡ k
    apart_after j k i e f = ⊎_elim (λ a. ⊎_elim (λ b. h.apart j k i a b) (λ (q, r). absurd (still j a r)) (x.own k i f)) (λ (q, r). ⊎_elim (λ b. absurd (still k b r)) (λ (q', _). q ∙ sym q') (x.own k i f)) (x.own j i e)
      where
        still : (j : ℕ) → own_at g.cells j ≡ some i → maker i ≡ path n → ⊥
        still j a r = false≢true (sym (h.continued j i a) ∙ ap (leaf pool) r ∙ leaf_here)

    continued_after : (pool' : Pool) → leaf pool' (path n) ≡ false → ((y : Path) → leaf pool y ≡ false → leaf pool' y ≡ false) → (k : ℕ) (i : Instance) → own_at g'.cells k ≡ some i → leaf pool' (maker i) ≡ false
    continued_after pool' gone stays k i e = ⊎_elim (λ a. stays (maker i) (h.continued k i a)) (λ (_, r). ap (leaf pool') r ∙ gone) (x.own k i e)

  -- the thread alone goes on
  module _ (c : Change) (g' : Marks) (eq : grown m.memory c ≡ memory_of g') (w : Meant g') (x : Extends (path n) g g') (i : ThreadIn g'.cells g'.frames c.thread) where
    one_inside : (k : ℕ) (u : ThreadRecord) → thread_at (set m.threads n c.thread ++ []) k ≡ some u → ThreadIn g'.cells g'.frames u
    one_inside k u e =
        decide ℕ_discrete k n
        (λ q. let z : c.thread ≡ u = same_some (sym (put_here m.threads [] n t c.thread at) ∙ ap (thread_at (set m.threads n c.thread ++ [])) (sym q) ∙ e) in rw z at i)
        (λ q. inside_after g' x k u (sym (at_none m.threads k) ∙ sym (put_elsewhere m.threads [] n k c.thread q) ∙ e))

    one_states : (k : ℕ) → states g' (set m.threads n c.thread ++ []) k
        ≡ put ℕ_discrete (put ℕ_discrete (states g m.threads) n none) n (some (state_in g'.cells g'.frames c.thread)) k
    one_states k =
        decide ℕ_discrete k n
        (λ q. rw q (states_at g' _ n c.thread (put_here m.threads [] n t c.thread at) ∙ sym (put_same ℕ_discrete _ n _)))
        (λ q.
        states_same g' _ m.threads k (put_elsewhere m.threads [] n k c.thread q ∙ at_none m.threads k) ∙ states_after g' x k
        ∙ sym (put_other ℕ_discrete _ n _ k q ∙ put_other ℕ_discrete _ n none k q))

    pub advance : (l : Label) → c.born ≡ []
        → Stands (changed m n c) (record { path = path n ▷ l; state = state_in g'.cells g'.frames c.thread } ∷ pool) (put ℕ_discrete path n (path n ▷ l))
    unfolding changed grown
    advance l born =
        let st : State = state_in g'.cells g'.frames c.thread in
        let new : New pool (path n ▷ l) = leaf_new pool (path n) l leaf_here in
        rw born (record {
          marks = g';
          same = eq;
          meant = w;
          inside = one_inside;
          lined = lined_same _ _ _ _ _ one_states (leaves_after pool (path n) l st _ state_here new)
              (arrive _ _ _ (leave _ _ _ h.lined n _ (states_at g m.threads n t at)) n st (path n ▷ l)
              (put_same ℕ_discrete _ n none)
              (put_other same_path _ (path n) none (path n ▷ l) (λ z. longer_differs (path n) l (sym z)) ∙ new_state pool (path n ▷ l) new));
          apart = apart_after g' x;
          continued = continued_after g' x _ (shorter_leaf pool (path n) l st) (leaf_stays pool (path n) l st);
        })

    -- the thread goes on and starts another
    module _ (b : ThreadRecord) (j : ThreadIn g'.cells g'.frames b) where
      abbrev end : ℕ
      end = length m.threads

      end_differs : n ≢ end
      end_differs e = no_some (ap (thread_at m.threads) e ∙ at_end m.threads) at

      two_inside : (k : ℕ) (u : ThreadRecord) → thread_at (set m.threads n c.thread ++ (b ∷ [])) k ≡ some u → ThreadIn g'.cells g'.frames u
      two_inside k u e =
          decide ℕ_discrete k n
          (λ q. let z : c.thread ≡ u = same_some (sym (put_here m.threads (b ∷ []) n t c.thread at) ∙ ap (thread_at (set m.threads n c.thread ++ (b ∷ []))) (sym q) ∙ e) in rw z at i)
          (λ q.
          let f : thread_at (m.threads ++ (b ∷ [])) k ≡ some u = sym (put_elsewhere m.threads (b ∷ []) n k c.thread q) ∙ e in
          decide ℕ_discrete k end
          (λ q'. let z : b ≡ u = same_some (sym (at_born m.threads b) ∙ ap (thread_at (m.threads ++ (b ∷ []))) (sym q') ∙ f) in rw z at j)
          (λ q'. inside_after g' x k u (sym (at_older m.threads b k q') ∙ f)))

      two_states : (k : ℕ) → states g' (set m.threads n c.thread ++ (b ∷ [])) k
          ≡ put ℕ_discrete (put ℕ_discrete (put ℕ_discrete (states g m.threads) n none) end (some (state_in g'.cells g'.frames b))) n (some (state_in g'.cells g'.frames c.thread)) k
      two_states k =
          decide ℕ_discrete k n
          (λ q. rw q (states_at g' _ n c.thread (put_here m.threads (b ∷ []) n t c.thread at) ∙ sym (put_same ℕ_discrete _ n _)))
          (λ q.
          states_same g' _ (m.threads ++ (b ∷ [])) k (put_elsewhere m.threads (b ∷ []) n k c.thread q)
          ∙ decide ℕ_discrete k end
          (λ q'. rw q' (states_at g' _ end b (at_born m.threads b) ∙ sym (put_same ℕ_discrete _ end _)))
          (λ q'. states_same g' _ m.threads k (at_older m.threads b k q') ∙ states_after g' x k ∙ sym (put_other ℕ_discrete _ end _ k q' ∙ put_other ℕ_discrete _ n none k q))
          ∙ sym (put_other ℕ_discrete _ n _ k q))

      pub advance_two : (l k : Label) → l ≢ k → c.born ≡ b ∷ []
          → Stands (changed m n c)
          (record { path = path n ▷ l; state = state_in g'.cells g'.frames c.thread } ∷ record { path = path n ▷ k; state = state_in g'.cells g'.frames b } ∷ pool)
          (put ℕ_discrete (put ℕ_discrete path end (path n ▷ k)) n (path n ▷ l))
      unfolding changed grown
      advance_two l k differ born =
          let st : State = state_in g'.cells g'.frames c.thread in
          let sb : State = state_in g'.cells g'.frames b in
          let child : Thread = record { path = path n ▷ k; state = sb } in
          let new : New pool (path n ▷ k) = leaf_new pool (path n) k leaf_here in
          let new' : New (child ∷ pool) (path n ▷ l) = (λ z. two_differ (path n) l k differ z) & leaf_new pool (path n) l leaf_here in
          let gone : leaf (child ∷ pool) (path n) ≡ false = shorter_leaf pool (path n) k sb in
          rw born (record {
            marks = g';
            same = eq;
            meant = w;
            inside = two_inside;
            lined = lined_same _ _ (put same_path (leaf_state (child ∷ pool)) (path n ▷ l) (some st)) _ _ two_states
                (λ y. leaves_after (child ∷ pool) (path n) l st _ (other_state pool (path n) k sb (path n) (λ z. longer_differs (path n) k z) ∙ state_here) new' y ∙ put_cong same_path _ _ (put_idle same_path _ (path n) none (not_leaf (child ∷ pool) (path n) gone)) (path n ▷ l) (some st) y)
                (arrive _ (leaf_state (child ∷ pool)) _
                (lined_same _ _ _ _ _ (λ y. refl) (leaves_after pool (path n) k sb _ state_here new)
                (arrive _ _ _ (leave _ _ _ h.lined n _ (states_at g m.threads n t at)) end sb (path n ▷ k)
                (put_other ℕ_discrete _ n none end (λ z. end_differs (sym z)) ∙ states_none g m.threads end (at_end m.threads))
                (put_other same_path _ (path n) none (path n ▷ k) (λ z. longer_differs (path n) k (sym z)) ∙ new_state pool (path n ▷ k) new)))
                n st (path n ▷ l) (put_other ℕ_discrete _ end _ n end_differs ∙ put_same ℕ_discrete _ n none) (new_state (child ∷ pool) (path n ▷ l) new'));
            apart = apart_after g' x;
            continued = continued_after g' x _ (shorter_leaf (child ∷ pool) (path n) l st) (λ y f. leaf_stays (child ∷ pool) (path n) l st y (leaf_stays pool (path n) k sb y f));
          })

  -- a thread goes on to the rest, its bind's name getting a value
  pub goes_on : (p : Program) (b : Bind) (a : Held) (v : Value) → Means g.cells a v
      → Stands (changed m n (go_on m.memory t b (Keeps a))) (lengthen (path n) (proceed (state_in g.cells g.frames t) b v) ∷ pool) (put ℕ_discrete path n (path n ▷ next b.name))
  unfolding go_on lengthen proceed
  goes_on p b a v means =
      let f = on_held p (path n) g h.meant t (h.inside n t at) b a v means in
      subst (λ x. Stands (changed m n (go_on x t b (Keeps a))) (lengthen (path n) (proceed (state_in g.cells g.frames t) b v) ∷ pool) (put ℕ_discrete path n (path n ▷ next b.name))) (sym h.same)
      (rw (only_one f.outcome) (advance (go_on (memory_of g) t b (Keeps a)) f.after (ap (λ (x : Memory). grown x (go_on (memory_of g) t b (Keeps a))) h.same ∙ f.same) f.meant f.extends f.there (next b.name) refl))

  -- a thread's own move stands for the step of its path
  own_after : (c : Change) (ms : List Move) → Follows (path n) g c ms → (path' : ℕ → Path) × Stands (changed m n c) (map (lengthen (path n)) ms ++ pool) path'
  unfolding lengthen
  own_after c ms f = go f.outcome refl
    where
      go : {born : List ThreadRecord} {ms : List Move} → Outcome f.after c.thread born ms → c.born ≡ born
          → (path' : ℕ → Path) × Stands (changed m n c) (map (lengthen (path n)) ms ++ pool) path'
      go (one {m = a} e) q = (put ℕ_discrete path n (path n ▷ a.label), rw e (advance c f.after (ap (λ (x : Memory). grown x c) h.same ∙ f.same) f.meant f.extends f.there a.label q))
      go (two {m = a} {k = k} {b = b} d e i e') q = (put ℕ_discrete (put ℕ_discrete path (length m.threads) (path n ▷ k.label)) n (path n ▷ a.label), rw (e, e') (advance_two c f.after (ap (λ (x : Memory). grown x c) h.same ∙ f.same) f.meant f.extends f.there b i a.label k.label d q))

  pub own_like : (p : Program) → Like (λ m' ts. (path' : ℕ → Path) × Stands m' (ts ++ pool) path') (flat p m (alone n)) (added p pool (own (path n)))
  unfolding flat added ◌>>=◌
  own_like p =
      let q : Like (Follows (path n) g) (change p m.memory t) (moves p (path n) (state_in g.cells g.frames t)) = subst (λ x. Like (Follows (path n) g) (change p x t) (moves p (path n) (state_in g.cells g.frames t))) (sym h.same) (change_like p (path n) g h.meant t (h.inside n t at)) in
      rw (at, here) (like_bind q λ c ms f. both (own_after c ms f))
