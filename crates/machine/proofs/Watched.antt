-- A watched run stands for the pool that the steps of its accepted moves leave.
use Prim.Native.Nat.{ℕ, zero, suc}
use native.Mathlib.Omega.{arith}
use mathlib.Core.Bool.{Bool, true, false}
use mathlib.Core.List.{List, [], ◌∷◌, ◌++◌}
use Rattle.std.specs.Prelude.{Option, None as none, Some as some}
use mathlib.Core.Path.{◌≡◌, refl, sym, ◌∙◌, ap, subst}
use Rattle.program.specs.Maybe.{◌>>=◌, given}
use Rattle.program.specs.Program.{Program}
use Rattle.program.specs.Run.{Path, empty, State, Thread, Pool, Step, state_of, leaf, leaf_state, added, step, after, start_pool}
use Rattle.program.specs.Snoc.{ε, continues?}
use Rattle.program.specs.Each.{every}
use Rattle.program.specs.Test.{test}
use Rattle.program.proofs.Maybe.{bind_elim}
use Rattle.machine.specs.declared.ThreadRecord.{ThreadRecord}
use Rattle.machine.specs.Machine.{Machine, thread_at, begin, Order, alone, together, moved, within, refused, accepted, answer, left, watched}
use Rattle.machine.specs.Meaning.{own_at, env_at, returns_at, state_in, Marks, states}
use Rattle.machine.specs.Standing.{StandsFor, Follows, done, refuses, accepts, first_path, step_of, Names}
use Rattle.machine.proofs.Flat.{flat, flat-moved}
use Rattle.machine.proofs.Like.{Like, neither, both}
use Rattle.machine.proofs.Meaning.{ThreadIn}
use Rattle.machine.proofs.Leaves.{same_path, no_some, leaf_state_lem}
use Rattle.machine.proofs.Stands.{Stands, same_some, own_like}
use Rattle.machine.proofs.Meetings.{meet_like}

-- ---- the beginning

abbrev first_thread : ThreadRecord
first_thread = record { row = 0; cell = 0; frame = 0 }

abbrev first_state : State
first_state = record { row = 0; env = empty; returns = [] }

abbrev no_marks : Marks
no_marks = record { cells = []; frames = [] }

start_leaf : (p : Program) (x : Path) (s : State) → state_of (start_pool p) x ≡ some s → (ε ≡ x) × (first_state ≡ s)
unfolding start_pool state_of
start_leaf p x s e = go (same_path ε x) e
  where
    go : (d : Dec (ε ≡ x)) → elim d [ yes e ↦ some first_state | no n ↦ none ] ≡ some s → (ε ≡ x) × (first_state ≡ s)
    go (yes q) e = (q, same_some e)
    go (no n) e = no_some {o = none} refl e

start_state : (p : Program) → leaf_state (start_pool p) ε ≡ some first_state
unfolding start_pool leaf_state state_of leaf ◌>>=◌ given every test continues?
start_state p = refl

first_thread_lem : (n : ℕ) (t : ThreadRecord) → thread_at (first_thread ∷ []) n ≡ some t → (n ≡ 0) × (first_thread ≡ t)
unfolding thread_at
first_thread_lem zero t e = (refl, same_some e)
first_thread_lem (suc n) t e = no_some {o = none} refl e

first_state_lem : (n : ℕ) (s : State) → states no_marks (first_thread ∷ []) n ≡ some s → (n ≡ 0) × (first_state ≡ s)
unfolding states thread_at state_in env_at returns_at ◌>>=◌
first_state_lem zero s e = (refl, same_some e)
first_state_lem (suc n) s e = no_some {o = none} refl e

first_is : states no_marks (first_thread ∷ []) 0 ≡ some first_state
unfolding states thread_at state_in env_at returns_at ◌>>=◌
first_is = refl

pub begin_stands : (p : Program) → Stands begin (start_pool p) first_path
unfolding begin first_path own_at
begin_stands p = record {
  marks = no_marks;
  same = refl;
  meant = record { cells = tt; frames = tt };
  inside = λ n t e. subst (ThreadIn [] []) (first_thread_lem n t e).1 (record { cell = omega arith; frame = omega arith });
  lined = record {
    each = λ n s e. start_state p ∙ ap some (first_state_lem n s e).1;
    once = λ n k s r e f _. (first_state_lem n s e).0 ∙ sym (first_state_lem k r f).0;
    whole = λ x s e. let (q, r) = start_leaf p x s (leaf_state_lem (start_pool p) x s e).0 in (0, first_is ∙ ap some r, q);
  };
  apart = λ j k i e f. no_some {o = none} refl e;
  continued = λ k i e. no_some {o = none} refl e;
}

-- ---- one move

module _ (p : Program) (m : Machine) (pool : Pool) (path : ℕ → Path) (h : Stands m pool path) where
  -- a move of threads that are there is allowed exactly if its step is, and then stands for it
  pub move_like : (o : Order) → Names m o → Like (λ m' ts. (path' : ℕ → Path) × Stands m' (ts ++ pool) path') (moved p m o) (added p pool (step_of path o))
  unfolding step_of
  move_like o names = subst (λ q. Like (λ m' ts. (path' : ℕ → Path) × Stands m' (ts ++ pool) path') q (added p pool (step_of path o))) (sym (flat-moved p m o)) (go o names)
    where
      go : (o : Order) → Names m o → Like (λ m' ts. (path' : ℕ → Path) × Stands m' (ts ++ pool) path') (flat p m o) (added p pool (step_of path o))
      go (alone n) (t, at) = own_like m pool path h n t at p
      go (together sender receiver) ((s, at), (r, at')) = meet_like p m pool path h sender s at receiver r at'

  flat_names : (o : Order) (m' : Machine) → flat p m o ≡ some m' → Names m o
  unfolding flat
  flat_names (alone n) m' e = let (t, at, _) = bind_elim (thread_at m.threads n) _ e in (t, at)
  flat_names (together sender receiver) m' e =
      let (s, at, e') = bind_elim (thread_at m.threads sender) _ e in
      let (r, at', _) = bind_elim (thread_at m.threads receiver) _ e' in
      ((s, at), (r, at'))

  -- "or names no thread"
  pub moved_names : (o : Order) (m' : Machine) → moved p m o ≡ some m' → Names m o
  moved_names o m' e = flat_names o m' (sym (flat-moved p m o) ∙ e)

  -- a move that is accepted: its step is allowed, and the machine after it stands for the pool after the step
  pub accepted_step : (o : Order) (m' : Machine) → moved p m o ≡ some m'
      → (ts : List Thread) × (path' : ℕ → Path) × (added p pool (step_of path o) ≡ some ts) × Stands m' (ts ++ pool) path'
  accepted_step o m' e = go e (move_like o (moved_names o m' e))
    where
      go : {q : Option Machine} {a : Option (List Thread)} → q ≡ some m' → Like (λ m' ts. (path' : ℕ → Path) × Stands m' (ts ++ pool) path') q a
          → (ts : List Thread) × (path' : ℕ → Path) × (a ≡ some ts) × Stands m' (ts ++ pool) path'
      go e neither = no_some {o = none} refl e
      go e (both {b = ts} (path', k)) = (ts, path', refl, subst (λ x. Stands x (ts ++ pool) path') (same_some e) k)

  -- 30: the step isn't allowed
  pub refused_step : (o : Order) → Names m o → moved p m o ≡ none → added p pool (step_of path o) ≡ none
  refused_step o there e = go e (move_like o there)
    where
      go : {q : Option Machine} {a : Option (List Thread)} → q ≡ none → Like (λ m' ts. (path' : ℕ → Path) × Stands m' (ts ++ pool) path') q a → a ≡ none
      go e neither = refl
      go e (both k) = no_some e refl

-- ---- a list of moves

pub stands_for : {m : Machine} {pool : Pool} {path : ℕ → Path} → Stands m pool path → StandsFor m pool path
stands_for h = record { marks = h.marks; memory_is = h.same; threads_are = h.lined; instances_are = h.apart }

module _ (p : Program) where
  pub left_refused : (m : Machine) (o : Order) (n : ℕ) → answer p m o ≡ refused n → left p m o ≡ m
  unfolding left
  left_refused m o n e = rw (e, left)

  pub left_accepted : (m : Machine) (o : Order) (m' : Machine) → answer p m o ≡ accepted m' → left p m o ≡ m'
  unfolding left
  left_accepted m o m' e = rw (e, left)

  step_adds : (pool : Pool) (s : Step) (ts : List Thread) → added p pool s ≡ some ts → step p pool s ≡ ts ++ pool
  unfolding step
  step_adds pool s ts e = rw (e, step)

  -- the steps of the moves, and that the machine which they leave stands for the pool which the steps leave
  pub record Ends (m : Machine) (pool : Pool) (path : ℕ → Path) (os : List Order) : Type 0 where
    pub steps : List Step
    pub follows : Follows p m pool path os steps
    pub last : ℕ → Path
    pub stands : Stands (watched p m os) (after p pool steps) last

  pub ends : (os : List Order) (m : Machine) (pool : Pool) (path : ℕ → Path) → Stands m pool path → Ends m pool path os
  unfolding answer watched after
  ends [] m pool path h = record { steps = []; follows = done (stands_for h); last = path; stands = h }
  ends (o ∷ os) m pool path h = go (moved p m o) refl (λ m' pool' path' k. ends os m' pool' path' k)
    where
      refusing : (n : ℕ) → answer p m o ≡ refused n → Ends m pool path os → Ends m pool path (o ∷ os)
      refusing n e k = record {
        steps = k.steps;
        follows = refuses n (stands_for h) e k.follows;
        last = k.last;
        stands = subst (λ x. Stands (watched p x os) (after p pool k.steps) k.last) (sym (left_refused m o n e)) k.stands;
      }

      accepting : (m' : Machine) → moved p m o ≡ some m' → answer p m o ≡ accepted m' → ((m' : Machine) (pool' : Pool) (path' : ℕ → Path) → Stands m' pool' path' → Ends m' pool' path' os) → Ends m pool path (o ∷ os)
      accepting m' e f rest =
          let (ts, path', allowed, k) = accepted_step p m pool path h o m' e in
          let l = rest m' (ts ++ pool) path' k in
          record {
            steps = step_of path o ∷ l.steps;
            follows = accepts m' path' ts (stands_for h) f allowed l.follows;
            last = l.last;
            stands = subst (λ x. Stands (watched p x os) (after p (step p pool (step_of path o)) l.steps) l.last) (sym (left_accepted m o m' f))
                (subst (λ x. Stands (watched p m' os) (after p x l.steps) l.last) (sym (step_adds pool (step_of path o) ts allowed)) l.stands);
          }

      fitting : (m' : Machine) → moved p m o ≡ some m' → (b : Bool) → within m' ≡ b → ((m' : Machine) (pool' : Pool) (path' : ℕ → Path) → Stands m' pool' path' → Ends m' pool' path' os) → Ends m pool path (o ∷ os)
      fitting m' e true q rest = accepting m' e (rw (e, answer, q)) rest
      fitting m' e false q rest = refusing 31 (rw (e, answer, q)) (rest m pool path h)

      go : (q : Option Machine) → moved p m o ≡ q → ((m' : Machine) (pool' : Pool) (path' : ℕ → Path) → Stands m' pool' path' → Ends m' pool' path' os) → Ends m pool path (o ∷ os)
      go none e rest = refusing 30 (rw (e, answer)) (rest m pool path h)
      go (some m') e rest = fitting m' e (within m') refl rest

  pub from_begin : (os : List Order) → Ends begin (start_pool p) first_path os
  from_begin os = ends os begin (start_pool p) first_path (begin_stands p)
