-- The leaves of a pool when one path is lengthened, and how numbered threads line up with them.
use Prim.Native.Nat.{ℕ}
use native.Mathlib.Omega.{arith}
use mathlib.Core.Bool.{Bool, true, false, not, ◌&&◌, So}
use mathlib.Core.List.{[], ◌∷◌}
use Rattle.std.specs.Prelude.{Option, None as none, Some as some}
use mathlib.Core.Path.{◌≡◌, refl, sym, ◌∙◌, ap}
use mathlib.Core.Logic.{inl, inr, ⊎_elim, ◌≢◌}
use Rattle.program.specs.Test.{test}
use Rattle.program.specs.Maybe.{◌>>=◌, given}
use Rattle.program.specs.Each.{Member, here, there, every, Each, nil, ◌&◌}
use Rattle.program.specs.Run.{Label, same_label, Path, State, Thread, Pool, state_of, leaf, leaf_state}
use Rattle.program.specs.Snoc.{ε, ◌▷◌, Snoc-discrete, Begins, Continues, continues?}
use Rattle.program.proofs.Each.{every_elim, each_at, each_imp}
use Rattle.program.proofs.Snoc.{size, begins_refl, begins_cases, continues_begins, continues_size}
use Rattle.program.proofs.Test.{test_intro, test_elim, not_elim, not_intro, and_intro}

-- ---- functions that differ at one place

module _ {A : Type 0} (same : Discrete A) where
  pub decide : {P : Type 0} (x a : A) → (x ≡ a → P) → (x ≢ a → P) → P
  decide {P} x a y n = go (same x a)
    where
      go : Dec (x ≡ a) → P
      go (yes e) = y e
      go (no m) = n m

module _ {A B : Type 0} (same : Discrete A) where
  unfoldable pub put : (A → B) → A → B → A → B
  put f a b x = elim (same x a) [ yes e ↦ b | no n ↦ f x ]

  pub put_same : (f : A → B) (a : A) (b : B) → put f a b a ≡ b
  unfolding put
  put_same f a b = go (same a a)
    where
      go : (d : Dec (a ≡ a)) → elim d [ yes e ↦ b | no n ↦ f a ] ≡ b
      go (yes e) = refl
      go (no n) = absurd (n refl)

  pub put_other : (f : A → B) (a : A) (b : B) (x : A) → x ≢ a → put f a b x ≡ f x
  unfolding put
  put_other f a b x h = go (same x a)
    where
      go : (d : Dec (x ≡ a)) → elim d [ yes e ↦ b | no n ↦ f x ] ≡ f x
      go (yes e) = absurd (h e)
      go (no n) = refl

  -- what was there already
  pub put_idle : (f : A → B) (a : A) (b : B) → f a ≡ b → (x : A) → put f a b x ≡ f x
  put_idle f a b e x = decide same x a (λ q. rw q (put_same f a b ∙ sym e)) (put_other f a b x)

  pub put_cong : (f f' : A → B) → ((x : A) → f x ≡ f' x) → (a : A) (b : B) (x : A) → put f a b x ≡ put f' a b x
  put_cong f f' e a b x = decide same x a (λ q. rw q (put_same f a b ∙ sym (put_same f' a b))) (λ q. put_other f a b x q ∙ e x ∙ sym (put_other f' a b x q))

abbrev pub same_path : Discrete Path
same_path = Snoc-discrete same_label

pub no_some : {A P : Type 0} {a : A} {o : Option A} → o ≡ none → o ≡ some a → P
no_some e q = let z : ◌≡◌ {A = ℕ} 0 1 = cc in absurd (omega arith)

-- ---- paths of a pool

pub state_member : (pool : Pool) (path : Path) (st : State) → state_of pool path ≡ some st → Member (record { path = path; state = st }) pool
unfolding state_of
state_member [] path st e = no_some {o = none} refl e
state_member (t ∷ ts) path st e = go (same_path t.path path) e (state_member ts path st)
  where
    go : (d : Dec (t.path ≡ path)) → elim d [ yes e ↦ some t.state | no n ↦ state_of ts path ] ≡ some st
        → (state_of ts path ≡ some st → Member (record { path = path; state = st }) ts) → Member (record { path = path; state = st }) (t ∷ ts)
    go (yes e) q k = let r : t.state ≡ st = cc in here {x = t} (rw (← e, ← r) refl)
    go (no n) q k = there (k q)

leaf_elim : (pool : Pool) (path : Path) → So (leaf pool path) → Each (λ t. Continues path t.path → ⊥) pool
unfolding leaf
leaf_elim pool path h = each_imp (λ t n c. not_elim n (test_intro (continues? same_label path t.path) c)) (every_elim _ pool h)

leaf_intro : (pool : Pool) (path : Path) → Each (λ t. Continues path t.path → ⊥) pool → So (leaf pool path)
unfolding leaf every
leaf_intro [] path nil = refl
leaf_intro (t ∷ ts) path (h & k) = and_intro (not_intro _ (λ e. h (test_elim (continues? same_label path t.path) e))) (leaf_intro ts path k)

-- a leaf's state, and that it is a leaf
pub leaf_state_lem : (pool : Pool) (path : Path) (st : State) → leaf_state pool path ≡ some st → (state_of pool path ≡ some st) × So (leaf pool path)
unfolding leaf_state ◌>>=◌ given
leaf_state_lem pool path st e = go (state_of pool path) (leaf pool path) refl refl e
  where
    go : (o : Option State) (b : Bool) → state_of pool path ≡ o → leaf pool path ≡ b → o >>= (λ st. given b >>= λ _. some st) ≡ some st → (state_of pool path ≡ some st) × So (leaf pool path)
    go none b q r e = no_some {o = none} refl e
    go (some s) true q r e = (q ∙ e, r)
    go (some s) false q r e = no_some {o = none} refl e

leaf_found : (pool : Pool) (path : Path) (st : State) → state_of pool path ≡ some st → So (leaf pool path) → leaf_state pool path ≡ some st
unfolding leaf_state ◌>>=◌ given
leaf_found pool path st e h = rw (e, h)

pub not_leaf : (pool : Pool) (path : Path) → leaf pool path ≡ false → leaf_state pool path ≡ none
unfolding leaf_state ◌>>=◌ given
not_leaf pool path h = rw h (go (state_of pool path))
  where
    go : (o : Option State) → o >>= (λ st. given false >>= λ _. some st) ≡ none
    go none = refl
    go (some s) = refl

pub begins_longer : (x y : Path) (l : Label) → Begins (x ▷ l) y → Continues x y
begins_longer x ε l e = let z : ◌≡◌ {A = ℕ} 0 1 = cc in absurd (omega arith)
begins_longer x (y ▷ a) l (inl e) = let q : x ≡ y = cc in rw q (begins_refl y)
begins_longer x (y ▷ a) l (inr h) = continues_begins x y (begins_longer x y l h)

-- no path of the pool begins with this one
abbrev pub New : Pool → Path → Type 0
New pool path = Each (λ t. Begins path t.path → ⊥) pool

pub leaf_new : (pool : Pool) (path : Path) (l : Label) → So (leaf pool path) → New pool (path ▷ l)
leaf_new pool path l h = each_imp (λ t n b. n (begins_longer path t.path l b)) (leaf_elim pool path h)

-- a leaf is continued by no path of the pool
pub leaf_alone : (pool : Pool) (path other : Path) (st : State) → So (leaf pool path) → state_of pool other ≡ some st → Continues path other → ⊥
leaf_alone pool path other st h e = each_at (leaf_elim pool path h) (state_member pool other st e)

pub new_state : (pool : Pool) (path : Path) → New pool path → leaf_state pool path ≡ none
new_state pool path h = go (leaf_state pool path) refl
  where
    go : (o : Option State) → leaf_state pool path ≡ o → o ≡ none
    go none e = refl
    go (some st) e = absurd (each_at h (state_member pool path st (leaf_state_lem pool path st e).0) (begins_refl path))

no_leaf : (pool : Pool) (path other : Path) (st : State) → state_of pool other ≡ some st → Continues path other → leaf pool path ≡ false
no_leaf pool path other st e c = go (leaf pool path) refl
  where
    go : (b : Bool) → leaf pool path ≡ b → b ≡ false
    go true q = absurd (leaf_alone pool path other st q e c)
    go false q = refl

leaf_both : (pool pool' : Pool) (x : Path) → state_of pool x ≡ state_of pool' x → leaf pool x ≡ leaf pool' x → leaf_state pool x ≡ leaf_state pool' x
unfolding leaf_state
leaf_both pool pool' x e f = rw (e, f)

pub longer_differs : (x : Path) (l : Label) → x ≡ x ▷ l → ⊥
unfolding size
longer_differs x l e = let q : size x ≡ size (x ▷ l) = ap size e in omega (arith, q)

-- ---- a path of the pool is lengthened

module _ (pool : Pool) (path : Path) (l : Label) (st : State) where
  abbrev longer : Thread
  longer = record { path = path ▷ l; state = st }

  longer_state : state_of (longer ∷ pool) (path ▷ l) ≡ some st
  unfolding state_of
  longer_state = go (same_path (path ▷ l) (path ▷ l))
    where
      go : (d : Dec (path ▷ l ≡ path ▷ l)) → elim d [ yes e ↦ some st | no n ↦ state_of pool (path ▷ l) ] ≡ some st
      go (yes e) = refl
      go (no n) = absurd (n refl)

  pub other_state : (x : Path) → x ≢ path ▷ l → state_of (longer ∷ pool) x ≡ state_of pool x
  unfolding state_of
  other_state x h = go (same_path (path ▷ l) x)
    where
      go : (d : Dec (path ▷ l ≡ x)) → elim d [ yes e ↦ some st | no n ↦ state_of pool x ] ≡ state_of pool x
      go (yes e) = absurd (h (sym e))
      go (no n) = refl

  longer-leaf : New pool (path ▷ l) → So (leaf (longer ∷ pool) (path ▷ l))
  unfolding size
  longer-leaf h = leaf_intro (longer ∷ pool) (path ▷ l) ((λ c. absurd (omega (arith, continues_size (path ▷ l) (path ▷ l) c))) & each_imp (λ t n c. n (continues_begins (path ▷ l) t.path c)) h)

  -- a path that another continues was a leaf no more
  pub shorter_leaf : leaf (longer ∷ pool) path ≡ false
  unfolding leaf every
  shorter_leaf = rw (test_intro (continues? same_label path (path ▷ l)) (begins_refl path))

  pub leaf_stays : (x : Path) → leaf pool x ≡ false → leaf (longer ∷ pool) x ≡ false
  unfolding leaf every
  leaf_stays x h = go (not (test (continues? same_label x (path ▷ l)))) h
    where
      go : (b : Bool) → every (λ t. not (test (continues? same_label x t.path))) pool ≡ false → b && every (λ t. not (test (continues? same_label x t.path))) pool ≡ false
      go true h = h
      go false h = refl

  leaf_same : (x : Path) → (Continues x (path ▷ l) → ⊥) → leaf (longer ∷ pool) x ≡ leaf pool x
  unfolding leaf every
  leaf_same x h = rw (not_intro (test (continues? same_label x (path ▷ l))) (λ t. h (test_elim (continues? same_label x (path ▷ l)) t)))

  -- another leaf is one as before
  other_leaf : (s : State) → state_of pool path ≡ some s → (x : Path) → x ≢ path → x ≢ path ▷ l → leaf_state (longer ∷ pool) x ≡ leaf_state pool x
  other_leaf s e x h k = go (continues? same_label x (path ▷ l))
    where
      go : (d : Dec (Continues x (path ▷ l))) → leaf_state (longer ∷ pool) x ≡ leaf_state pool x
      go (yes b) =
          let c : Continues x path = ⊎_elim (λ e. absurd (h e)) (λ c. c) (begins_cases x path b) in
          let f : leaf pool x ≡ false = no_leaf pool x path s e c in
          not_leaf (longer ∷ pool) x (leaf_stays x f) ∙ sym (not_leaf pool x f)
      go (no n) = leaf_both (longer ∷ pool) pool x (other_state x k) (leaf_same x n)

  -- the leaves after it
  pub leaves_after : (s : State) → state_of pool path ≡ some s → New pool (path ▷ l) → (x : Path)
      → leaf_state (longer ∷ pool) x ≡ put same_path (put same_path (leaf_state pool) path none) (path ▷ l) (some st) x
  leaves_after s e n x =
      decide same_path x (path ▷ l)
      (λ q. rw q (leaf_found (longer ∷ pool) (path ▷ l) st longer_state (longer-leaf n) ∙ sym (put_same same_path _ (path ▷ l) (some st))))
      (λ m.
      decide same_path x path
      (λ q. rw q (not_leaf (longer ∷ pool) path shorter_leaf ∙ sym (put_other same_path _ (path ▷ l) (some st) path (λ z. absurd (longer_differs path l z)) ∙ put_same same_path _ path none)))
      (λ k. other_leaf s e x k m ∙ sym (put_other same_path _ (path ▷ l) (some st) x m ∙ put_other same_path _ path none x k)))
