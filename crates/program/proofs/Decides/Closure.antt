-- Warshall's rounds: their grid is transitive through the rows below k, and has nothing that the first grid does not lead to.
use Prim.Native.Nat.{ℕ, zero, suc, ◌+◌, ◌-◌, ◌≤◌, ◌<◌}
use mathlib.Core.Bool.{Bool, true, false, ◌&&◌, ◌||◌, So, or-false, and-false}
use mathlib.Core.List.{List, [], ◌∷◌}
use mathlib.Core.Path.{◌≡◌, refl, sym, ◌∙◌, ap}
use mathlib.Core.Logic.{◌⊎◌, inl, inr, ⊎_elim}
use native.Mathlib.Omega.{arith}
use native.Mathlib.Decide.{dec_lt}
use native.Mathlib.Nat.{zero-add, add-zero, suc-add, add-suc}
use lib.ListN.{get_or, get_or-map}
use Rattle.program.specs.Closure.{Grid, cell, table, join, through, closure, grid, closed}
use Rattle.program.proofs.Test.{and_left, and_right, and_intro, or_right, or_cases, below}

get_d_join : (xs ys : List Bool) (s : ℕ) → get_or (join xs ys) s false ≡ (get_or xs s false || get_or ys s false)
unfolding join
get_d_join [] ys s = refl
get_d_join (x ∷ xs) [] s = sym (or-false (get_or (x ∷ xs) s false))
get_d_join (x ∷ xs) (y ∷ ys) zero = refl
get_d_join (x ∷ xs) (y ∷ ys) (suc s) = get_d_join xs ys s

pub cell-through : (k : ℕ) (g : Grid) (r s : ℕ) → cell (through k g) r s ≡ (cell g r s || (cell g r k && cell g k s))
unfolding cell through
cell-through k g r s = ap (λ bits. get_or bits s false) (get_or-map _ g r []) ∙ go (get_or (get_or g r []) k false)
  where
    go : (b : Bool) → get_or (elim b [ true ↦ join (get_or g r []) (get_or g k []) | false ↦ get_or g r [] ]) s false
        ≡ (get_or (get_or g r []) s false || (b && get_or (get_or g k []) s false))
    go true = get_d_join (get_or g r []) (get_or g k []) s
    go false = sym (or-false (get_or (get_or g r []) s false))

module _ (g : Grid) where
  -- from r to s in rounds below k
  abbrev pub Via : ℕ → ℕ → ℕ → Type 0
  Via k r s = So (cell (closure k g) r s)

  via_cases : (k r s : ℕ) → Via (suc k) r s → Via k r s ⊎ (Via k r k × Via k k s)
  unfolding closure
  via_cases k r s h = ⊎_elim inl (λ b. inr (search and_left, search and_right)) (or_cases _ _ (rw cell-through at h))

  via_keep : (k r s : ℕ) → Via k r s → Via (suc k) r s
  unfolding closure
  via_keep k r s h = rw (cell-through, h)

  via_join : (k r s : ℕ) → Via k r k → Via k k s → Via (suc k) r s
  unfolding closure
  via_join k r s h i = rw cell-through (or_right (cell (closure k g) r s) (and_intro h i))

  -- one round more: through its own row, and through a row that the rounds before go through
  through_last : (k r s : ℕ) → Via (suc k) r k → Via (suc k) k s → Via (suc k) r s
  through_last k r s h i = via_join k r s (⊎_elim (λ a. a) (λ a. a.0) (via_cases k r k h)) (⊎_elim (λ a. a) (λ a. a.1) (via_cases k k s i))

  through_earlier : (k m r s : ℕ) → ((r s : ℕ) → Via k r m → Via k m s → Via k r s) → Via (suc k) r m → Via (suc k) m s → Via (suc k) r s
  through_earlier k m r s before h i = go (via_cases k r m h) (via_cases k m s i)
    where
      go : Via k r m ⊎ (Via k r k × Via k k m) → Via k m s ⊎ (Via k m k × Via k k s) → Via (suc k) r s
      go (inl a) (inl b) = via_keep k r s (before r s a b)
      go (inl a) (inr (b, c)) = via_join k r s (before r k a b) c
      go (inr (a, b)) (inl c) = via_join k r s a (before k s b c)
      go (inr (a, b)) (inr (c, d)) = via_join k r s a d

  -- through any row below k
  pub via_trans : (k m r s : ℕ) → m < k → Via k r m → Via k m s → Via k r s
  via_trans zero m r s l h i = absurd (omega arith)
  via_trans (suc k) m r s l h i =
      ⊎_elim (λ e. through_last k r s (rw e at h) (rw e at i)) (λ b. through_earlier k m r s (λ r s. via_trans k m r s b) h i) (below k m l)

  pub via_first : (k r s : ℕ) → Via 0 r s → Via k r s
  via_first zero r s h = h
  via_first (suc k) r s h = via_keep k r s (via_first k r s h)

  -- and nothing else: what is closed under going on holds of it
  pub via_only : (R : ℕ → ℕ → Type 0) (n : ℕ) → ((r s : ℕ) → r < n → s < n → Via 0 r s → R r s) → ((r m s : ℕ) → R r m → R m s → R r s)
      → (k r s : ℕ) → k ≤ n → r < n → s < n → Via k r s → R r s
  via_only R n first on zero r s l a b h = first r s a b h
  via_only R n first on (suc k) r s l a b h =
      ⊎_elim (via_only R n first on k r s (omega arith) a b)
      (λ (i, j). on r k s (via_only R n first on k r k (omega arith) a (omega arith) i) (via_only R n first on k k s (omega arith) (omega arith) b j))
      (via_cases k r s h)

-- the cells of a table
table_past : {A : Type 0} (n : ℕ) (f : ℕ → A) (rest : List A) (j : ℕ) (d : A) → get_or (table n f rest) (n + j) d ≡ get_or rest j d
unfolding table
table_past zero f rest j d = rw zero-add
table_past (suc n) f rest j d = rw (suc-add, ← add-suc) (table_past n f (f n ∷ rest) (suc j) d)

table_at : {A : Type 0} (n : ℕ) (f : ℕ → A) (rest : List A) (i : ℕ) (d : A) → i < n → get_or (table n f rest) i d ≡ f i
unfolding table
table_at zero f rest i d l = absurd (omega arith)
table_at (suc n) f rest i d l = ⊎_elim (λ e. rw e (rw add-zero at (table_past n f (f n ∷ rest) 0 d))) (table_at n f (f n ∷ rest) i d) (below n i l)

pub grid-cell : (n : ℕ) (f : ℕ → ℕ → Bool) (r s : ℕ) → r < n → s < n → cell (grid n f) r s ≡ f r s
unfolding cell grid
grid-cell n f r s l m = rw table_at (table_at n (f r) [] s false m)

-- nothing is reached from a row past the last
pub closure_past : (n : ℕ) (f : ℕ → ℕ → Bool) (k r s : ℕ) → n ≤ r → cell (closure k (grid n f)) r s ≡ false
unfolding closure cell grid
closure_past n f zero r s l =
    let q : r ≡ n + (r - n) = omega arith in
    rw (q, table_past n (λ r. table n (f r) []) [] (r - n) [])
closure_past n f (suc k) r s l = cell-through k (closure k (grid n f)) r s ∙ rw (closure_past n f k r s l, closure_past n f k r k l)

-- and no row past the last is reached
pub closure_beside : (n : ℕ) (f : ℕ → ℕ → Bool) (k r s : ℕ) → n ≤ s → cell (closure k (grid n f)) r s ≡ false
unfolding closure cell grid
closure_beside n f zero r s l =
    let q : s ≡ n + (s - n) = omega arith in
    elim (dec_lt r n) [
      | yes m ↦ rw (table_at n (λ r. table n (f r) []) [] r [] m, q, table_past n (f r) [] (s - n) false)
      | no m ↦ closure_past n f 0 r s (omega arith)
    ]
closure_beside n f (suc k) r s l =
    cell-through k (closure k (grid n f)) r s
    ∙ rw (closure_beside n f k r s l, closure_beside n f k k s l) (and-false (cell (closure k (grid n f)) r k))

pub closed_past : (n : ℕ) (f : ℕ → ℕ → Bool) (r s : ℕ) → n ≤ r → closed n f r s ≡ false
unfolding closed
closed_past n f r s l = closure_past n f n r s l

-- by one or more steps of a relation
pub data Steps (f : ℕ → ℕ → Bool) (r : ℕ) : ℕ → Type 0 where
  one : {s : ℕ} → So (f r s) → Steps f r s
  more : {t s : ℕ} → Steps f r t → So (f t s) → Steps f r s

pub steps_trans : {f : ℕ → ℕ → Bool} {r s t : ℕ} → Steps f r s → Steps f s t → Steps f r t
steps_trans h (one e) = more h e
steps_trans h (more k e) = more (steps_trans h k) e

module _ (n : ℕ) (f : ℕ → ℕ → Bool) where
  first_round : (r s : ℕ) → r < n → s < n → Via (grid n f) 0 r s ≡ So (f r s)
  unfolding closure
  first_round r s l m = ap So (grid-cell n f r s l m)

  pub closed_sound : (r s : ℕ) → r < n → s < n → So (closed n f r s) → Steps f r s
  unfolding closed
  closed_sound r s l m h = via_only (grid n f) (Steps f) n (λ r s l m h. one (rw (first_round r s l m) at h)) (λ r m s. steps_trans) n r s (omega arith) l m h

  -- where every step leads below n
  module _ (bound : (r s : ℕ) → So (f r s) → s < n) where
    steps_bound : {r s : ℕ} → Steps f r s → s < n
    steps_bound {r} {s} (one e) = bound r s e
    steps_bound {s = s} (more {t = t} h e) = bound t s e

    step_via : (r s : ℕ) → r < n → So (f r s) → Via (grid n f) n r s
    step_via r s l e = via_first (grid n f) n r s (rw (first_round r s l (bound r s e)) e)

    pub closed_complete : (r s : ℕ) → r < n → Steps f r s → So (closed n f r s)
    unfolding closed
    closed_complete r s l (one e) = step_via r s l e
    closed_complete r s l (more {t = t} h e) = via_trans (grid n f) n t r s (steps_bound h) (closed_complete r t l h) (step_via t s (steps_bound h) e)
