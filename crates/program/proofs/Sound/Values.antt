-- Values and environments that the table V covers: each name's set holds what its value is abstractly.
use Prim.Native.Nat.{ℕ, ◌<◌}
use mathlib.Core.Bool.{Bool, true, false, So}
use Rattle.std.specs.Prelude.{Some as some}
use mathlib.Core.Path.{◌≡◌, refl}
use lib.ListN.{length}
use lib.Dec.{eqb}
use borrow.Author.Tests.{eqb-true}
use Rattle.program.specs.Flow.{u, row, Set, Table, for_each, for_each_chan, lies}
use Rattle.program.specs.Maybe.{◌>>=◌, when}
use Rattle.program.specs.Program.{Program, chan_at}
use Rattle.program.specs.Run.{Value, unit, channel, closure, Env, empty, extend, chan_name, lookup, channel_of, closure_of, closure_at}
use Rattle.program.specs.Test.{◌⇒◌}
use Rattle.program.proofs.Maybe.{Found, nothing, found, found_bind, found_at, found_when}
use Rattle.program.proofs.Sound.Shape.{chan_at_lem}
use Rattle.program.proofs.Test.{and_left, and_right, implies_elim, all_elim}

module _ (p : Program) where
  -- the set holds what the value is abstractly: an instance is of a chan row that binds its name
  abbrev pub In : Set → Value → Type 0
  In s unit = So (s u)
  In s (channel i) = (c : ℕ) × (chan_at p c ≡ some (chan_name i)) × So (s (row c))
  In s (closure r env) = So (s (row r))

  pub each_elim : (s : Set) (f : ℕ → Bool) → So (for_each p s f) → (r : ℕ) → r < length p → So (s (row r)) → So (f r)
  unfolding for_each
  each_elim s f t r l m = implies_elim (f r) (all_elim (length p) (λ r. s (row r) ⇒ f r) t r l) m

  pub each_chan_elim : (s : Set) (f : ℕ → Bool) → So (for_each_chan p s f) → (n c : ℕ) → chan_at p c ≡ some n → So (s (row c)) → So (f c)
  unfolding for_each_chan
  each_chan_elim s f t n c e m = found_at e (found_when (λ n. f c) (chan_at p c) (each_elim s (λ c. when (chan_at p c) (λ n. f c)) t c (chan_at_lem p n c e).0 m))

module _ (p : Program) (flow : Table) where
  abbrev mutual
    pub CoversValue : Value → Type 0
    CoversValue unit = Unit {0}
    CoversValue (channel i) = Unit {0}
    CoversValue (closure r env) = (r < length p) × CoversEnv env

    pub CoversEnv : Env → Type 0
    CoversEnv empty = Unit {0}
    CoversEnv (extend env x v) = CoversEnv env × (In p (flow x) v × CoversValue v)

  -- a value that a name's set holds, all of its own names covered too
  abbrev pub Covered : ℕ → Value → Type 0
  Covered x v = In p (flow x) v × CoversValue v

  pub lookup_covered : (env : Env) (x : ℕ) → CoversEnv env → Found (Covered x) (lookup env x)
  unfolding lookup
  lookup_covered empty x h = nothing
  lookup_covered (extend env y v) x (h, c) = go (eqb x y) (eqb-true x y) (lookup_covered env x h)
    where
      go : (t : Bool) → (So t → x ≡ y) → Found (Covered x) (lookup env x) → Found (Covered x) (elim t [ true ↦ some v | false ↦ lookup env x ])
      go true e k = found {a = v} (rw (e refl) c)
      go false e k = k

  -- a closure that a name has: its row is in the name's set
  pub closure_covered : (env : Env) (x : ℕ) → CoversEnv env
      → Found (λ k. So (flow x (row k.0)) × (k.0 < length p) × CoversEnv k.1) (closure_at env x)
  unfolding closure_at closure_of
  closure_covered env x h = found_bind (lookup_covered env x h) λ v c. only v c
    where
      only : (v : Value) → Covered x v → Found (λ k. So (flow x (row k.0)) × (k.0 < length p) × CoversEnv k.1) (closure_of v)
      only unit c = nothing
      only (channel i) c = nothing
      only (closure r env) (m, c) = found (m, c.0, c.1)

  -- an instance that a name has: a chan row that binds its name is in the name's set
  pub channel_covered : (env : Env) (x : ℕ) → CoversEnv env
      → Found (λ i. (c : ℕ) × (chan_at p c ≡ some (chan_name i)) × So (flow x (row c))) (lookup env x >>= channel_of)
  unfolding channel_of
  channel_covered env x h = found_bind (lookup_covered env x h) λ v c. only v c
    where
      only : (v : Value) → Covered x v → Found (λ i. (c : ℕ) × (chan_at p c ≡ some (chan_name i)) × So (flow x (row c))) (channel_of v)
      only unit c = nothing
      only (channel i) (m, c) = found m
      only (closure r env) c = nothing

  -- what lies in a set is held by it
  pub lies_elim : (s t : Set) → So (lies p s t) → (v : Value) → CoversValue v → In p s v → In p t v
  unfolding lies
  lies_elim s t h unit c m = implies_elim (t u) (search and_left) m
  lies_elim s t h (channel i) c (k, e, m) = (k, e, each_elim p s (λ r. t (row r)) (search and_right) k (chan_at_lem p (chan_name i) k e).0 m)
  lies_elim s t h (closure r env) (l, c) m = each_elim p s (λ r. t (row r)) (search and_right) r l m
