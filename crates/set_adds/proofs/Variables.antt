-- The bytes of a store's sets by place and member.
use Prim.Native.Nat.{ℕ, ◌+◌, ◌<◌, ◌≤◌}
use native.Mathlib.Omega.{arith}
use native.Mathlib.Decide.{dec_lt}
use mathlib.Core.Bool.{So, false≢true}
use mathlib.Core.Path.{◌≡◌, ap}
use mathlib.Core.Logic.{◌↔◌}
use lib.Dec.{ltb, leb}
use borrow.Author.Tests.{lt-ltb, ltb-true, lt-leb, le-leb}
use Rattle.program.specs.Test.{pick}
use Rattle.program.specs.Flow.{Abstract, Table}
use Rattle.format.specs.Limits.{row_limit}
use Rattle.format.specs.Text.{Bytes, byte_at}
use Rattle.format.specs.Document.{member}
use Rattle.calls.specs.Layout.{member_limit, rows_size, flow_at, comm_at, claims_start}
use Rattle.tables.specs.Tables.{flag_at, flow_flag, comm_flag, store_flow, store_comm}
use Rattle.set_adds.specs.declared.Variable.{Variable}
use Rattle.set_adds.specs.Adding.{set_at, position_of, number_of, Inside}

-- ---- whether a member is in a set of the store

pub record Has (s : Bytes) (place : Variable) (a : Abstract) : Type 0 where
  pub low : number_of place < row_limit
  pub few : member a < member_limit
  pub byte : 0 < byte_at s (position_of place + member a)

flag_has : (s : Bytes) (f : ℕ → ℕ) (n m : ℕ) → So (ltb 0 (flag_at s f n m)) ↔ ((n < row_limit) × (m < member_limit) × (0 < byte_at s (f n + m)))
unfolding flag_at
flag_has s f n m = (there, λ (l, k, b). rw (lt-leb row_limit n l, lt-leb member_limit m k) (lt-ltb 0 _ b))
  where
    there : So (ltb 0 (pick (leb row_limit n) 0 (pick (leb member_limit m) 0 (byte_at s (f n + m))))) → (n < row_limit) × (m < member_limit) × (0 < byte_at s (f n + m))
    there t =
        elim (dec_lt n row_limit) [
          | yes l ↦ elim (dec_lt m member_limit) [
            | yes k ↦ (l, k, ltb-true 0 _ (rw (lt-leb row_limit n l, lt-leb member_limit m k) at t))
            | no g ↦ absurd (false≢true (rw (lt-leb row_limit n l, le-leb member_limit m (omega arith)) at t))
          ]
          | no g ↦ absurd (false≢true (rw (le-leb row_limit n (omega arith)) at t))
        ]

pub has_iff : (s : Bytes) (place : Variable) (a : Abstract) → So (set_at place (store_flow s) (store_comm s) a) ↔ Has s place a
unfolding set_at store_flow store_comm flow_flag comm_flag position_of number_of
has_iff s (Variable.Name n) a = (
  λ t. let (l, k, b) = (flag_has s flow_at n (member a)).0 t in record { low = l; few = k; byte = b },
  λ h. (flag_has s flow_at n (member a)).1 (h.low, h.few, h.byte),
)
has_iff s (Variable.Channel n) a = (
  λ t. let (l, k, b) = (flag_has s comm_at n (member a)).0 t in record { low = l; few = k; byte = b },
  λ h. (flag_has s comm_at n (member a)).1 (h.low, h.few, h.byte),
)

-- ---- places

-- different members stand at different positions
pub apart : (p q : Variable) (i j : ℕ) → number_of p < row_limit → number_of q < row_limit → i < member_limit → j < member_limit → position_of p + i ≡ position_of q + j → (p ≡ q) × (i ≡ j)
unfolding position_of number_of
apart (Variable.Name n) (Variable.Name m) i j l k h g e = let q : n ≡ m = omega arith in (ap Variable.Name q, omega arith)
apart (Variable.Name n) (Variable.Channel m) i j l k h g e = absurd (omega arith)
apart (Variable.Channel n) (Variable.Name m) i j l k h g e = absurd (omega arith)
apart (Variable.Channel n) (Variable.Channel m) i j l k h g e = let q : n ≡ m = omega arith in (ap Variable.Channel q, omega arith)

-- a set stands behind the rows and before the claims
pub behind_rows : (p : Variable) → rows_size ≤ position_of p
unfolding position_of
behind_rows (Variable.Name n) = omega arith
behind_rows (Variable.Channel n) = omega arith

pub before_claims : (p : Variable) → number_of p < row_limit → position_of p + member_limit ≤ claims_start
unfolding position_of number_of
before_claims (Variable.Name n) l = omega arith
before_claims (Variable.Channel n) l = omega arith

-- the sets of a store lie in those of tables
pub inside_iff : (flow comm : Table) (s : Bytes) → Inside flow comm s ↔ ((p : Variable) (a : Abstract) → Has s p a → So (set_at p flow comm a))
unfolding Inside set_at
inside_iff flow comm s = (there, λ h. (λ n a t. h (Variable.Name n) a ((has_iff s (Variable.Name n) a).0 t), λ c a t. h (Variable.Channel c) a ((has_iff s (Variable.Channel c) a).0 t)))
  where
    there : ((n : ℕ) (a : Abstract) → So (store_flow s n a) → So (flow n a)) × ((c : ℕ) (a : Abstract) → So (store_comm s c a) → So (comm c a)) → (p : Variable) (a : Abstract) → Has s p a
        → So (set_at p flow comm a)
    there (f, c) (Variable.Name n) a h = unfold set_at in f n a ((has_iff s (Variable.Name n) a).1 h)
    there (f, c) (Variable.Channel n) a h = unfold set_at in c n a ((has_iff s (Variable.Channel n) a).1 h)
