-- The fault of a set, member by member, is the fault of the set: 3 wins over 5, and the members rise where each is above the one before it.
use Prim.Native.Nat.{ℕ, zero, suc, ◌+◌, ◌<◌}
use mathlib.Core.Bool.{Bool, true, false, not, ◌&&◌, So}
use mathlib.Core.List.{List, [], ◌∷◌}
use Rattle.std.specs.Prelude.{None as none, Some as some}
use mathlib.Core.Path.{◌≡◌, refl, ◌∙◌}
use native.Mathlib.Omega.{arith}
use native.Mathlib.Decide.{dec_lt}
use native.Mathlib.Numerals.{add-one}
use lib.Dec.{ltb, leb}
use borrow.Author.Tests.{lt-ltb, le-ltb, le-leb, lt-leb, ltb-true}
use Rattle.program.specs.Test.{pick}
use Rattle.program.specs.Each.{every}
use Rattle.program.proofs.Test.{and_left, and_right, and_intro}
use Rattle.format.specs.Limits.{row_limit}
use Rattle.format.specs.Read.{set_rows, rising}
use Rattle.calls.specs.Layout.{member_limit}
use Rattle.read_sets.specs.declared.SetFault.TheVariants.{AboveLimit, NotRising}
use Rattle.read_sets.specs.Sets.{set_fault, fault_after, fault_from}

-- ---- 3

below : List ℕ → Bool
below ms = every (λ r. ltb r row_limit) (set_rows ms)

below_none : below [] ≡ true
unfolding below every set_rows
below_none = refl

below_next : (m : ℕ) (ms : List ℕ) → below (m ∷ ms) ≡ (not (leb member_limit m) && below ms)
unfolding below every set_rows
below_next zero ms = refl
below_next (suc r) ms = elim (dec_lt r row_limit) [
  | yes l ↦ rw (lt-ltb r row_limit l, lt-leb member_limit (suc r) (omega arith))
  | no g ↦ rw (le-ltb r row_limit (omega arith), le-leb member_limit (suc r) (omega arith))
]

-- ---- 5

-- each member is at least the one before it and 1, the first at least a number
rises_from : ℕ → List ℕ → Bool
rises_from least [] = true
rises_from least (m ∷ ms) = leb least m && rises_from (m + 1) ms

every_above : (x y : ℕ) (ms : List ℕ) → x < y → So (every (ltb y) ms) → So (every (ltb x) ms)
unfolding every
every_above x y [] l h = refl
every_above x y (m ∷ ms) l h =
    let k : x < m = omega (arith, ltb-true y m (and_left (ltb y m) (every (ltb y) ms) h)) in
    and_intro (lt-ltb x m k) (every_above x y ms l (and_right (ltb y m) (every (ltb y) ms) h))

rises_above : (x : ℕ) (ms : List ℕ) → rises_from (x + 1) ms ≡ (every (ltb x) ms && rising ms)
unfolding rises_from every rising
rises_above x [] = refl
rises_above x (m ∷ ms) = rw (add-one x, rises_above m ms) (go (ltb x m) (every (ltb m) ms) refl refl)
  where
    no_and : (b : Bool) → false ≡ (b && false)
    no_and true = refl
    no_and false = refl

    go : (p q : Bool) → ltb x m ≡ p → every (ltb m) ms ≡ q → (p && (q && rising ms)) ≡ (p && every (ltb x) ms && (q && rising ms))
    go true true a b = rw (every_above x m ms (ltb-true x m a) b)
    go true false a b = no_and (every (ltb x) ms)
    go false q a b = refl

rises : (ms : List ℕ) → rises_from 0 ms ≡ rising ms
unfolding rises_from rising
rises [] = refl
rises (m ∷ ms) = rw (le-leb 0 m (omega arith)) (rises_above m ms)

-- ---- the fold

from_above : (least : ℕ) (ms : List ℕ) → fault_from (some AboveLimit) least ms ≡ (some AboveLimit)
unfolding fault_from fault_after
from_above least [] = refl
from_above least (m ∷ ms) = go (leb member_limit m) (leb least m) (from_above (m + 1) ms)
  where
    go : (p q : Bool) → fault_from (some AboveLimit) (m + 1) ms ≡ (some AboveLimit) → fault_from (pick p (some AboveLimit) (pick q (some AboveLimit) (some AboveLimit))) (m + 1) ms ≡ (some AboveLimit)
    go true q h = h
    go false true h = h
    go false false h = h

from_falling : (least : ℕ) (ms : List ℕ) → fault_from (some NotRising) least ms ≡ pick (below ms) (some NotRising) (some AboveLimit)
unfolding fault_from fault_after
from_falling least [] = rw below_none
from_falling least (m ∷ ms) = rw (below_next m ms) (go (leb member_limit m) (leb least m) (from_falling (m + 1) ms))
  where
    go : (p q : Bool) → fault_from (some NotRising) (m + 1) ms ≡ pick (below ms) (some NotRising) (some AboveLimit)
        → fault_from (pick p (some AboveLimit) (pick q (some NotRising) (some NotRising))) (m + 1) ms ≡ pick (not p && below ms) (some NotRising) (some AboveLimit)
    go true q h = from_above (m + 1) ms
    go false true h = h
    go false false h = h

from_nothing : (least : ℕ) (ms : List ℕ) → fault_from none least ms ≡ pick (below ms) (pick (rises_from least ms) none (some NotRising)) (some AboveLimit)
unfolding fault_from fault_after rises_from
from_nothing least [] = rw below_none
from_nothing least (m ∷ ms) = rw (below_next m ms) (go (leb member_limit m) (leb least m) (from_nothing (m + 1) ms))
  where
    go : (p q : Bool) → fault_from none (m + 1) ms ≡ pick (below ms) (pick (rises_from (m + 1) ms) none (some NotRising)) (some AboveLimit)
        → fault_from (pick p (some AboveLimit) (pick q none (some NotRising))) (m + 1) ms ≡ pick (not p && below ms) (pick (q && rises_from (m + 1) ms) none (some NotRising)) (some AboveLimit)
    go true q h = from_above (m + 1) ms
    go false true h = h
    go false false h = from_falling (m + 1) ms

pub fault_is : (ms : List ℕ) → fault_from none 0 ms ≡ set_fault ms
unfolding set_fault below
fault_is ms = from_nothing 0 ms ∙ rw (rises ms)
