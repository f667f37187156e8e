-- A row of the grid copied and joined into another byte by byte, and a round over all rows.
use Prim.Native.Nat.{ℕ, ◌+◌, ◌*◌, ◌<◌, ◌≤◌, max}
use native.Mathlib.Omega.{arith}
use native.Mathlib.Decide.{dec_lt, ℕ_discrete}
use mathlib.Core.Bool.{false, false≢true}
use mathlib.Core.Path.{◌≡◌, refl, sym, ap, ◌∙◌}
use lib.ListN.{length, get_or, set}
use lib.Seq.{get_or-set_same, get_or-set_other}
use lib.Dec.{ltb}
use borrow.Author.Tests.{eq-eqb, ne_eqb, lt-ltb}
use Rattle.program.specs.Test.{pick}
use Rattle.format.specs.Limits.{row_limit}
use Rattle.format.specs.Text.{Bytes}
use Rattle.grids.specs.Grid.{row_byte}
use Rattle.grids.specs.Rounds.{RowIs, RowJoined, RowChanged, passed, RowPassed, AllPassed}

-- ---- a row joined into row i, up to column j

pub record Joined (grid : Bytes) (i : ℕ) (way : Bytes) (j : ℕ) (left : Bytes) : Type 0 where
  pub below : (q : ℕ) → q < i * row_limit → get_or left q 0 ≡ get_or grid q 0
  pub above : (q : ℕ) → i * row_limit + j ≤ q → get_or left q 0 ≡ get_or grid q 0
  pub row : (c : ℕ) → c < j → row_byte left i c ≡ max (row_byte grid i c) (get_or way c 0)

pub joined_none : (grid : Bytes) (i : ℕ) (way : Bytes) → Joined grid i way 0 grid
joined_none grid i way = record { below = λ q l. refl; above = λ q l. refl; row = λ c l. absurd (omega arith) }

pub joined_more : {grid way left : Bytes} {i j : ℕ} → Joined grid i way j left → i * row_limit + j < length left
    → Joined grid i way (j + 1) (set left (i * row_limit + j) (max (row_byte left i j) (get_or way j 0)))
joined_more {way = way} {left} {i} {j} h l =
    let at = i * row_limit + j in
    record {
      below = λ q lq. get_or-set_other left at q _ 0 (omega arith) ∙ h.below q lq;
      above = λ q lq. get_or-set_other left at q _ 0 (omega arith) ∙ h.above q (omega arith);
      row = λ c lc.
          elim (ℕ_discrete c j) [
            | yes e ↦ rw e (get_or-set_same left at _ 0 l ∙ ap (λ (x : ℕ). max x (get_or way j 0)) (h.above at (omega arith)))
            | no e ↦ get_or-set_other left at (i * row_limit + c) _ 0 (omega arith) ∙ h.row c (omega arith)
          ];
    }

-- the same, with what changed so far: 0 only where no byte was altered
pub record JoinedSo (grid : Bytes) (i : ℕ) (way : Bytes) (j : ℕ) (left : Bytes) (changed : ℕ) : Type 0 where
  pub joined : Joined grid i way j left
  pub same : changed ≡ 0 → (q : ℕ) → get_or left q 0 ≡ get_or grid q 0

pub so_none : (grid : Bytes) (i : ℕ) (way : Bytes) → JoinedSo grid i way 0 grid 0
so_none grid i way = record { joined = joined_none grid i way; same = λ e q. refl }

pub so_more : {grid way left : Bytes} {i j x : ℕ} (y : ℕ) {z v : ℕ} → JoinedSo grid i way j left x → i * row_limit + j < length left → y ≡ pick (ltb (row_byte left i j) (get_or way j 0)) 1 0 → z ≡ max x y
    → v ≡ max (row_byte left i j) (get_or way j 0) → JoinedSo grid i way (j + 1) (set left (i * row_limit + j) v) z
so_more {grid} {way} {left} {i} {j} {x} y {z} {v} h l e m u =
    let at = i * row_limit + j in
    record {
      joined = rw u (joined_more h.joined l);
      same = λ o q.
          elim (ℕ_discrete q at) [
            | yes d ↦ let y0 : y ≡ 0 = omega arith in rw d (get_or-set_same left at v 0 l ∙ u ∙ small (row_byte left i j) (get_or way j 0) (sym e ∙ y0) ∙ h.same (omega arith) at)
            | no d ↦ get_or-set_other left at q v 0 d ∙ h.same (omega arith) q
          ];
    }
  where
    small : (a b : ℕ) → ◌≡◌ {A = ℕ} (pick (ltb a b) 1 0) 0 → max a b ≡ a
    small a b e =
        elim (dec_lt a b) [
          | yes l ↦ let q : ◌≡◌ {A = ℕ} 1 0 = sym (rw (lt-ltb a b l)) ∙ e in absurd (omega arith)
          | no g ↦ omega arith
        ]

pub joined_all : (n : ℕ) {grid way left : Bytes} {i j : ℕ} → Joined grid i way j left → j ≡ n → RowJoined n grid i way left
joined_all n h e =
    record {
      only = record { below = h.below; above = λ q l. h.above q (omega arith) };
      row = λ c l. h.row c (omega arith);
    }

pub so_all : (n : ℕ) {grid way left : Bytes} {i j m : ℕ} → JoinedSo grid i way j left m → j ≡ n → RowChanged n grid i way left (ltb 0 m)
so_all n {m = m} h e = record { joined = joined_all n h.joined e; same = λ z. h.same (none m z) }
  where
    none : (m : ℕ) → ltb 0 m ≡ false → m ≡ 0
    none m z = elim (dec_lt 0 m) [ yes l ↦ absurd (false≢true (sym z ∙ lt-ltb 0 m l)) | no g ↦ omega arith ]

-- ---- row i by way of row k, where it reaches that

module _ (n : ℕ) (grid : Bytes) (i k : ℕ) (way : Bytes) where
  pub row_left : row_byte grid i k ≡ 0 → RowPassed n grid i k way grid
  unfolding passed
  row_left e =
      record {
        only = record { below = λ q l. refl; above = λ q l. refl };
        row = λ j l. rw (eq-eqb (row_byte grid i k) 0 e);
      }

  pub row_passed : (left : Bytes) → (row_byte grid i k ≡ 0 → ⊥) → RowJoined n grid i way left → RowPassed n grid i k way left
  unfolding passed
  row_passed left ne h = record { only = h.only; row = λ j l. rw (ne_eqb (row_byte grid i k) 0 ne) (h.row j l) }

-- ---- the rows below i

pub record PassedTo (n : ℕ) (grid : Bytes) (k i : ℕ) (left : Bytes) : Type 0 where
  pub done : (r j : ℕ) → r < i → j < n → row_byte left r j ≡ passed (row_byte grid r k) (row_byte grid r j) (row_byte grid k j)
  pub beside : (r j : ℕ) → r < i → n ≤ j → j < row_limit → row_byte left r j ≡ row_byte grid r j
  pub past : (q : ℕ) → i * row_limit ≤ q → get_or left q 0 ≡ get_or grid q 0

pub passed_none : (n : ℕ) (grid : Bytes) (k : ℕ) → PassedTo n grid k 0 grid
passed_none n grid k = record { done = λ r j l m. absurd (omega arith); beside = λ r j l m b. absurd (omega arith); past = λ q l. refl }

pub passed_more : {n k i : ℕ} {grid way left next : Bytes} → n ≤ row_limit → k < n → PassedTo n grid k i left → RowIs row_limit grid k way
    → RowPassed n left i k way next → PassedTo n grid k (i + 1) next
passed_more {k = k} {i} ln lk h is p =
    record {
      done = λ r j l m.
          elim (ℕ_discrete r i) [
            | yes e ↦
                rw e (p.row j m ∙ rw (h.past (i * row_limit + j) (omega arith), h.past (i * row_limit + k) (omega arith), is.bytes j (omega arith)))
            | no e ↦ p.only.below (r * row_limit + j) (omega arith) ∙ h.done r j (omega arith) m
          ];
      beside = λ r j l m b.
          elim (ℕ_discrete r i) [
            | yes e ↦ rw e (p.only.above (i * row_limit + j) (omega arith) ∙ h.past (i * row_limit + j) (omega arith))
            | no e ↦ p.only.below (r * row_limit + j) (omega arith) ∙ h.beside r j (omega arith) m b
          ];
      past = λ q l. p.only.above q (omega arith) ∙ h.past q (omega arith);
    }

pub passed_all : (n : ℕ) {grid left : Bytes} {k i : ℕ} → PassedTo n grid k i left → i ≡ n → AllPassed n grid k left
passed_all n h e =
    record {
      in_grid = λ r j l m. h.done r j (omega arith) m;
      beside = λ r j l m b. h.beside r j (omega arith) m b;
      past = λ q l. h.past q (omega arith);
    }
