-- Steps taken in a grid: one alone, one after the other, and those that each number gives.
use Prim.Native.Nat.{ℕ, ◌+◌, ◌*◌, ◌-◌, ◌≤◌, ◌<◌, max}
use native.Mathlib.Omega.{arith}
use native.Mathlib.Decide.{dec_lt, ℕ_discrete}
use native.Mathlib.Numerals.{add-one}
use mathlib.Core.Bool.{Bool, false, ◌||◌, So, and-false, or_comm, false≢true}
use mathlib.Core.Logic.{◌⊎◌, inl, inr, ⊎_elim}
use mathlib.Core.Path.{◌≡◌, refl, sym, ◌∙◌}
use lib.ListN.{length, get_or}
use lib.Dec.{eqb, ltb}
use borrow.Author.Tests.{eq-eqb, ne_eqb, eqb-true, lt-ltb, le-ltb}
use Rattle.program.specs.Test.{any}
use Rattle.program.specs.Closure.{closed}
use Rattle.program.proofs.Test.{and_left, and_right, or_left, or_right, or_cases, or_neither}
use Rattle.format.specs.Limits.{row_limit}
use Rattle.format.specs.Text.{Bytes}
use Rattle.grids.specs.Grid.{pair_byte, among, step, Within, Follows}
use Rattle.grids.specs.Rounds.{RowChanged}
use Rattle.grids.proofs.Keeping.{kept_all, kept_then}
use Rattle.grids.proofs.Steps.{closed_first, closed_on}

-- ---- a test of the first n rows alone

module _ (n : ℕ) where
  -- it holds of no pair if it holds of none of the first n rows
  pub among_none : (f : ℕ → ℕ → Bool) (r s : ℕ) → (r < n → s < n → f r s ≡ false) → among n f r s ≡ false
  unfolding among
  among_none f r s h =
      elim (dec_lt r n) [
        | yes l ↦
            elim (dec_lt s n) [
              | yes m ↦ rw (h l m, and-false, and-false)
              | no m ↦ rw (le-ltb s n (omega arith)) (and-false (ltb r n))
            ]
        | no l ↦ rw (le-ltb r n (omega arith))
      ]

  -- of the first n rows it is the test
  pub among_in : (f : ℕ → ℕ → Bool) (r s : ℕ) → r < n → s < n → among n f r s ≡ f r s
  unfolding among
  among_in f r s l m = rw (lt-ltb r n l, lt-ltb s n m)

-- ---- steps, one after the other

module _ {n : ℕ} where
  pub follows_none : {f : ℕ → ℕ → Bool} (grid : Bytes) → ((r s : ℕ) → r < n → s < n → f r s ≡ false) → Follows n f grid grid false
  follows_none grid h =
      record {
        kept = kept_all grid;
        within = λ g i w. w;
        grows = λ i. omega arith;
        marks = λ a b la lb t. absurd (false≢true (sym (h a b la lb) ∙ t));
        same = λ e i. refl;
        onward = λ e a b la lb t. absurd (false≢true (sym (h a b la lb) ∙ t));
      }

  pub follows_as : {f g : ℕ → ℕ → Bool} {a b : Bytes} {m : Bool} → ((r s : ℕ) → f r s ≡ g r s) → Follows n f a b m → Follows n g a b m
  follows_as {f} {g} e h =
      record {
        kept = h.kept;
        within = λ k i. h.within k (λ a b t. i a b (rw (e a b) at t));
        grows = h.grows;
        marks = λ a b la lb t. h.marks a b la lb (rw (e a b) t);
        same = h.same;
        onward = λ z a b la lb t. h.onward z a b la lb (rw (e a b) t);
      }

  pub follows_then : {f g : ℕ → ℕ → Bool} {a b c : Bytes} (x y : Bool) {m : Bool} → m ≡ (x || y) → Follows n f a b x → Follows n g b c y → Follows n (λ r s. f r s || g r s) a c m
  follows_then {f} {g} {a} {b} {c} x y {m} e h k =
      record {
        kept = kept_then h.kept k.kept;
        within = λ o i w. k.within o (λ r s t. i r s (or_right (f r s) t)) (h.within o (λ r s t. i r s (or_left (g r s) t)) w);
        grows = λ i. omega (arith, h.grows i, k.grows i);
        marks = λ r s lr ls t. ⊎_elim (λ u. omega (arith, h.marks r s lr ls u, k.grows (s * row_limit + r))) (λ u. k.marks r s lr ls u) (or_cases (f r s) (g r s) t);
        same = λ z i. let q = or_neither x y (sym e ∙ z) in k.same q.1 i ∙ h.same q.0 i;
        onward = λ z r s lr ls t q lq p.
            let o = or_neither x y (sym e ∙ z) in
            let same = k.same o.1 in
            ⊎_elim (λ u. rw (← (same (s * row_limit + q))) at (h.onward o.0 r s lr ls u q lq (rw (same (r * row_limit + q)) at p))) (λ u. k.onward o.1 r s lr ls u q lq p)
            (or_cases (f r s) (g r s) t);
      }

  -- what each number below k + 1 gives, k last
  pub follows_next : (f : ℕ → ℕ → ℕ → Bool) (k : ℕ) (x y : Bool) {m : Bool} {a b c : Bytes} → m ≡ (x || y) → Follows n (λ r s. any k λ q. f q r s) a b x → Follows n (f k) b c y
      → Follows n (λ r s. any (k + 1) λ q. f q r s) a c m
  unfolding any
  follows_next f k x y e h i = follows_as (λ r s. rw add-one (or_comm (any k λ q. f q r s) (f k r s))) (follows_then x y e h i)

-- ---- a single step

module _ (n a b : ℕ) where
  pub no_source : n ≤ a → (r s : ℕ) → r < n → s < n → step a b r s ≡ false
  unfolding step
  no_source l r s lr ls = rw (ne_eqb r a (omega arith))

  pub no_target : n ≤ b → (r s : ℕ) → r < n → s < n → step a b r s ≡ false
  unfolding step
  no_target l r s lr ls = rw (ne_eqb s b (omega arith)) (and-false (eqb r a))

  step_here : So (step a b a b)
  unfolding step
  step_here = rw (eq-eqb a a refl, eq-eqb b b refl)

  step_ends : (r s : ℕ) → So (step a b r s) → (r ≡ a) × (s ≡ b)
  unfolding step
  step_ends r s h = (eqb-true r a (and_left _ (eqb s b) h), eqb-true s b (and_right (eqb r a) _ h))

  module _ (few : n ≤ row_limit) (la : a < n) (lb : b < n) {grid way left : Bytes} {m : Bool}
      (is : (j : ℕ) → j < n → (j ≡ a → ⊥) → get_or way j 0 ≡ pair_byte grid j a) (itself : get_or way a 0 ≡ 1) (joined : RowChanged n grid b way left m) (size : length left ≡ length grid)
    where
      row_b : (r : ℕ) → r < n → pair_byte left r b ≡ max (pair_byte grid r b) (get_or way r 0)
      row_b r l = joined.joined.row r l

      elsewhere : (q : ℕ) → (q < b * row_limit) ⊎ (b * row_limit + n ≤ q) → get_or left q 0 ≡ get_or grid q 0
      elsewhere q (inl l) = joined.joined.only.below q l
      elsewhere q (inr l) = joined.joined.only.above q l

      -- a byte of the grid, by its place
      apart : (r s : ℕ) → r < row_limit → ((s ≡ b) → r < n → ⊥) → pair_byte left r s ≡ pair_byte grid r s
      apart r s lr ne =
          elim (dec_lt (s * row_limit + r) (b * row_limit)) [
            | yes l ↦ elsewhere _ (inl l)
            | no l ↦
                elim (dec_lt (s * row_limit + r) (b * row_limit + n)) [
                  | yes k ↦ let e : s ≡ b = omega arith in absurd (ne e (omega arith))
                  | no k ↦ elsewhere _ (inr (omega arith))
                ]
          ]

      -- who was reached from is reached from still, and the others by way of the step
      pub step_within : (g : ℕ → ℕ → Bool) → So (g a b) → Within n g grid → Within n g left
      step_within g t w r s lr ls =
          elim (ℕ_discrete s b) [
            | no d ↦ rw (apart r s lr (λ e _. d e)) (w r s lr ls)
            | yes e ↦
                elim (dec_lt r n) [
                  | no l ↦ rw (apart r s lr (λ _ k. l k)) (w r s lr ls)
                  | yes l ↦ rw e (ends r l (w r b lr (omega arith)))
                ]
          ]
        where
          via : (r : ℕ) → r < n → (get_or way r 0 ≡ 0) ⊎ ((get_or way r 0 ≡ 1) × So (closed n g r b))
          via r l =
              elim (ℕ_discrete r a) [
                | yes e ↦ inr (rw e itself, rw e (closed_first n g a b la lb t))
                | no d ↦
                    ⊎_elim (λ z. inl (is r l d ∙ z)) (λ (o, h). inr (is r l d ∙ o, closed_on n g r a b la h (closed_first n g a b la lb t)))
                    (w r a (omega arith) (omega arith))
              ]

          ends : (r : ℕ) → r < n → (pair_byte grid r b ≡ 0) ⊎ ((pair_byte grid r b ≡ 1) × So (closed n g r b)) → (pair_byte left r b ≡ 0) ⊎ ((pair_byte left r b ≡ 1) × So (closed n g r b))
          ends r l own = both own (via r l)
            where
              both : (pair_byte grid r b ≡ 0) ⊎ ((pair_byte grid r b ≡ 1) × So (closed n g r b)) → (get_or way r 0 ≡ 0) ⊎ ((get_or way r 0 ≡ 1) × So (closed n g r b))
                  → (pair_byte left r b ≡ 0) ⊎ ((pair_byte left r b ≡ 1) × So (closed n g r b))
              both (inl x) (inl y) = inl (row_b r l ∙ rw (x, y))
              both (inl x) (inr (y, h)) = inr (row_b r l ∙ rw (x, y), h)
              both (inr (x, h)) (inl y) = inr (row_b r l ∙ rw (x, y), h)
              both (inr (x, h)) (inr (y, k)) = inr (row_b r l ∙ rw (x, y), h)

      step_grows : (i : ℕ) → get_or grid i 0 ≤ get_or left i 0
      step_grows i =
          elim (dec_lt i (b * row_limit)) [
            | yes l ↦ omega (arith, elsewhere i (inl l))
            | no l ↦
                elim (dec_lt i (b * row_limit + n)) [
                  | yes k ↦
                      let r = i - b * row_limit in
                      let e : b * row_limit + r ≡ i = omega arith in
                      rw e at (larger (b * row_limit + r) (get_or way r 0) (row_b r (omega arith)))
                  | no k ↦ omega (arith, elsewhere i (inr (omega arith)))
                ]
          ]
        where
          larger : (q v : ℕ) → get_or left q 0 ≡ max (get_or grid q 0) v → get_or grid q 0 ≤ get_or left q 0
          larger q v e = omega (arith, e)

      pub follows_step : Follows n (step a b) grid left m
      follows_step =
          record {
            kept = record { same_length = size; past = λ i l. elsewhere i (inr (omega arith)) };
            within = λ g i w. step_within g (i a b step_here) w;
            grows = step_grows;
            marks = λ r s lr ls t. let (d, e) = step_ends r s t in rw (d, e) marked;
            same = joined.same;
            onward = λ z r s lr ls t q lq o. let (d, e) = step_ends r s t in rw e (onward z q lq (rw d at o));
          }
        where
          marked : 0 < pair_byte left a b
          marked = omega (arith, row_b a la, itself)

          onward : m ≡ false → (q : ℕ) → q < n → 0 < pair_byte left q a → 0 < pair_byte left q b
          onward z q lq o =
              elim (ℕ_discrete q a) [
                | yes e ↦ rw e marked
                | no d ↦ omega (arith, row_b q lq, is q lq d, joined.same z (a * row_limit + q))
              ]
