-- The rounds over a grid that shows a relation are those of its closure: inside the first n rows by the round, elsewhere nothing is reached.
use Prim.Native.Nat.{ℕ, suc, ◌+◌, ◌*◌, ◌<◌, ◌≤◌}
use native.Mathlib.Omega.{arith}
use native.Mathlib.Numerals.{add-one}
use native.Mathlib.Decide.{dec_lt}
use mathlib.Core.Bool.{Bool, true, false, ◌&&◌, ◌||◌}
use mathlib.Core.Path.{◌≡◌, refl, sym, ◌∙◌}
use lib.ListN.{length}
use Rattle.program.specs.Test.{pick}
use Rattle.program.specs.Closure.{cell, closure, grid, closed}
use Rattle.program.proofs.Decides.Closure.{cell-through, grid-cell, closure_past, closure_beside}
use Rattle.format.specs.Limits.{row_limit}
use Rattle.format.specs.Text.{Bytes}
use Rattle.grids.specs.Grid.{pair_byte, Kept, Shows, among, Closes}
use Rattle.grids.specs.Rounds.{passed, AllPassed}
use Rattle.grids.proofs.Keeping.{kept_all, kept_then}
use Rattle.grids.proofs.Stepping.{among_in, among_none}

-- ---- the rounds below k

pub record ClosesTo (n k : ℕ) (bytes left : Bytes) : Type 0 where
  pub kept : Kept bytes left
  pub closes : (f : ℕ → ℕ → Bool) → Shows (among n f) bytes → Shows (cell (closure k (grid n f))) left

bits_passed : (a b c : Bool) → passed (pick a 1 0) (pick b 1 0) (pick c 1 0) ≡ pick (b || (c && a)) 1 0
unfolding passed
bits_passed true true true = refl
bits_passed true true false = refl
bits_passed true false true = refl
bits_passed true false false = refl
bits_passed false true c = refl
bits_passed false false true = refl
bits_passed false false false = refl

module _ (n : ℕ) where
  -- the rounds show nothing but of the first n rows
  outside : (f : ℕ → ℕ → Bool) (k r s : ℕ) → (r < n → s < n → ⊥) → cell (closure k (grid n f)) r s ≡ false
  outside f k r s h =
      elim (dec_lt r n) [
        | yes l ↦
            elim (dec_lt s n) [
              | yes m ↦ absurd (h l m)
              | no m ↦ closure_beside n f k r s (omega arith)
            ]
        | no l ↦ closure_past n f k r s (omega arith)
      ]

  first_round : (f : ℕ → ℕ → Bool) (r s : ℕ) → among n f r s ≡ cell (closure 0 (grid n f)) r s
  unfolding closure
  first_round f r s =
      elim (dec_lt r n) [
        | yes l ↦
            elim (dec_lt s n) [
              | yes m ↦ among_in n f r s l m ∙ sym (grid-cell n f r s l m)
              | no m ↦ among_none n f r s (λ _ i. absurd (m i)) ∙ sym (outside f 0 r s (λ _ i. m i))
            ]
        | no l ↦ among_none n f r s (λ i _. absurd (l i)) ∙ sym (outside f 0 r s (λ i _. l i))
      ]

  pub closes_none : (bytes : Bytes) → ClosesTo n 0 bytes bytes
  closes_none bytes = record { kept = kept_all bytes; closes = λ f h r s lr ls. rw (← (first_round f r s)) (h r s lr ls) }

  -- a byte that is of no two of the first n rows stays in a round
  round_keeps : {k : ℕ} {left next : Bytes} → AllPassed n left k next → (r s : ℕ) → r < row_limit → (r < n → s < n → ⊥) → pair_byte next r s ≡ pair_byte left r s
  round_keeps p r s lr h =
      elim (dec_lt s n) [
        | yes l ↦
            elim (dec_lt r n) [
              | yes m ↦ absurd (h m l)
              | no m ↦ p.beside s r l (omega arith) lr
            ]
        | no l ↦ p.past (s * row_limit + r) (omega arith)
      ]

  pub closes_more : {k : ℕ} {bytes left next : Bytes} → n ≤ row_limit → k < n → length next ≡ length left → AllPassed n left k next → ClosesTo n k bytes left
      → ClosesTo n (k + 1) bytes next
  unfolding closure
  closes_more {k} {bytes} {left} {next} ln lk e p h =
      record {
        kept = kept_then h.kept (record { same_length = e; past = λ i l. p.past i (omega arith) });
        closes = λ f t r s lr ls. rw add-one
            (elim (dec_lt r n) [
              | yes l ↦
                  elim (dec_lt s n) [
                    | yes m ↦ inside f t r s l m
                    | no m ↦ beyond f t r s lr ls (λ _ i. m i)
                  ]
              | no l ↦ beyond f t r s lr ls (λ i _. l i)
            ]);
      }
    where
      inside : (f : ℕ → ℕ → Bool) → Shows (among n f) bytes → (r s : ℕ) → r < n → s < n → pair_byte next r s ≡ pick (cell (closure (suc k) (grid n f)) r s) 1 0
      inside f t r s l m =
          let g = closure k (grid n f) in
          let c = h.closes f t in
          rw (cell-through k g r s)
          (p.in_grid s r m l
          ∙ rw (c k s (omega arith) (omega arith), c r s (omega arith) (omega arith), c r k (omega arith) (omega arith))
          (bits_passed (cell g k s) (cell g r s) (cell g r k)))

      beyond : (f : ℕ → ℕ → Bool) → Shows (among n f) bytes → (r s : ℕ) → r < row_limit → s < row_limit → (r < n → s < n → ⊥)
          → pair_byte next r s ≡ pick (cell (closure (suc k) (grid n f)) r s) 1 0
      beyond f t r s lr ls ne = round_keeps p r s lr ne ∙ h.closes f t r s lr ls ∙ rw (outside f k r s ne, outside f (suc k) r s ne)

  pub closes_all : {k : ℕ} {bytes left : Bytes} → k ≡ n → ClosesTo n k bytes left → Closes n bytes left
  unfolding closed
  closes_all e h = record { kept = h.kept; closes = rw e at h.closes }
