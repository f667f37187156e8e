-- A grid in which every step is marked and taken shows the closure; one in which the steps are marked shows it once it is closed.
use Prim.Native.Nat.{ℕ, ◌≤◌, ◌<◌}
use native.Mathlib.Omega.{arith}
use native.Mathlib.Decide.{dec_lt}
use mathlib.Core.Bool.{Bool, false, So, false≢true}
use mathlib.Core.Logic.{⊎_elim}
use mathlib.Core.Path.{◌≡◌, sym, ◌∙◌}
use lib.Dec.{ltb}
use borrow.Author.Tests.{lt-ltb, not-true}
use Rattle.program.specs.Closure.{closed}
use Rattle.program.proofs.Test.{not_intro, same_tests}
use Rattle.program.proofs.Decides.Closure.{closed_past, closure_beside}
use Rattle.format.specs.Limits.{row_limit}
use Rattle.format.specs.Text.{Bytes}
use Rattle.grids.specs.Grid.{pair_byte, Shows, among, Within, Marks, Onward, Closes}
use Rattle.grids.proofs.Steps.{closed_first, closed_on, closed_only}
use Rattle.grids.proofs.Stepping.{among_in, among_none}

unless : (b : Bool) → (So b → ⊥) → b ≡ false
unless b h = not-true b (not_intro b h)

-- what is reached is among the first n rows
reached_in : (n : ℕ) (f : ℕ → ℕ → Bool) (r s : ℕ) → So (closed n f r s) → (r < n) × (s < n)
unfolding closed
reached_in n f r s h =
    elim (dec_lt r n) [
      | yes l ↦
          elim (dec_lt s n) [
            | yes m ↦ (l, m)
            | no m ↦ absurd (false≢true (sym (closure_beside n f n r s (omega arith)) ∙ h))
          ]
      | no l ↦ absurd (false≢true (sym (closed_past n f r s (omega arith)) ∙ h))
    ]

module _ (n : ℕ) (f : ℕ → ℕ → Bool) (grid : Bytes) (few : n ≤ row_limit) (within : Within n f grid) (marks : Marks n f grid) where
  -- row r reaches row s, and with it whoever reaches row r
  abbrev Leads : ℕ → ℕ → Type 0
  Leads r s = (r < n) × (s < n) × (0 < pair_byte grid r s) × ((q : ℕ) → q < n → 0 < pair_byte grid q r → 0 < pair_byte grid q s)

  pub settled : Onward n f grid → Shows (closed n f) grid
  settled onward r s lr ls =
      ⊎_elim (λ z. z ∙ rw (unless (closed n f r s) (λ h. nothing z h))) (λ (o, h). o ∙ rw h) (within r s lr ls)
    where
      leads : (r s : ℕ) → r < n → s < n → So (closed n f r s) → Leads r s
      leads = closed_only n f Leads (λ r s l m t. (l, m, marks r s l m t, onward r s l m t)) (λ r m s a b. (a.0, b.1, b.3 r a.0 a.2, λ q l o. b.3 q l (a.3 q l o)))

      nothing : pair_byte grid r s ≡ 0 → So (closed n f r s) → ⊥
      nothing z h =
          let (l, m) = reached_in n f r s h in
          let o = (leads r s l m h).2 in
          omega (arith, o, z)

  -- the relation that the grid shows
  abbrev shown : ℕ → ℕ → Bool
  shown r s = ltb 0 (pair_byte grid r s)

  shown_in : (r s : ℕ) → r < row_limit → s < row_limit → So (shown r s) → So (closed n f r s)
  shown_in r s lr ls h = ⊎_elim (λ z. absurd (false≢true (sym (rw z) ∙ h))) (λ (o, k). k) (within r s lr ls)

  shows_it : Shows (among n shown) grid
  shows_it r s lr ls =
      ⊎_elim (λ z. z ∙ rw (among_none n shown r s (λ _ _. rw z)))
      (λ (o, h). let (l, m) = reached_in n f r s h in o ∙ rw (among_in n shown r s l m, o))
      (within r s lr ls)

  same_closure : (r s : ℕ) → closed n shown r s ≡ closed n f r s
  same_closure r s = same_tests (closed n shown r s) (closed n f r s) into from
    where
      into : So (closed n shown r s) → So (closed n f r s)
      into h =
          let (l, m) = reached_in n shown r s h in
          (closed_only n shown (λ r s. (s < n) × So (closed n f r s)) (λ r s l m t. (m, shown_in r s (omega arith) (omega arith) t)) (λ r m s a b. (b.0, closed_on n f r m s a.0 a.1 b.1)) r s l m h).1

      from : So (closed n f r s) → So (closed n shown r s)
      from h =
          let (l, m) = reached_in n f r s h in
          (closed_only n f (λ r s. (s < n) × So (closed n shown r s)) (λ r s l m t. (m, closed_first n shown r s l m (lt-ltb 0 _ (marks r s l m t))))
          (λ r m s a b. (b.0, closed_on n shown r m s a.0 a.1 b.1)) r s l m h).1

  pub closed_over : {left : Bytes} → Closes n grid left → Shows (closed n f) left
  closed_over c r s lr ls = c.closes shown shows_it r s lr ls ∙ rw (same_closure r s)
