-- A set joined to another byte by byte.
use Prim.Native.Nat.{ℕ, zero, suc, ◌+◌, ◌<◌, ◌≤◌, max}
use native.Mathlib.Omega.{arith}
use native.Mathlib.Decide.{ℕ_discrete as dec_eq}
use mathlib.Core.List.{[], ◌∷◌}
use mathlib.Core.Path.{◌≡◌, refl, ap, ◌∙◌}
use lib.ListN.{length, set, length-set}
use lib.Seq.{get_or-set_same, get_or-set_other, set-get_or}
use lib.Dec.{eqb}
use borrow.Author.Tests.{eq-eqb, ne_eqb}
use Rattle.program.specs.Test.{pick}
use Rattle.format.specs.Text.{Bytes, byte_at}
use Rattle.sets.specs.Sets.{unless_in}
use Rattle.set_adds.specs.Adding.{joined, zeros}

pub zeros_fall : (s : Bytes) (i v : ℕ) → i < length s → byte_at s i ≡ 0 → 0 < v → suc (zeros (set s i v)) ≡ zeros s
unfolding zeros
zeros_fall [] i v l e h = absurd (omega arith)
zeros_fall (b ∷ bs) zero v l e h = rw (eq-eqb b 0 e, ne_eqb v 0 (omega arith)) (omega arith)
zeros_fall (b ∷ bs) (suc i) v l e h = let q = zeros_fall bs i v (omega arith) e h in omega arith

-- one byte
module _ (s : Bytes) (q other : ℕ) where
  same_byte : unless_in other (byte_at s q) ≡ 0 → joined (byte_at s q) other ≡ byte_at s q
  unfolding unless_in joined
  same_byte h = go (byte_at s q) h
    where
      go : (own : ℕ) → ◌≡◌ {A = ℕ} (pick (eqb own 0) other 0) 0 → pick (eqb own 0) other own ≡ own
      go zero h = h
      go (suc own) h = rw (ne_eqb (suc own) 0 (omega arith))

  pub byte_still : unless_in other (byte_at s q) ≡ 0 → set s q (joined (byte_at s q) other) ≡ s
  byte_still h = ap (set s q) (same_byte h) ∙ set-get_or s q 0

  pub byte_falls : q < length s → 0 < unless_in other (byte_at s q) → suc (zeros (set s q (joined (byte_at s q) other))) ≡ zeros s
  unfolding unless_in joined
  byte_falls l h = go (byte_at s q) refl h
    where
      go : (own : ℕ) → byte_at s q ≡ own → 0 < pick (eqb own 0) other 0 → suc (zeros (set s q (pick (eqb own 0) other own))) ≡ zeros s
      go zero e h = zeros_fall s q other l e h
      go (suc own) e h = let z : pick (eqb (suc own) 0) other 0 ≡ 0 = rw (ne_eqb (suc own) 0 (omega arith)) in absurd (omega arith)

-- the first i bytes
pub record JoinedTo (at i : ℕ) (part s s' : Bytes) (more : ℕ) : Type 0 where
  pub size : length s' ≡ length s
  pub joins : (j : ℕ) → j < i → byte_at s' (at + j) ≡ joined (byte_at s (at + j)) (byte_at part j)
  pub before : (q : ℕ) → q < at → byte_at s' q ≡ byte_at s q
  pub behind : (q : ℕ) → at + i ≤ q → byte_at s' q ≡ byte_at s q
  pub fewer : zeros s' ≤ zeros s
  pub really : 0 < more → zeros s' < zeros s
  pub still : more ≡ 0 → s' ≡ s

pub joined_more : {at i more : ℕ} {part s s' : Bytes} → JoinedTo at i part s s' more → at + i < length s'
    → JoinedTo at (i + 1) part s (set s' (at + i) (joined (byte_at s' (at + i)) (byte_at part i))) (max more (unless_in (byte_at part i) (byte_at s' (at + i))))
joined_more {at} {i} {more} {part} {s} {s'} h l =
    let own = byte_at s' (at + i) in
    let new = unless_in (byte_at part i) own in
    let here : own ≡ byte_at s (at + i) = h.behind (at + i) (omega arith) in
    record {
      size = simp length-set h.size;
      joins = λ j lj. elim (dec_eq j i) [
        | yes e ↦ rw e (get_or-set_same s' (at + i) _ 0 l ∙ ap (λ b. joined b (byte_at part i)) here)
        | no d ↦ get_or-set_other s' (at + i) (at + j) _ 0 (λ e. d (omega arith)) ∙ h.joins j (omega arith)
      ];
      before = λ q lq. get_or-set_other s' (at + i) q _ 0 (λ e. omega arith) ∙ h.before q lq;
      behind = λ q lq. get_or-set_other s' (at + i) q _ 0 (λ e. omega arith) ∙ h.behind q (omega arith);
      fewer = fall.0;
      really = fall.1;
      still = λ e. byte_still s' (at + i) (byte_at part i) (omega arith) ∙ h.still (omega arith);
    }
  where
    fall : (zeros (set s' (at + i) (joined (byte_at s' (at + i)) (byte_at part i))) ≤ zeros s) × (0 < max more (unless_in (byte_at part i) (byte_at s' (at + i)))
        → zeros (set s' (at + i) (joined (byte_at s' (at + i)) (byte_at part i))) < zeros s)
    fall = elim (dec_eq (unless_in (byte_at part i) (byte_at s' (at + i))) 0) [
      | yes e ↦ (rw (byte_still s' (at + i) (byte_at part i) e) h.fewer, λ m. rw (byte_still s' (at + i) (byte_at part i) e) (h.really (omega arith)))
      | no d ↦ (let q = byte_falls s' (at + i) (byte_at part i) l (omega arith) in (omega (arith, h.fewer), λ m. omega (arith, h.fewer)))
    ]
