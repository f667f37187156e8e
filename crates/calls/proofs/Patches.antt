-- Bytes of which a part was replaced.
use Prim.Native.Nat.{ℕ, ◌+◌, ◌-◌, ◌≤◌, ◌<◌}
use mathlib.Core.List.{[], ◌∷◌, ◌++◌, append_assoc}
use mathlib.Core.Path.{◌≡◌, sym, ap, ◌∙◌}
use native.Mathlib.Omega.{arith}
use native.Mathlib.Numerals.{add-one}
use lib.ListN.{length, take, drop, set, length-append, length-drop, take-append-drop}
use lib.Seq.{sets, sets-eq, set_split, take-take, drop-drop, take_at, drop_at, length-take-le, take-append-add, drop-append-add, take-add}
use Rattle.format.specs.Text.{Bytes}

-- s with the bytes at a position replaced
abbrev pub patch : ℕ → Bytes → Bytes → Bytes
patch at new s = take at s ++ (new ++ drop (at + length new) s)

pub patch_middle : (a old new c : Bytes) (at : ℕ) → length a ≡ at → length old ≡ length new → patch at new (a ++ (old ++ c)) ≡ a ++ (new ++ c)
patch_middle a old new c at e l =
    let n : length (a ++ old) ≡ at + length new = length-append a old ∙ omega arith in
    rw (take_at a (old ++ c) at e, ← append_assoc a old c, drop_at (a ++ old) c (at + length new) n)

-- the later of two parts stands
pub patch_twice : (s old new : Bytes) (at : ℕ) → at ≤ length s → length old ≡ length new → patch at new (patch at old s) ≡ patch at new s
patch_twice s old new at l e =
    patch_middle (take at s) old new (drop (at + length old) s) at (length-take-le at s l) e ∙ ap (λ (n : ℕ). take at s ++ (new ++ drop (at + n) s)) e

-- the part that is there alters nothing
pub patch_own : (s : Bytes) (at n : ℕ) → at + n ≤ length s → patch at (take n (drop at s)) s ≡ s
patch_own s at n l =
    let size : length (take n (drop at s)) ≡ n = length-take-le n (drop at s) (omega (arith, length-drop at s)) in
    ap (λ (k : ℕ). take at s ++ (take n (drop at s) ++ drop (at + k) s)) size ∙ ap (λ (x : Bytes). take at s ++ (take n (drop at s) ++ x)) (sym (drop-drop n at s))
    ∙ ap (λ (x : Bytes). take at s ++ x) (take-append-drop n (drop at s)) ∙ take-append-drop at s

-- so it can be put back
pub patch_back : (s new : Bytes) (at n : ℕ) → length new ≡ n → at + n ≤ length s → patch at (take n (drop at s)) (patch at new s) ≡ s
patch_back s new at n e l =
    let size : length (take n (drop at s)) ≡ n = length-take-le n (drop at s) (omega (arith, length-drop at s)) in
    patch_twice s new (take n (drop at s)) at (omega arith) (e ∙ sym size) ∙ patch_own s at n l

pub patched_before : (s new : Bytes) (at : ℕ) → at ≤ length s → take at (patch at new s) ≡ take at s
patched_before s new at l = take_at (take at s) (new ++ drop (at + length new) s) at (length-take-le at s l)

-- a run of bytes, and one byte
pub sets_patched : (s : Bytes) (at : ℕ) (new : Bytes) → at + length new ≤ length s → sets s at new ≡ patch at new s
sets_patched s at new l = sets-eq new s at l ∙ append_assoc (take at s) new (drop (at + length new) s)

pub set_patched : (s : Bytes) (at b : ℕ) → at < length s → set s at b ≡ patch at (b ∷ []) s
set_patched s at b l = set_split s at b l ∙ rw (add-one)

pub patched_length : (s : Bytes) (at : ℕ) (new : Bytes) → at + length new ≤ length s → length (patch at new s) ≡ length s
patched_length s at new l =
    length-append (take at s) (new ++ drop (at + length new) s) ∙ rw (length-append new (drop (at + length new) s), length-take-le at s (omega arith), length-drop (at + length new) s) (omega arith)

module _ (size : ℕ) (s : Bytes) (at : ℕ) (new : Bytes) (within : at + length new ≤ size) (long : size ≤ length s) where
  -- the two parts of the replaced store
  pub patched_take : take size (patch at new s) ≡ patch at new (take size s)
  patched_take =
      let k = at + length new in
      let m = size - k in
      let h : length (take at s ++ new) ≡ k = length-append (take at s) new ∙ rw (length-take-le at s (omega arith)) in
      let n : size ≡ length (take at s ++ new) + m = omega arith in
      let q : k + m ≡ size = omega arith in
      let d : drop k (take size s) ≡ take m (drop k s) =
      ap (λ (j : ℕ). drop k (take j s)) (sym q) ∙ ap (drop k) (take-add k m s) ∙ drop_at (take k s) (take m (drop k s)) k (length-take-le k s (omega arith)) in
      rw (take-take at size s (omega arith), d, ← append_assoc (take at s) new (drop k s), ← append_assoc (take at s) new (take m (drop k s)))
      (ap (λ (j : ℕ). take j (take at s ++ new ++ drop k s)) n ∙ take-append-add (take at s ++ new) (drop k s) m)

  pub patched_drop : drop size (patch at new s) ≡ drop size s
  patched_drop =
      let h : length (take at s ++ new) ≡ at + length new = length-append (take at s) new ∙ rw (length-take-le at s (omega arith)) in
      let n : size ≡ length (take at s ++ new) + (size - (at + length new)) = omega arith in
      let q : at + length new + (size - (at + length new)) ≡ size = omega arith in
      rw (← append_assoc (take at s) new (drop (at + length new) s))
      (ap (λ (k : ℕ). drop k (take at s ++ new ++ drop (at + length new) s)) n
      ∙ drop-append-add (take at s ++ new) (drop (at + length new) s) (size - (at + length new)) ∙ drop-drop (size - (at + length new)) (at + length new) s ∙ ap (λ (k : ℕ). drop k s) q)
