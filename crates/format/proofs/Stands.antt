-- A text that stands at a position of a file: fixed words are read exactly where they stand.
use Prim.Native.Nat.{ℕ, ◌+◌, ◌-◌, ◌<◌, ◌≤◌}
use Prim.Native.String.{String}
use mathlib.Core.Bool.{Bool, true, false, not, ◌&&◌, ◌||◌, So, false≢true}
use mathlib.Core.List.{List, [], ◌∷◌, ◌++◌, append_assoc, append-nil}
use Rattle.std.specs.Prelude.{Option, None as none, Some as some}
use mathlib.Core.Path.{◌≡◌, refl, sym, ap, ◌∙◌}
use native.Mathlib.Omega.{arith}
use native.Mathlib.Numerals.{add-one}
use native.Mathlib.Nat.{add-zero}
use native.Mathlib.Decide.{dec_lt}
use lib.ListN.{length, get_or, drop, length-append, length-drop, get_or-eq_default}
use lib.Seq.{get_or-drop, drop-drop, drop-cons, drop-append_seam, drop-length}
use lib.Dec.{eqb, ltb}
use borrow.Author.Tests.{eqb-true, eq-eqb, ltb-true}
use Rattle.program.specs.Each.{Member, here, there, every, Each, ◌&◌}
use Rattle.program.proofs.Each.{each_at, every_elim}
use Rattle.program.proofs.Maybe.{Found, nothing, found, found_map}
use Rattle.program.proofs.Test.{and_left, and_right}
use Rattle.format.specs.Text.{Bytes, ascii, byte_at, expect, one_of}

-- the text stands in s at a position; next is the position past it
pub record Stands (text s : Bytes) (at next : ℕ) : Type 0 where
  pub past : next ≡ at + length text
  pub text_here : drop at s ≡ text ++ drop next s

pub stands_nil : (s : Bytes) (at : ℕ) → Stands [] s at at
stands_nil s at = record { past = sym (add-zero at); text_here = refl }

-- a byte that is not 0 stands inside the file
pub inside : (s : Bytes) (at : ℕ) → 0 < byte_at s at → at < length s
inside s at h =
    elim (dec_lt at (length s)) [
      | yes l ↦ l
      | no g ↦ (let z : byte_at s at ≡ 0 = get_or-eq_default s 0 (omega arith) in absurd (omega arith))
    ]

pub stands_cons : (b : ℕ) (text s : Bytes) (at next : ℕ) → byte_at s at ≡ b → 0 < b → Stands text s (at + 1) next → Stands (b ∷ text) s at next
stands_cons b text s at next e h t = record {
  past = t.past ∙ omega arith;
  text_here = drop-cons s at 0 (inside s at (rw e h)) ∙ rw (e, ← add-one) (ap (λ (l : Bytes). b ∷ l) t.text_here);
}

pub stands_append : (t u s : Bytes) (at m next : ℕ) → Stands t s at m → Stands u s m next → Stands (t ++ u) s at next
stands_append t u s at m next h k = record {
  past = rw (length-append) (k.past ∙ ap (λ (n : ℕ). n + length u) h.past ∙ omega arith);
  text_here = h.text_here ∙ ap (λ (l : Bytes). t ++ l) k.text_here ∙ sym (append_assoc t u (drop next s));
}

-- the two parts of a text, one behind the other
pub stands_left : (t u s : Bytes) (at next : ℕ) → Stands (t ++ u) s at next → Stands t s at (at + length t)
stands_left t u s at next h = record { past = refl; text_here = h.text_here ∙ append_assoc t u (drop next s) ∙ ap (λ (l : Bytes). t ++ l) (sym (behind t u s at next h)) }
  where
    behind : (t u s : Bytes) (at next : ℕ) → Stands (t ++ u) s at next → drop (at + length t) s ≡ u ++ drop next s
    behind t u s at next h =
        sym (drop-drop (length t) at s) ∙ ap (drop (length t)) (h.text_here ∙ append_assoc t u (drop next s)) ∙ drop-append_seam t (u ++ drop next s)

pub stands_right : (t u s : Bytes) (at next : ℕ) → Stands (t ++ u) s at next → Stands u s (at + length t) next
stands_right t u s at next h = record {
  past = h.past ∙ rw (length-append) (omega arith);
  text_here = sym (drop-drop (length t) at s) ∙ ap (drop (length t)) (h.text_here ∙ append_assoc t u (drop next s)) ∙ drop-append_seam t (u ++ drop next s);
}

-- the first byte, and what stands behind it
pub byte_of : (b : ℕ) (text s : Bytes) (at next : ℕ) → Stands (b ∷ text) s at next → byte_at s at ≡ b
byte_of b text s at next h = ap (λ (k : ℕ). get_or s k 0) (sym (add-zero at)) ∙ sym (get_or-drop at s 0 0) ∙ ap (λ (l : Bytes). get_or l 0 0) h.text_here

pub stands_tail : (b : ℕ) (text s : Bytes) (at next : ℕ) → Stands (b ∷ text) s at next → Stands text s (at + 1) next
stands_tail b text s at next h = stands_right (b ∷ []) text s at next h

-- the end of the file
pub stands_end : (text s : Bytes) (at : ℕ) → drop at s ≡ text → at + length text ≡ length s → Stands text s at (length s)
stands_end text s at e l = record { past = sym l; text_here = e ∙ sym (append-nil text) ∙ ap (λ (x : Bytes). text ++ x) (sym (drop-length s)) }

-- a text that is not empty stands before the end
pub stands_within : (text s : Bytes) (at next : ℕ) → 0 < length text → Stands text s at next → at + length text ≤ length s
stands_within text s at next p h =
    let e : length (drop at s) ≡ length text + length (drop next s) = ap length h.text_here ∙ length-append text (drop next s) in
    let l : length (drop at s) ≡ length s - at = length-drop at s in
    omega arith

-- ---- fixed bytes

pub expect_found : (bs s : Bytes) (at : ℕ) → So (every (ltb 0) bs) → Found (Stands bs s at) (expect bs s at)
unfolding expect every
expect_found [] s at p = found (stands_nil s at)
expect_found (b ∷ bs) s at p = go (eqb (byte_at s at) b) refl (expect_found bs s (at + 1) (search and_right))
  where
    go : (t : Bool) → eqb (byte_at s at) b ≡ t → Found (Stands bs s (at + 1)) (expect bs s (at + 1))
        → Found (Stands (b ∷ bs) s at) (elim t as (λ t. Option ℕ) [ true ↦ expect bs s (at + 1) | false ↦ none ])
    go true e h = found_map (λ next k. stands_cons b bs s at next (eqb-true (byte_at s at) b e) (ltb-true 0 b (search and_left)) k) h
    go false e h = nothing

pub expect_stands : (bs s : Bytes) (at next : ℕ) → Stands bs s at next → expect bs s at ≡ some next
unfolding expect
expect_stands [] s at next h = ap some (sym (add-zero at) ∙ sym h.past)
expect_stands (b ∷ bs) s at next h = rw (eq-eqb (byte_at s at) b (byte_of b bs s at next h), expect) (expect_stands bs s (at + 1) next (stands_tail b bs s at next h))

-- two texts that differ at a place that both have
unfoldable pub clash : Bytes → Bytes → Bool
clash [] ys = false
clash (x ∷ xs) [] = false
clash (x ∷ xs) (y ∷ ys) = not (eqb y x) || clash xs ys

pub expect-clash : (bs text s : Bytes) (at next : ℕ) → So (clash bs text) → Stands text s at next → expect bs s at ≡ none
unfolding clash expect
expect-clash [] ys s at next c h = absurd (false≢true c)
expect-clash (x ∷ xs) [] s at next c h = absurd (false≢true c)
expect-clash (x ∷ xs) (y ∷ ys) s at next c h =
    rw (byte_of y ys s at next h, expect) (go (eqb y x) refl (λ k. expect-clash xs ys s (at + 1) next k (stands_tail y ys s at next h)) c)
  where
    go : (t : Bool) → eqb y x ≡ t → (So (clash xs ys) → expect xs s (at + 1) ≡ none) → So (not t || clash xs ys)
        → ◌≡◌ {A = Option ℕ} (elim t [ true ↦ expect xs s (at + 1) | false ↦ none ]) none
    go true e k c = k c
    go false e k c = refl

-- ---- one of several words

module _ {A : Type 0} where
  -- no word is empty of bytes or has a 0
  unfoldable pub nonzero : List (String × A) → Bool
  nonzero ws = every (λ w. every (ltb 0) (ascii w.0)) ws

  -- each word differs from all that follow it
  unfoldable pub apart : List (String × A) → Bool
  apart [] = true
  apart (w ∷ ws) = every (λ v. clash (ascii w.0) (ascii v.0)) ws && apart ws

  pub one_of_found : (ws : List (String × A)) (P : A × ℕ → Type 0) (s : Bytes) (at : ℕ) → So (nonzero ws)
      → Each (λ w. (next : ℕ) → Stands (ascii w.0) s at next → P (w.1, next)) ws → Found P (one_of ws s at)
  unfolding one_of nonzero every
  one_of_found [] P s at n h = nothing
  one_of_found (w ∷ ws) P s at n (p & h) = go (expect (ascii w.0) s at) (expect_found (ascii w.0) s at (search and_left)) (one_of_found ws P s at (search and_right) h)
    where
      go : (o : Option ℕ) → Found (Stands (ascii w.0) s at) o → Found P (one_of ws s at)
          → Found P (elim o as (λ o. Option (A × ℕ)) [ some next ↦ some (w.1, next) | none ↦ one_of ws s at ])
      go none nothing k = k
      go (some next) (found t) k = found (p next t)

  pub one_of_stands : {w : String × A} {ws : List (String × A)} (s : Bytes) (at next : ℕ) → So (apart ws) → Member w ws → Stands (ascii w.0) s at next → one_of ws s at ≡ some (w.1, next)
  unfolding one_of apart
  one_of_stands {w} s at next a (here {x = x} {xs = xs} e) h = rw (e, expect_stands (ascii x.0) s at next (rw e at h), one_of)
  one_of_stands {w} s at next a (there {x = x} {xs = xs} m) h =
      rw (expect-clash (ascii x.0) (ascii w.0) s at next (each_at (every_elim (λ v. clash (ascii x.0) (ascii v.0)) xs (search and_left)) m) h, one_of)
      (one_of_stands s at next (search and_right) m h)
