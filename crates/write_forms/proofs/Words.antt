-- The text of a form by its kind: the kind's word, as many numbers as the kind has, and a bracket.
use Prim.Native.Nat.{ℕ, ◌≤◌}
use native.Mathlib.Omega.{arith}
use native.Mathlib.Decide.{dec_lt, ℕ_discrete}
use mathlib.Core.Bool.{false, So, not, ◌||◌, false≢true}
use mathlib.Core.List.{List, [], ◌∷◌, ◌++◌}
use mathlib.Core.Path.{◌≡◌, refl, sym, ◌∙◌}
use denote.Bor.{Bor}
use lib.ListN.{length, get_or, take, get_or-map}
use lib.Dec.{eqb, ltb}
use borrow.Author.Tests.{eq-eqb, ne_eqb, lt-ltb, le-ltb}
use Rattle.program.specs.Test.{all}
use Rattle.program.proofs.Test.{all_elim}
use Rattle.format.specs.Text.{Bytes, ascii, arguments}
use Rattle.format.specs.Forms.{arity, form_of}
use Rattle.format.specs.Print.{form_word, form_numbers, form_text}
use Rattle.kinds.specs.Kinds.{form_place}
use Rattle.write_forms.specs.Texts.{kind_word}

-- ---- the words, by the places of their kinds

abbrev pub words : List Bytes
words =
    ascii "[unit" ∷ ascii "[chan" ∷ ascii "[send" ∷ ascii "[recv" ∷ ascii "[pair" ∷ ascii "[left" ∷ ascii "[right" ∷ ascii "[fun" ∷ ascii "[spawn" ∷ ascii "[sync"
    ∷ ascii "[first" ∷ ascii "[second" ∷ ascii "[case" ∷ ascii "[apply" ∷ []

abbrev pub word_at : ℕ → Bytes
word_at p = get_or words p []

-- ---- what holds of each kind

record Kind (k a b c d e : ℕ) : Type 0 where
  word : word_at (form_place k) ≡ kind_word k
  text : form_text (form_of k (a ∷ b ∷ c ∷ d ∷ e ∷ [])) ≡ kind_word k ++ (arguments (take (arity k) (a ∷ b ∷ c ∷ d ∷ e ∷ [])) ++ ascii "]")
  few : arity k ≤ 5

-- a kind, or any other number
kind : {a b c d e : ℕ} (n k : ℕ) → Kind n a b c d e → (eqb k n ≡ false → Kind k a b c d e) → Kind k a b c d e
kind n k here other = elim (ℕ_discrete k n) [ yes q ↦ rw q here | no q ↦ other (ne_eqb k n q) ]

-- a number that is the kind of no other form counts as apply
place_last : (k : ℕ) → So (all 15 (λ i. ltb i 2 || not (eqb k i))) → form_place k ≡ 13
unfolding form_place
place_last k h =
    elim (dec_lt k 2) [
      | yes l ↦ rw (lt-ltb k 2 l)
      | no g ↦ elim (dec_lt k 15) [
        | yes l ↦
            let t = all_elim 15 (λ i. ltb i 2 || not (eqb k i)) h k l in
            absurd (false≢true (rw (le-ltb k 2 (omega arith), eq-eqb k k refl) at t))
        | no m ↦ elim (dec_lt 15 k) [
          | yes l ↦ rw (le-ltb k 2 (omega arith), lt-ltb 15 k l)
          | no o ↦ let q : k ≡ 15 = omega arith in rw q
        ]
      ]
    ]

every_kind : (k a b c d e : ℕ) → Kind k a b c d e
unfolding all kind_word form_place form_text form_of form_word form_numbers arity ascii
every_kind k a b c d e =
    kind 2 k (record { word = refl; text = refl; few = omega arith }) λ e2.
    kind 3 k (record { word = refl; text = refl; few = omega arith }) λ e3.
    kind 4 k (record { word = refl; text = refl; few = omega arith }) λ e4.
    kind 5 k (record { word = refl; text = refl; few = omega arith }) λ e5.
    kind 6 k (record { word = refl; text = refl; few = omega arith }) λ e6.
    kind 7 k (record { word = refl; text = refl; few = omega arith }) λ e7.
    kind 8 k (record { word = refl; text = refl; few = omega arith }) λ e8.
    kind 9 k (record { word = refl; text = refl; few = omega arith }) λ e9.
    kind 10 k (record { word = refl; text = refl; few = omega arith }) λ e10.
    kind 11 k (record { word = refl; text = refl; few = omega arith }) λ e11.
    kind 12 k (record { word = refl; text = refl; few = omega arith }) λ e12.
    kind 13 k (record { word = refl; text = refl; few = omega arith }) λ e13.
    kind 14 k (record { word = refl; text = refl; few = omega arith }) λ e14.
    let last : form_place k ≡ 13 = place_last k (rw (e2, e3, e4, e5, e6, e7, e8, e9, e10, e11, e12, e13, e14)) in
    record {
      word = rw (last, e2, e3, e4, e5, e6, e7, e8, e9, e10, e11, e12, e13, e14);
      text = rw (e2, e3, e4, e5, e6, e7, e8, e9, e10, e11, e12, e13, e14);
      few = rw (e2, e3, e4, e5, e6, e7, e8, e9, e10, e11, e12, e13, e14) (omega arith);
    }

-- the five numbers one by one
five : (ns : List ℕ) → length ns ≡ 5 → ns ≡ get_or ns 0 0 ∷ get_or ns 1 0 ∷ get_or ns 2 0 ∷ get_or ns 3 0 ∷ get_or ns 4 0 ∷ []
five [] h = absurd (omega (arith, h))
five (a ∷ []) h = absurd (omega (arith, h))
five (a ∷ b ∷ []) h = absurd (omega (arith, h))
five (a ∷ b ∷ c ∷ []) h = absurd (omega (arith, h))
five (a ∷ b ∷ c ∷ d ∷ []) h = absurd (omega (arith, h))
five (a ∷ b ∷ c ∷ d ∷ e ∷ []) h = refl
five (a ∷ b ∷ c ∷ d ∷ e ∷ f ∷ ns) h = absurd (omega (arith, h))

pub form_text_lem : (k : ℕ) (ns : List ℕ) → length ns ≡ 5 → form_text (form_of k ns) ≡ kind_word k ++ (arguments (take (arity k) ns) ++ ascii "]")
form_text_lem k ns h = rw (five ns h) (every_kind k (get_or ns 0 0) (get_or ns 1 0) (get_or ns 2 0) (get_or ns 3 0) (get_or ns 4 0)).text

pub word_is : (k : ℕ) → word_at (form_place k) ≡ kind_word k
word_is k = (every_kind k 0 0 0 0 0).word

-- the same, of references to the words, wherever these stand
module _ (a b c d e f g h i j l m n o none : ℕ × ℕ) where
  abbrev there : List (Bor Bytes)
  there =
      record { ref_ptr = a; now = ascii "[unit" }
      ∷ record { ref_ptr = b; now = ascii "[chan" }
      ∷ record { ref_ptr = c; now = ascii "[send" }
      ∷ record { ref_ptr = d; now = ascii "[recv" }
      ∷ record { ref_ptr = e; now = ascii "[pair" }
      ∷ record { ref_ptr = f; now = ascii "[left" }
      ∷ record { ref_ptr = g; now = ascii "[right" }
      ∷ record { ref_ptr = h; now = ascii "[fun" }
      ∷ record { ref_ptr = i; now = ascii "[spawn" }
      ∷ record { ref_ptr = j; now = ascii "[sync" }
      ∷ record { ref_ptr = l; now = ascii "[first" }
      ∷ record { ref_ptr = m; now = ascii "[second" }
      ∷ record { ref_ptr = n; now = ascii "[case" }
      ∷ record { ref_ptr = o; now = ascii "[apply" }
      ∷ []

  pub word_there : (k p : ℕ) → p ≡ form_place k → (get_or there p (record { ref_ptr = none; now = [] })).now ≡ kind_word k
  word_there k p q = sym (get_or-map (λ (w : Bor Bytes). w.now) there p (record { ref_ptr = none; now = [] })) ∙ rw q (word_is k)

pub arity_few : (k : ℕ) → arity k ≤ 5
arity_few k = (every_kind k 0 0 0 0 0).few
