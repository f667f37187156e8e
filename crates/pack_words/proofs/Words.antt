-- Five words as bits.
use Prim.Native.Nat.{ℕ, ◌+◌, ◌*◌, ◌≤◌}
use native.Mathlib.Omega.{arith}
use mathlib.Core.Bool.{Bool, true, false}
use mathlib.Core.List.{List, [], ◌∷◌, map}
use mathlib.Core.Path.{◌≡◌, refl}
use lib.ListN.{length, get_or}
use mir.Val.{bool_byte}
use Rattle.std.specs.Prelude.{Ok, Err}
use Rattle.std.specs.Result.{result_and}
use Rattle.calls.specs.Answers.{VerdictStatus, yes_or_no, status_answer, verdict_answer}
use Rattle.calls.specs.declared.VerdictAnswer.{VerdictAnswer}
use Rattle.packing.specs.Packing.{answer_of}
use Rattle.pack_words.specs.Words.{word_values}
use Rattle.packing.specs.Packing.{in_bits, word_bits}

bit_low : (b : Bool) → bool_byte b ≤ 1
bit_low true = omega arith
bit_low false = omega arith

bit_is : (b : Bool) → bool_byte b ≡ yes_or_no b
unfolding yes_or_no
bit_is true = refl
bit_is false = refl

-- the word at a place, as a number
abbrev bit_at : List Bool → ℕ → ℕ
bit_at ws i = bool_byte (get_or ws i false)

pub bits_low : (ws : List Bool) → (bit_at ws 0 ≤ 1) × (bit_at ws 1 ≤ 1) × (bit_at ws 2 ≤ 1) × (bit_at ws 3 ≤ 1) × (bit_at ws 4 ≤ 1)
bits_low ws = (bit_low (get_or ws 0 false), bit_low (get_or ws 1 false), bit_low (get_or ws 2 false), bit_low (get_or ws 3 false), bit_low (get_or ws 4 false))

pub five_bits : (ws : List Bool) → length ws ≡ 5 → bit_at ws 0 + 2 * (bit_at ws 1 + 2 * (bit_at ws 2 + 2 * (bit_at ws 3 + 2 * bit_at ws 4))) ≡ in_bits word_bits (map yes_or_no ws)
unfolding in_bits
five_bits [] e = absurd (omega arith)
five_bits (a ∷ []) e = absurd (omega arith)
five_bits (a ∷ b ∷ []) e = absurd (omega arith)
five_bits (a ∷ b ∷ c ∷ []) e = absurd (omega arith)
five_bits (a ∷ b ∷ c ∷ d ∷ []) e = absurd (omega arith)
five_bits (a ∷ b ∷ c ∷ d ∷ f ∷ []) e = omega (arith, bit_is a, bit_is b, bit_is c, bit_is d, bit_is f)
five_bits (a ∷ b ∷ c ∷ d ∷ f ∷ x ∷ ws) e = absurd (omega arith)

-- the words of a verdict that is given, or why it is not
pub verdict_is : (a : VerdictAnswer) → answer_of word_values (result_and a.status (Ok (record { words = a.words }))) ≡ verdict_answer a
unfolding verdict_answer status_answer
verdict_is a = go a.status
  where
    go : (s : VerdictStatus) → answer_of word_values (result_and s (Ok (record { words = a.words }))) ≡ status_answer s (map yes_or_no a.words)
    go (Ok tt) = refl
    go (Err r) = refl
