-- An answer as one 64-bit number, for the C functions. The low 8 bits are 0 where the call is accepted, else they have the refusal's number. Above them stands the line,
-- or the values one after the other, the first lowest.
use Rattle.std.specs.Prelude.{ℕ, ◌+◌, ◌*◌, ◌^◌, ◌<◌, List, [], ◌∷◌}
use Rattle.std.specs.Prelude.{Result, Ok, Err}
use Rattle.format.specs.declared.Refusal.{Refusal}
use Rattle.calls.specs.Answers.{Answer, turned_back, answered, refusal_answer}

-- the values, each in so many bits, the first lowest
unfoldable pub in_bits : ℕ → List ℕ → ℕ
in_bits bits [] = 0
in_bits bits (v ∷ vs) = v + 2 ^ bits * in_bits bits vs

-- the number of an answer whose values have so many bits each
unfoldable pub packed : ℕ → Answer → ℕ
packed bits (turned_back number line) = number + 256 * line
packed bits (answered values) = 256 * in_bits bits values

-- "load answers the counts of row, flow, comm and claim lines": a byte each
abbrev pub count_bits : ℕ
count_bits = 8

-- "Verdict answers with four yes or no together", and one-sync as the fifth: a bit each
abbrev pub word_bits : ℕ
word_bits = 1

-- "judge the count of claims; write the bytes written": one number, in all bits that are left
abbrev pub number_bits : ℕ
number_bits = 56

-- every value has at most so many bits
abbrev pub Short : ℕ → List ℕ → Type 0
Short bits [] = Unit {0}
Short bits (v ∷ vs) = (v < 2 ^ bits) × Short bits vs

-- what is packed without loss: a line in all bits that are left, values in so many bits each
abbrev pub Lossless : ℕ → Answer → Type 0
Lossless bits (turned_back number line) = line < 2 ^ number_bits
Lossless bits (answered values) = Short bits values

-- the answer of a call whose values are these
abbrev pub answer_of : {T : Type 0} → (T → List ℕ) → Result T Refusal → Answer
answer_of values (Ok x) = answered (values x)
answer_of values (Err r) = refusal_answer r
