-- "The file": bytes, numbers and fixed words, printed, and read from a position of a text.
use Rattle.std.specs.Prelude.{ℕ, zero, suc, ◌+◌, ◌-◌, ◌*◌, ◌/◌, ◌%◌, true, false, List, [], ◌∷◌, ◌++◌, get_or, ltb, eqb}
use Prim.Native.Char.{code}
use Prim.Native.String.{String}
use Rattle.std.specs.Prelude.{Option, None as none, Some as some}
use Rattle.program.specs.Maybe.{◌>>=◌}
use Rattle.program.specs.Test.{pick}

abbrev pub Bytes : Type 0
Bytes = List ℕ

-- the bytes of a text in ASCII
unfoldable pub ascii : String → Bytes
ascii String.[] = []
ascii (String.◌∷◌ c s) = code c ∷ ascii s

-- the byte at a position, and 0 past the end: no byte of the format is 0
abbrev pub byte_at : Bytes → ℕ → ℕ
byte_at s at = get_or s at 0

-- decimal digits with no leading zero: the digit of n at the place p, a power of ten, where n has one
unfoldable pub place : ℕ → ℕ → Bytes
place n p = pick (ltb n p) [] ((48 + n / p % 10) ∷ [])

-- the decimal digits of a number below 100,000: the numbers of a file have at most three, the lines and lengths that are printed at most five
unfoldable pub digits : ℕ → Bytes
digits n = place n 10000 ++ (place n 1000 ++ (place n 100 ++ (place n 10 ++ ((48 + n % 10) ∷ []))))

-- the value of a decimal digit, and 10 for any other byte
unfoldable pub digit_of : ℕ → ℕ
digit_of b = pick (ltb b 48) 10 (pick (ltb 57 b) 10 (b - 48))

unfoldable pub digit_at : Bytes → ℕ → ℕ
digit_at s at = digit_of (byte_at s at)

-- "A number has one to three decimal digits with no leading zero (0 itself is `0`)": of the digits a, b and c at a position, and the position past it; 10 is no digit
abbrev pub number_of : ℕ → ℕ → ℕ → ℕ → Option (ℕ × ℕ)
number_of a b c at =
    pick (ltb 9 a) none
    (pick (eqb a 0) (some (0, at + 1))
    (pick (ltb 9 b) (some (a, at + 1))
    (pick (ltb 9 c) (some (a * 10 + b, at + 1 + 1))
    (some (a * 100 + b * 10 + c, at + 1 + 1 + 1)))))

unfoldable pub read_number : Bytes → ℕ → Option (ℕ × ℕ)
read_number s at = number_of (digit_at s at) (digit_at s (at + 1)) (digit_at s (at + 1 + 1)) at

-- the position past these bytes, where they stand at a position
unfoldable pub expect : Bytes → Bytes → ℕ → Option ℕ
expect [] s at = some at
expect (b ∷ bs) s at = elim (eqb (byte_at s at) b) [ true ↦ expect bs s (at + 1) | false ↦ none ]

-- the first of these words that stands at a position: what it means, and the position past it
unfoldable pub one_of : {A : Type 0} → List (String × A) → Bytes → ℕ → Option (A × ℕ)
one_of [] s at = none
one_of (w ∷ ws) s at = elim (expect (ascii w.0) s at) [ some next ↦ some (w.1, next) | none ↦ one_of ws s at ]

-- "one space between parts": a space and a number
unfoldable pub argument : ℕ → Bytes
argument n = 32 ∷ digits n

unfoldable pub read_argument : Bytes → ℕ → Option (ℕ × ℕ)
read_argument s at = do
  next ← expect (32 ∷ []) s at
  read_number s next

-- as many numbers as k, each with a space before it
unfoldable pub arguments : List ℕ → Bytes
arguments [] = []
arguments (n ∷ ns) = argument n ++ arguments ns

unfoldable pub read_arguments : ℕ → Bytes → ℕ → Option (List ℕ × ℕ)
read_arguments zero s at = some ([], at)
read_arguments (suc k) s at = do
  (n, p) ← read_argument s at
  (ns, q) ← read_arguments k s p
  some (n ∷ ns, q)
