-- How long the text of a number is.
use Prim.Native.Nat.{ℕ, ◌+◌, ◌*◌, ◌/◌, ◌%◌, ◌≤◌, ◌<◌}
use native.Mathlib.Omega.{arith}
use mathlib.Core.Bool.{Bool, true, false}
use mathlib.Core.List.{List, [], ◌∷◌}
use mathlib.Core.Path.{◌≡◌}
use lib.ListN.{length, length-append}
use lib.Dec.{ltb}
use borrow.Author.Tests.{lt-ltb}
use Rattle.program.specs.Test.{pick}
use Rattle.format.specs.Text.{Bytes, place, digits, argument, arguments}

pub pick-length : (k : ℕ) (b : Bool) (xs ys : Bytes) → length xs ≤ k → length ys ≤ k → length (pick b xs ys) ≤ k
pick-length k true xs ys h i = h
pick-length k false xs ys h i = i

place-length : (n p : ℕ) → length (place n p) ≤ 1
unfolding place
place-length n p = pick-length 1 (ltb n p) [] ((48 + n / p % 10) ∷ []) (omega arith) (omega arith)

place_none : (n p : ℕ) → n < p → length (place n p) ≡ 0
unfolding place
place_none n p h = rw (lt-ltb n p h)

pub digits-length : (n : ℕ) → length (digits n) ≤ 5
unfolding digits
digits-length n = simp length-append (omega (arith, place-length n 10000, place-length n 1000, place-length n 100, place-length n 10))

-- a number of three digits
pub digits_short : (n : ℕ) → n < 1000 → length (digits n) ≤ 3
unfolding digits
digits_short n h = simp length-append (omega (arith, place_none n 10000 (omega arith), place_none n 1000 h, place-length n 100, place-length n 10))

pub argument-length : (n : ℕ) → length (argument n) ≤ 6
unfolding argument
argument-length n = omega (arith, digits-length n)

pub argument_short : (n : ℕ) → n < 1000 → length (argument n) ≤ 4
unfolding argument
argument_short n h = omega (arith, digits_short n h)

pub arguments-length : (ns : List ℕ) → length (arguments ns) ≤ 6 * length ns
unfolding arguments
arguments-length [] = omega arith
arguments-length (n ∷ ns) = simp length-append (omega (arith, argument-length n, arguments-length ns))
