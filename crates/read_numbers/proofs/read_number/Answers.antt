-- Each return rewrites the definition's tests with the tests of the code that led there.
-- A digit stands inside the slice, so the position past it is a usize.
use native.Mathlib.Omega.{arith}
use Rattle.read_numbers.proofs.Digits.{digit_inside}
use Rattle.read_numbers.proofs.read_number.Goals as goal

pub overflow_add-p : goal.overflow_add-p
overflow_add-p c = omega (arith, digit_inside _ _ _ c.digit_at-a.ensures c.if-a-gt9.false)

pub overflow_add-q : goal.overflow_add-q
overflow_add-q c = omega (arith, digit_inside _ _ _ c.digit_at-b.ensures c.if-b-gt9.false)

pub overflow_add-next : goal.overflow_add-next
overflow_add-next c = omega (arith, digit_inside _ _ _ c.digit_at-c.ensures c.if-c-gt9.false)
