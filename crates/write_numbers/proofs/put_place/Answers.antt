-- The definition's test is the code's: nothing is written and nothing counted off, or one byte.
use borrow.Author.Tests.{lt-ltb, le-ltb}
use Rattle.format.specs.Text.{place}
use Rattle.write_bytes.proofs.Writing.{nothing}
use Rattle.write_numbers.proofs.Counting.{digit_is, rest_is, rest_all}
use Rattle.write_numbers.proofs.put_place.Goals as goal

pub returns-then-n-p : goal.returns-then-n-p
unfolding place
returns-then-n-p c =
    record { wrote = simp (lt-ltb _ _ c.if-n-p.true) nothing; rest_value_2 = rest_all _ _ c.requires.rest_value c.if-n-p.true }

pub put_byte-next-requires : goal.put_byte-next-requires
unfolding place
put_byte-next-requires c =
    let digit = digit_is _ c.requires.rest_value c.count_off-digit.ensures in
    simp (← digit, le-ltb _ _ c.if-n-p.false) at c.requires.room

pub returns : goal.returns
unfolding place
returns c =
    let digit = digit_is _ c.requires.rest_value c.count_off-digit.ensures in
    record { wrote = simp (← digit, le-ltb _ _ c.if-n-p.false) c.put_byte-next.ensures; rest_value_2 = rest_is _ c.requires.rest_value c.count_off-digit.ensures }
