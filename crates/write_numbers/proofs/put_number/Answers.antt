-- A number of one digit is that digit (`one_digit`). Of any other the five writes, one after the other, are the five parts of `digits`, and each has room in what the ones before it leave. Each place is counted off what the one above it leaves.
use native.Mathlib.Omega.{arith}
use Rattle.format.specs.Text.{digits}
use Rattle.write_bytes.proofs.Writing.{then, room_then}
use Rattle.write_numbers.proofs.Counting.{one_digit}
use Rattle.std.proofs.lemmas.Grind.{common_steps}
use Rattle.write_numbers.proofs.put_number.Goals as goal

pub put_byte-requires : goal.put_byte-requires
put_byte-requires c = rw (one_digit _ c.if-n-lt10.true) at c.requires

pub returns-then-n-lt10 : goal.returns-then-n-lt10
returns-then-n-lt10 c = rw (one_digit _ c.if-n-lt10.true) c.put_byte.ensures

pub put_place-a-requires : goal.put_place-a-requires
unfolding digits
put_place-a-requires c = grind (arith, common_steps)

pub put_place-b-requires : goal.put_place-b-requires
unfolding digits
put_place-b-requires c = grind (arith, common_steps)

pub put_place-c-requires : goal.put_place-c-requires
unfolding digits
put_place-c-requires c = grind (arith, common_steps)

pub put_place-d-requires : goal.put_place-d-requires
unfolding digits
put_place-d-requires c = grind (arith, common_steps)

pub put_byte-requires-2 : goal.put_byte-requires-2
unfolding digits
put_byte-requires-2 c = record { room = (room_then _ c.put_place-d.ensures.wrote (room_then _ c.put_place-c.ensures.wrote (room_then _ c.put_place-b.ensures.wrote (room_then _ c.put_place-a.ensures.wrote c.requires)))).room }

pub returns : goal.returns
unfolding digits
returns c = then c.put_place-a.ensures.wrote (then c.put_place-b.ensures.wrote (then c.put_place-c.ensures.wrote (then c.put_place-d.ensures.wrote (rw (← c.put_place-d.ensures.rest_value_2) c.put_byte-2.ensures))))
