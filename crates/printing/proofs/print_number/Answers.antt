-- A space and at most five digits fit the six bytes.
use Rattle.std.proofs.Common.{arith, sym}
use Rattle.std.proofs.lemmas.List.{length-take-le}
use Rattle.format.proofs.Lengths.{argument-length}
use Rattle.write_bytes.proofs.Writing.{wrote_length}
use Rattle.printing.proofs.print_number.Goals as goal

pub put_argument-end-requires : goal.put_argument-end-requires
put_argument-end-requires g c = record { room = omega (arith, argument-length c.args.n) }

pub slice_bounds-text-end : goal.slice_bounds-text-end
slice_bounds-text-end g c =
    let written = c.put_argument-end.ensures in
    omega (arith, argument-length c.args.n, written.next_is, wrote_length written)

pub slice_bounds-write_all-end-2 : goal.slice_bounds-write_all-end-2
slice_bounds-write_all-end-2 g c =
    let written = c.put_argument-end.ensures in
    sym (length-take-le _ c.put_argument-end.new.out (omega (arith, argument-length c.args.n, written.next_is, wrote_length written)))
