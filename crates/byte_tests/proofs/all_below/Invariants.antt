-- `all_below` meets its contract: all bytes pass exactly if the largest of those before a position and all from there on pass.
use Rattle.std.specs.Prelude.{◌&&◌, ◌≡◌, drop, ltb}
use Rattle.program.specs.Each.{every}
use Rattle.byte_tests.proofs.all_below.Given as goal

abbrev pub invariant-loop-b : goal.invariant-loop-b
invariant-loop-b l =
    ltb l.most l.limit && every (λ x. ltb x l.limit) (drop l.b-index l.bytes) ≡ every (λ x. ltb x l.limit) l.bytes
