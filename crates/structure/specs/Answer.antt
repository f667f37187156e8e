-- The first part of what this crate tests.
use Rattle.std.specs.Prelude.{Option, Some as some}
use Rattle.std.specs.Prelude.{length}
use Rattle.program.specs.Test.{least}
use Rattle.program.specs.Maybe.{◌>>=◌, ◌<|>◌}
use Rattle.program.specs.Program.{Program}
use Rattle.format.specs.declared.Reason.TheVariants.{WrongPointer, BoundTwice, OutOfScope}
use Rattle.format.specs.Refusals.{refusal}
use Rattle.format.specs.Structure.{row_line, pointer_fault, binder_fault, scope_line}
use Rattle.format.specs.declared.Refusal.{Refusal}

-- the first of 6, 7 and 8, which the rows alone decide
unfoldable pub tree_fault : Program → Option Refusal
tree_fault p =
    (least (length p) (pointer_fault p) >>= λ r. some (refusal WrongPointer (row_line r)))
    <|> (least (length p) (binder_fault p) >>= λ r. some (refusal BoundTwice (row_line r)))
    <|> (scope_line p >>= λ r. some (refusal OutOfScope (row_line r)))
