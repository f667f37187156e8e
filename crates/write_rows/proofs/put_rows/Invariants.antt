-- The loop's invariant: of the text, the lines from row r on are left.
use Prim.Native.Nat.{◌-◌}
use Rattle.program.specs.Each.{collect}
use Rattle.format.specs.Print.{line_text, row_lines}
use Rattle.calls.specs.Layout.{counting}
use Rattle.store.specs.Rows.{store_program, store_row}
use Rattle.write_bytes.proofs.Progress.{Progress}
use Rattle.write_rows.proofs.put_rows.Given as goal

abbrev pub invariant-loop-r : goal.invariant-loop-r
invariant-loop-r l =
    Progress l.initial.out l.at (collect line_text (row_lines 0 (store_program l.rows l.store))) l.out l.next (collect line_text (row_lines l.r (counting (l.rows - l.r) l.r (store_row l.store))))
