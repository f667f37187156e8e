-- A row that binds a name which is bound earlier.
use Prim.Native.Nat.{ℕ, ◌<◌}
use native.Mathlib.Omega.{arith}
use mathlib.Core.Bool.{Bool}
use mathlib.Core.List.{List}
use mathlib.Core.Path.{◌≡◌}
use Rattle.program.specs.Each.{collect}
use Rattle.program.specs.Program.{binders}
use Rattle.format.specs.Text.{Bytes}
use Rattle.format.specs.Structure.{bound_earlier, binder_fault}
use Rattle.store.specs.Rows.{store_row, store_program}
use Rattle.store.proofs.Laws.{row_at_program}
use Rattle.seen.specs.Seen.{Marks, Adds}
use Rattle.seen.proofs.Smallest.{rows_before, again_row}

module _ (n : ℕ) (s : Bytes) (r : ℕ) (h : r < n) where
  binder_fault_is : binder_fault (store_program n s) r ≡ bound_earlier (collect binders (store_program r s)) (binders (store_row s r))
  unfolding binder_fault
  binder_fault_is = rw (rows_before n r s (omega arith), row_at_program n s r h)

  -- the same by what the loop has at the row: what was seen before it and with it
  pub binder_row : (a b : Bytes) (ns : List ℕ) {again : Bool} → Adds a ns b again → ns ≡ binders (store_row s r) → Marks (collect binders (store_program r s)) a
      → again ≡ binder_fault (store_program n s) r
  binder_row a b ns adds e m = rw binder_fault_is (again_row binders r s a b ns adds e m)
