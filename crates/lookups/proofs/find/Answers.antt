use Rattle.std.specs.Prelude.{Some as some}
use native.Mathlib.Omega.{arith}
use mathlib.Core.Path.{sym, ◌∙◌, ap}
use Rattle.run_memory.specs.declared.InUse.{InUse}
use Rattle.run_memory.specs.RunMemory.{memory_in}
use Rattle.lookups.proofs.Cells.{find_above, find_from, find_none, find_here, find_stuck, find_older}
use Rattle.lookups.proofs.find.Goals as goal

pub returns-then-in_use-from : goal.returns-then-in_use-from
unfolding memory_in
returns-then-in_use-from c = let e = ap (λ (n : InUse). n.cells) c.in_use.ensures in sym (find_above _ _ _ _ (omega (arith, e, c.if-in_use-from.true)))

pub loop-k-init : goal.loop-k-init
unfolding memory_in
loop-k-init c = let e = ap (λ (n : InUse). n.cells) c.in_use.ensures in sym (find_from _ _ _ _ (omega (arith, e, c.if-in_use-from.false)))

pub returns-then-cell-name : goal.returns-then-cell-name
returns-then-cell-name c = ap some c.held_by.ensures ∙ find_here _ _ _ _ c.loop-k-test.true c.cell_at-cell.ensures c.if-cell-name.true ∙ c.loop-k.invariant

pub returns-then-k-older : goal.returns-then-k-older
returns-then-k-older c = find_stuck _ _ _ _ c.loop-k-test.true c.cell_at-cell.ensures c.if-cell-name.false c.if-k-older.true ∙ c.loop-k.invariant

pub loop-k-preserved : goal.loop-k-preserved
loop-k-preserved c = find_older _ _ _ _ c.loop-k-test.true c.cell_at-cell.ensures c.if-cell-name.false c.if-k-older.false ∙ c.loop-k.invariant

pub returns : goal.returns
returns c = sym (find_none _ _ _ (λ z. absurd (omega (arith, z, c.loop-k-test.false)))) ∙ c.loop-k.invariant
