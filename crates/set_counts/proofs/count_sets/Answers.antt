use native.Mathlib.Omega.{arith}
use mathlib.Core.Path.{sym, ◌∙◌}
use Rattle.format.specs.Limits.{row_limit}
use Rattle.set_counts.proofs.Counting.{entry_counted, entry_skipped, entries_end}
use Rattle.set_counts.proofs.count_sets.Goals.{then-has_member, else-has_member}
use Rattle.set_counts.proofs.count_sets.Goals as goal

pub loop-k-preserved : goal.loop-k-preserved
loop-k-preserved c =
    elim c.if-has_member.branch [
      | then-has_member w ↦ (omega (arith, w.lines-is), omega (arith, w.lines-is, c.loop-k.invariant.1, entry_counted row_limit _ _ c.loop-k-test.true (sym c.has_member.ensures ∙ w.if-has_member.true)))
      | else-has_member w ↦ (omega (arith, w.lines-is), omega (arith, w.lines-is, c.loop-k.invariant.1, entry_skipped row_limit _ _ c.loop-k-test.true (sym c.has_member.ensures ∙ w.if-has_member.false)))
    ]

pub returns : goal.returns
returns c = omega (arith, c.loop-k.invariant.1, entries_end row_limit _ c.args.sets.now c.loop-k-test.false)
