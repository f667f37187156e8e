use Rattle.std.proofs.Common.{rules, sym, ◌∙◌}
use Rattle.byte_tests.proofs.Below.{below_goes, below_ends, below_none}
use Rattle.byte_tests.proofs.all_below.Goals as goal

pub returns-then-limit-eq0 : goal.returns-then-limit-eq0
returns-then-limit-eq0 c = c.is_empty.ensures ∙ below_none _ _ c.if-limit-eq0.true

pub loop-b-preserved : goal.loop-b-preserved
loop-b-preserved c =
    below_goes c.args.bytes.now c.args.limit c.loop-b.b-index c.loop-b.most {next = c.max-most.result} c.loop-b-test.true (search rules) ∙ c.loop-b.invariant

pub returns : goal.returns
returns c =
    sym (below_ends c.args.bytes.now c.args.limit c.loop-b.b-index c.loop-b.most c.loop-b-test.false c.loop-b.auto.b-index-end) ∙ c.loop-b.invariant
