use Rattle.std.proofs.Common.{arith, ◌≡◌, ◌+◌, ◌-◌, length}
use Rattle.load_lines.proofs.Rest.{long_stays, begin, at_end_empty, at_end, out_of_lines, line_refused, line_taken}
use Rattle.load_lines.proofs.load_rest.Goals as goal

pub loop-line-init : goal.loop-line-init
loop-line-init c = begin _ _ _ c.requires.stored

pub returns-then-p-eq0 : goal.returns-then-p-eq0
returns-then-p-eq0 c = rw c.at.ensures (at_end_empty _ _ _ _ _ _ _ _ c.loop-line.invariant (omega (arith, c.loop-line-test.true)) c.if-at-file.true c.if-p-eq0.true)

pub returns-then-at-file : goal.returns-then-at-file
returns-then-at-file c = at_end _ _ _ _ _ _ _ _ c.loop-line.invariant (omega (arith, c.loop-line-test.true)) c.if-at-file.true c.if-p-eq0.false

pub load_line-answer-requires : goal.load_line-answer-requires
load_line-answer-requires c = record { store_size_in_bounds = long_stays _ _ c.requires.store_size_in_bounds c.loop-line.invariant.past.length_stays; small = c.loop-line.invariant.small }

pub returns-in_default : goal.returns-in_default
returns-in_default c =
    rw c.line_refusal.ensures
    (line_refused _ _ _ _ _ _ _ _ c.loop-line.invariant (omega (arith, c.loop-line-test.true)) c.if-at-file.false _ _ c.load_line-answer.ensures _ c.in_default.is)

pub loop-line-preserved : goal.loop-line-preserved
loop-line-preserved c =
    let end = length c.args.file.now + 2 in
    let fewer : end - c.loop-line.line - 1 ≡ end - (c.loop-line.line + 1) = omega arith in
    rw (← fewer)
    (line_taken _ _ _ _ _ _ _ _ c.loop-line.invariant (omega (arith, c.loop-line-test.true)) c.if-at-file.false _ _ c.load_line-answer.ensures _ _ c.in-Ok.is)

pub returns : goal.returns
returns c =
    let e : length c.args.file.now + 2 ≡ c.loop-line.line = omega (arith, c.loop-line.invariant.lines, c.loop-line-test.false) in
    rw (c.at-2.ensures, e) (out_of_lines _ _ _ _ _ _ _ _ c.loop-line.invariant (omega (arith, c.loop-line-test.false)))
