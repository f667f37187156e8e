-- `preview` meets its contract: the refusals of replace, else judge of the store with the set in its place, and then the old set put back.
use Rattle.std.proofs.lemmas.Result.{err_from_is_err_and}
use mathlib.Core.Path.{sym}
use Rattle.replacing.proofs.Left.{swap_ready, left_long, left_size, left_counted, back_ready}
use Rattle.call_preview.proofs.Outcomes.{refused_left, judged_left}
use Rattle.call_preview.proofs.preview.Goals as goal

pub swap_flow-requires : goal.swap_flow-requires
swap_flow-requires c = swap_ready c.in_ok-count.ensures

pub slice_bounds-judge_rows-end : goal.slice_bounds-judge_rows-end
slice_bounds-judge_rows-end c = left_long c.in_ok-count.ensures c.swap_flow.ensures.store_after

pub slice_bounds-judge_rows-end-2 : goal.slice_bounds-judge_rows-end-2
slice_bounds-judge_rows-end-2 c = sym (left_size c.in_ok-count.ensures c.swap_flow.ensures.store_after)

pub judge_rows-answer-requires : goal.judge_rows-answer-requires
judge_rows-answer-requires c = record {
  store_len = left_size c.in_ok-count.ensures c.swap_flow.ensures.store_after;
  rows_value = left_counted c.in_ok-count.ensures c.swap_flow.ensures.store_after;
}

pub swap_flow-requires-2 : goal.swap_flow-requires-2
swap_flow-requires-2 c = back_ready c.in_ok-count.ensures c.swap_flow.ensures.store_after c.swap_flow.ensures.set_after

pub returns-in_err-count : goal.returns-in_err-count
returns-in_err-count c = let p = err_from_is_err_and c.from_residual.result c.from_residual.ensures.1 in rw (p.1, p.2) (refused_left _ _ _ _ c.in_err-count.ensures)

pub returns : goal.returns
returns c =
    judged_left _ _ _ _ c.in_ok-count.ensures c.swap_flow.ensures.store_after c.swap_flow.ensures.set_after c.judge_rows-answer.ensures c.swap_flow-2.ensures.store_after
