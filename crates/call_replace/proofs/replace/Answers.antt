-- `replace` meets its contract: 20 to 22, 32 and 33, then the set in its place and the counts of the lines.
use mathlib.Core.Path.{sym}
use Rattle.replacing.proofs.Left.{swap_ready, left_long, left_size}
use Rattle.call_replace.proofs.Outcomes.{replaced_left}
use Rattle.call_replace.proofs.replace.Goals as goal

pub swap_flow-requires : goal.swap_flow-requires
swap_flow-requires c = swap_ready c.in_ok-count.ensures

pub slice_bounds-store_counts-end : goal.slice_bounds-store_counts-end
slice_bounds-store_counts-end c =
    left_long c.in_ok-count.ensures c.swap_flow.ensures.store_after

pub slice_bounds-store_counts-end-2 : goal.slice_bounds-store_counts-end-2
slice_bounds-store_counts-end-2 c =
    sym (left_size c.in_ok-count.ensures c.swap_flow.ensures.store_after)

pub store_counts-requires : goal.store_counts-requires
store_counts-requires c =
    left_size c.in_ok-count.ensures c.swap_flow.ensures.store_after

pub returns : goal.returns
returns c =
    replaced_left _ _ _ _ c.in_ok-count.ensures c.swap_flow.ensures.store_after c.store_counts.ensures
