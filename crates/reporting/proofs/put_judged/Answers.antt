-- What judging the store gives: its refusal, or its count and its channels' lines. In each branch the writes are the parts of the report.
use native.Mathlib.Omega.{arith}
use mathlib.Core.Path.{refl, sym}
use Rattle.write_bytes.proofs.Writing.{then, room_first, room_then}
use Rattle.opening.proofs.Opening.{fixed_size, counted}
use Rattle.reporting.proofs.Reports.{refused_room, opened_room, judged_line, judged_count, judged_refused, judged_accepted}
use Rattle.grids.proofs.Keeping.{zeros_show}
use borrow.Author.Rules.{rules}
use Rattle.reporting.proofs.put_judged.Goals as goal

pub slice_bounds-fixed-end : goal.slice_bounds-fixed-end
slice_bounds-fixed-end c = sym (fixed_size _ _ c.requires.opened_is)

pub judge_store-requires : goal.judge_store-requires
judge_store-requires c =
    record { store_len = fixed_size _ _ c.requires.opened_is; rows_value = counted _ _ c.requires.opened_is; grid_size_in_bounds = search rules; shows = zeros_show _ refl }

pub put_refused-requires : goal.put_refused-requires
put_refused-requires c =
    record { line_bound = judged_line _ _ c.requires.opened_is c.judge_store.ensures.answer_is _ c.in-Err.is; room = refused_room c.requires.report_limit_in_bounds _ }

pub overflow_cast-count : goal.overflow_cast-count
overflow_cast-count c =
    omega (arith, judged_count _ _ c.requires.opened_is c.judge_store.ensures.answer_is _ c.in-Ok.is)

pub put_accepted-next-requires : goal.put_accepted-next-requires
put_accepted-next-requires c =
    room_first _ _ (opened_room _ _ c.requires.opened_is c.requires.report_limit_in_bounds _)

pub put_channels-requires : goal.put_channels-requires
put_channels-requires c =
    record { store_size_in_bounds = (omega (arith, fixed_size _ _ c.requires.opened_is), counted _ _ c.requires.opened_is, search rules); shows = c.judge_store.ensures.grid_shows _ c.in-Ok.is; room = room_then _ c.put_accepted-next.ensures (opened_room _ _ c.requires.opened_is c.requires.report_limit_in_bounds _) }

pub returns-in-Err : goal.returns-in-Err
returns-in-Err c =
    rw (judged_refused _ _ c.requires.opened_is c.judge_store.ensures.answer_is _ c.in-Err.is) c.put_refused.ensures

pub returns-in-Ok : goal.returns-in-Ok
returns-in-Ok c =
    rw (judged_accepted _ _ c.requires.opened_is c.judge_store.ensures.answer_is _ c.in-Ok.is)
    (then c.put_accepted-next.ensures c.put_channels.ensures)
