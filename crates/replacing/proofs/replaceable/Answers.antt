-- `replaceable` meets its contract: 20 to 22 of the store, then 32, then 33.
use Rattle.std.proofs.lemmas.Result.{err_from_is_err_and}
use mathlib.Core.Path.{sym}
use Rattle.opening.proofs.Opening.{fixed_size}
use Rattle.replacing.proofs.Replacing.{store_refused, few_rows, not_bound, is_bound_lem, not_a_set, a_set}
use Rattle.replacing.proofs.replaceable.Goals as goal

pub slice_bounds-fixed-end : goal.slice_bounds-fixed-end
slice_bounds-fixed-end c = sym (fixed_size _ _ c.in_ok-rows.ensures)

pub returns-then-byte_at-eq0 : goal.returns-then-byte_at-eq0
returns-then-byte_at-eq0 c =
    rw c.at.ensures (not_bound _ _ c.in_ok-rows.ensures _ _ c.bound-marks.ensures _ _ c.byte_at.ensures c.if-byte_at-eq0.true)

pub allowed_members-members-requires : goal.allowed_members-members-requires
allowed_members-members-requires c =
    few_rows _ _ c.in_ok-rows.ensures

pub returns-then-mark_members : goal.returns-then-mark_members
returns-then-mark_members c =
    a_set _ _ c.in_ok-rows.ensures _ (is_bound_lem _ _ c.in_ok-rows.ensures _ _ c.bound-marks.ensures c.byte_at.ensures c.if-byte_at-eq0.false) _ c.allowed_members-members.ensures c.mark_members.ensures c.if-mark_members.true

pub returns-in_err-rows : goal.returns-in_err-rows
returns-in_err-rows c = let p = err_from_is_err_and c.from_residual.result c.from_residual.ensures.1 in rw (p.1, p.2) (store_refused _ _ _ _ _ c.in_err-rows.ensures)

pub returns : goal.returns
returns c =
    rw c.at-2.ensures (not_a_set _ _ c.in_ok-rows.ensures _ (is_bound_lem _ _ c.in_ok-rows.ensures _ _ c.bound-marks.ensures c.byte_at.ensures c.if-byte_at-eq0.false) _ c.allowed_members-members.ensures c.mark_members.ensures c.if-mark_members.false)
