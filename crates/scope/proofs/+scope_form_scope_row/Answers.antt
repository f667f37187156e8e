use Prim.Native.Nat.{min}
use mathlib.Core.Path.{refl, sym, ap, ap₂, ◌∙◌}
use Rattle.format.specs.Scope.{with_name, row_fault, form_fault}
use Rattle.scope.proofs.Fuel.{form_fuel, case_within, scope_before, scope_past, scope_within}
use Rattle.scope.proofs.Undone.{put_back}
use Rattle.scope.proofs.+scope_form_scope_row.Goals as goal

pub scope_form-returns-in-Fun : goal.scope_form-returns-in-Fun
unfolding form_fault
scope_form-returns-in-Fun t c =
    let kept = put_back _ _ _ c.put_name-old_parameter.ensures.was c.put_name-old_parameter.ensures.left c.scope_row-inside.ensures.undone c.put_name.ensures.left in record { fault = rw (c.in-Fun.is, form_fuel _ _ c.requires) (c.scope_row-inside.ensures.fault ∙ rw (c.put_name-old_parameter.ensures.left, c.put_name-old_own.ensures.left)); undone = put_back _ _ _ c.put_name-old_own.ensures.was c.put_name-old_own.ensures.left kept c.put_name-in-Fun.ensures.left }

pub scope_form-returns-in-Spawn : goal.scope_form-returns-in-Spawn
unfolding form_fault
scope_form-returns-in-Spawn t c =
    record { fault = rw (c.in-Spawn.is, form_fuel _ _ c.requires) c.scope_row.ensures.fault; undone = c.scope_row.ensures.undone }

pub scope_form-returns-in-Case : goal.scope_form-returns-in-Case
scope_form-returns-in-Case t c =
    let kept = put_back _ _ _ c.put_name-old_left.ensures.was c.put_name-old_left.ensures.left c.scope_row-in_left.ensures.undone c.put_name-in-Case.ensures.left in
    let in_left = c.scope_row-in_left.ensures.fault ∙ ap (row_fault _ _ _ _) c.put_name-old_left.ensures.left in
    let in_right = c.scope_row-in_right.ensures.fault ∙ ap (row_fault _ _ _ _) (c.put_name-old_right.ensures.left ∙ ap (with_name _) kept) in record { fault = rw (c.in-Case.is, form_fuel _ _ c.requires, case_within) (c.min-in-Case-2.ensures ∙ ap₂ min c.use_of-here.ensures (c.min-in-Case.ensures ∙ ap₂ min in_left in_right)); undone = put_back _ _ _ c.put_name-old_right.ensures.was c.put_name-old_right.ensures.left c.scope_row-in_right.ensures.undone c.put_name-in-Case-2.ensures.left ∙ kept }

pub scope_row-returns-then-r-from : goal.scope_row-returns-then-r-from
scope_row-returns-then-r-from t c = record { fault = sym (scope_before _ _ _ _ _ c.if-r-from.true); undone = refl }

pub scope_row-returns-then-rows-r : goal.scope_row-returns-then-rows-r
scope_row-returns-then-rows-r t c = record { fault = sym (scope_past _ _ _ _ _ c.if-r-from.false c.if-rows-r.true); undone = refl }

pub scope_row-returns-in-Result : goal.scope_row-returns-in-Result
scope_row-returns-in-Result t c =
    record { fault = rw (scope_within _ _ _ _ _ c.if-r-from.false c.if-rows-r.false, sym c.row_at.ensures ∙ c.in-Result.is) c.use_of.ensures; undone = refl }

pub scope_row-returns-in-Bind : goal.scope_row-returns-in-Bind
scope_row-returns-in-Bind t c =
    let kept = put_back _ _ _ c.put_name-old.ensures.was c.put_name-old.ensures.left c.scope_row-below.ensures.undone c.put_name.ensures.left in
    let here = c.scope_form-here.ensures.fault ∙ ap (form_fault _ _ _ _) kept in
    let below = c.scope_row-below.ensures.fault ∙ ap (row_fault _ _ _ _) c.put_name-old.ensures.left in record { fault = rw (scope_within _ _ _ _ _ c.if-r-from.false c.if-rows-r.false, sym c.row_at.ensures ∙ c.in-Bind.is) (c.min.ensures ∙ ap₂ min here below); undone = c.scope_form-here.ensures.undone ∙ kept }
