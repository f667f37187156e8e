-- The kinds of the forms, 2 to 15, as places of a table.
use Rattle.std.specs.Prelude.{ℕ, ◌-◌, ltb}
use Rattle.program.specs.Test.{pick}

-- the place of a kind's form, in the order of docs/FORMAT.md; a number that is no form's kind counts as apply
unfoldable pub form_place : ℕ → ℕ
form_place k = pick (ltb k 2) 13 (pick (ltb 15 k) 13 (k - 2))
