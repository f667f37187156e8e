-- `claim_line` meets its contract: the claims stand behind the rows, the flow lines and the comm lines.
use native.Mathlib.Omega.{arith}
use Rattle.judging.proofs.Documents.{few_rows, flows_few, comms_few, line_is}
use Rattle.judging.proofs.claim_line.Goals as goal

pub overflow_add-behind : goal.overflow_add-behind
overflow_add-behind c =
    omega (arith, flows_few _ _ c.requires.rows_value c.requires.store_len c.count_sets-flows.ensures)

pub overflow_add-result : goal.overflow_add-result
overflow_add-result c =
    let flows = flows_few _ _ c.requires.rows_value c.requires.store_len c.count_sets-flows.ensures in
    let comms = comms_few _ _ c.requires.rows_value c.requires.store_len c.count_sets-comms.ensures in
    omega (arith, flows, comms)

pub returns : goal.returns
returns c =
    let first = c.count_sets-flows.ensures in
    let second = c.count_sets-comms.ensures in
    let flows = flows_few _ _ c.requires.rows_value c.requires.store_len first in
    let comms = comms_few _ _ c.requires.rows_value c.requires.store_len second in
    (line_is _ _ c.requires.rows_value c.requires.store_len first second, omega (arith, few_rows _ _ c.requires.rows_value, flows, comms))
