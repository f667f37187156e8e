-- The sum is that of the parts of the document's text (`stored_sum`), which is short (`stored_short`).
use native.Mathlib.Omega.{arith}
use Rattle.write_store.proofs.Parts.{behind-length, behind_keyed}
use Rattle.calls.specs.Layout.{rows_size, comms_start}
use Rattle.format.specs.Text.{ascii}
use Rattle.text_lengths.proofs.Texts.{stored_sum, stored_short}
use Rattle.text_lengths.proofs.store_length.Goals as goal

pub sets_length-flows-requires : goal.sets_length-flows-requires
sets_length-flows-requires c = record { word_len_bound = omega arith; sets_size_in_bounds = omega (arith, behind-length rows_size c.args.store.now, c.requires.store_len); keyed = behind_keyed rows_size c.args.store.now c.args.names.now c.requires.store_keys.flows }

pub sets_length-comms-requires : goal.sets_length-comms-requires
sets_length-comms-requires c = record { word_len_bound = omega arith; sets_size_in_bounds = omega (arith, behind-length comms_start c.args.store.now, c.requires.store_len); keyed = behind_keyed comms_start c.args.store.now c.args.chans.now c.requires.store_keys.comms }

pub overflow_add-result : goal.overflow_add-result
unfolding ascii
overflow_add-result c = omega (arith, stored_sum c.args.rows c.args.store.now c.requires.store_len, stored_short c.args.rows c.args.store.now c.requires.store_len c.ranges.rows.fits, c.rows_length-lines.ensures, c.sets_length-flows.ensures, c.sets_length-comms.ensures, c.claims_length-claims.ensures)

pub overflow_add-result-2 : goal.overflow_add-result-2
unfolding ascii
overflow_add-result-2 c = omega (arith, stored_sum c.args.rows c.args.store.now c.requires.store_len, stored_short c.args.rows c.args.store.now c.requires.store_len c.ranges.rows.fits, c.rows_length-lines.ensures, c.sets_length-flows.ensures, c.sets_length-comms.ensures, c.claims_length-claims.ensures)

pub overflow_add-result-3 : goal.overflow_add-result-3
unfolding ascii
overflow_add-result-3 c = omega (arith, stored_sum c.args.rows c.args.store.now c.requires.store_len, stored_short c.args.rows c.args.store.now c.requires.store_len c.ranges.rows.fits, c.rows_length-lines.ensures, c.sets_length-flows.ensures, c.sets_length-comms.ensures, c.claims_length-claims.ensures)

pub overflow_add-result-4 : goal.overflow_add-result-4
unfolding ascii
overflow_add-result-4 c = omega (arith, stored_sum c.args.rows c.args.store.now c.requires.store_len, stored_short c.args.rows c.args.store.now c.requires.store_len c.ranges.rows.fits, c.rows_length-lines.ensures, c.sets_length-flows.ensures, c.sets_length-comms.ensures, c.claims_length-claims.ensures)

pub returns : goal.returns
unfolding ascii
returns c = omega (arith, stored_sum c.args.rows c.args.store.now c.requires.store_len, stored_short c.args.rows c.args.store.now c.requires.store_len c.ranges.rows.fits, c.rows_length-lines.ensures, c.sets_length-flows.ensures, c.sets_length-comms.ensures, c.claims_length-claims.ensures)
