-- `write` meets its contract: 20 to 22 of the store, then 23, then the text.
use Rattle.std.proofs.lemmas.Result.{err_from_is_err_and}
use native.Mathlib.Omega.{arith}
use mathlib.Core.Path.{sym}
use Rattle.opening.proofs.Opening.{fixed_size, opens_long}
use Rattle.call_write.proofs.Keys.{few_rows, store_keys}
use Rattle.call_write.proofs.Texts.{text_room, refused_store, no_room, whole_text}
use Rattle.call_write.proofs.write.Goals as goal

pub slice_bounds-fixed-end : goal.slice_bounds-fixed-end
slice_bounds-fixed-end c = sym (fixed_size _ _ c.in_ok-rows.ensures)

pub chan_rows-chans-requires : goal.chan_rows-chans-requires
chan_rows-chans-requires c = few_rows _ _ c.in_ok-rows.ensures

pub document_length-length-requires : goal.document_length-length-requires
document_length-length-requires c = record { store_size_in_bounds = opens_long _ _ c.in_ok-rows.ensures; store_keys = store_keys _ _ c.in_ok-rows.ensures _ _ c.bound-names.ensures c.chan_rows-chans.ensures (omega arith) }

pub returns-then-out-length : goal.returns-then-out-length
returns-then-out-length c = rw c.at.ensures (no_room _ _ _ _ c.in_ok-rows.ensures c.document_length-length.ensures c.if-out-length.true)

pub put_document-requires : goal.put_document-requires
put_document-requires c = record { store_size_in_bounds = opens_long _ _ c.in_ok-rows.ensures; store_keys = store_keys _ _ c.in_ok-rows.ensures _ _ c.bound-names.ensures c.chan_rows-chans.ensures (omega arith); room = text_room c.document_length-length.ensures c.if-out-length.false }

pub returns-in_err-rows : goal.returns-in_err-rows
returns-in_err-rows c = let p = err_from_is_err_and c.from_residual.result c.from_residual.ensures.1 in rw (p.1, p.2) (refused_store _ _ _ c.in_err-rows.ensures)

pub returns : goal.returns
returns c = whole_text _ _ _ _ _ _ c.in_ok-rows.ensures c.document_length-length.ensures c.if-out-length.false c.put_document.ensures
