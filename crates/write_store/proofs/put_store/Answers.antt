-- The five writes, one after the other, are the parts of the document's text (`stored_parts`).
use native.Mathlib.Omega.{arith}
use Prim.Native.Nat.{ℕ}
use mathlib.Core.Path.{◌≡◌}
use lib.ListN.{length}
use Rattle.format.specs.Print.{header, document_text}
use Rattle.format.specs.Text.{Bytes, ascii}
use Rattle.calls.specs.Layout.{store_size, rows_size, comms_start, claims_start}
use Rattle.store.specs.Document.{store_document}
use Rattle.write_bytes.specs.Write.{Room}
use Rattle.write_bytes.proofs.Writing.{then, room_first, room_then}
use Rattle.write_store.proofs.Parts.{behind_keyed, behind-length, parts_text, stored_parts}
use Rattle.write_store.proofs.put_store.Goals as goal

room : (rows : ℕ) (store : Bytes) {out : Bytes} → length store ≡ store_size → Room out 0 (document_text (store_document rows store)) → Room out 0 (parts_text rows store)
room rows store h r = rw (stored_parts rows store h) at r

pub put_word-a-requires : goal.put_word-a-requires
unfolding header ascii
put_word-a-requires c = room_first _ _ (room c.args.rows c.args.store.now c.requires.store_len c.requires.room)

pub put_rows-b-requires : goal.put_rows-b-requires
unfolding header ascii
put_rows-b-requires c = record { store_size_in_bounds = omega (arith, c.requires.store_len); room = room_first _ _ (room_then _ c.put_word-a.ensures (room c.args.rows c.args.store.now c.requires.store_len c.requires.room)) }

pub put_sets-c-requires : goal.put_sets-c-requires
unfolding header ascii
put_sets-c-requires c = record { sets_size_in_bounds = omega (arith, behind-length rows_size c.args.store.now, c.requires.store_len); keyed = behind_keyed rows_size c.args.store.now c.args.names.now c.requires.store_keys.flows; room = room_first _ _ (room_then _ c.put_rows-b.ensures (room_then _ c.put_word-a.ensures (room c.args.rows c.args.store.now c.requires.store_len c.requires.room))) }

pub put_sets-d-requires : goal.put_sets-d-requires
unfolding header ascii
put_sets-d-requires c = record { sets_size_in_bounds = omega (arith, behind-length comms_start c.args.store.now, c.requires.store_len); keyed = behind_keyed comms_start c.args.store.now c.args.chans.now c.requires.store_keys.comms; room = room_first _ _ (room_then _ c.put_sets-c.ensures (room_then _ c.put_rows-b.ensures (room_then _ c.put_word-a.ensures (room c.args.rows c.args.store.now c.requires.store_len c.requires.room)))) }

pub put_claims-requires : goal.put_claims-requires
unfolding header ascii
put_claims-requires c = record { codes_len_bound = omega (arith, behind-length claims_start c.args.store.now, c.requires.store_len); room = room_then _ c.put_sets-d.ensures (room_then _ c.put_sets-c.ensures (room_then _ c.put_rows-b.ensures (room_then _ c.put_word-a.ensures (room c.args.rows c.args.store.now c.requires.store_len c.requires.room)))) }

pub returns : goal.returns
unfolding header ascii
returns c = rw (stored_parts _ _ c.requires.store_len) (then c.put_word-a.ensures (then c.put_rows-b.ensures (then c.put_sets-c.ensures (then c.put_sets-d.ensures c.put_claims.ensures))))
