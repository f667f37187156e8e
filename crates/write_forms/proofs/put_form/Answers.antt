-- The three writes, one after the other, are the parts of the form's text (`form_text_lem`).
use native.Mathlib.Omega.{arith}
use mathlib.Core.Path.{sym}
use lib.Seq.{length-take-le}
use Rattle.format.specs.Text.{ascii}
use Rattle.write_bytes.proofs.Writing.{then, room_first, room_then}
use Rattle.write_forms.proofs.Words.{form_text_lem, arity_few}
use Rattle.write_forms.proofs.put_form.Goals as goal

pub put_word-p-requires : goal.put_word-p-requires
put_word-p-requires c =
    rw c.kind_word.ensures (room_first _ _ (rw (form_text_lem c.args.kind c.args.numbers.now c.requires.numbers_len) at c.requires.room))

pub slice_bounds-put_arguments-end : goal.slice_bounds-put_arguments-end
slice_bounds-put_arguments-end c =
    sym (length-take-le c.arity-count.result c.args.numbers.now (omega (arith, c.arity-count.ensures, arity_few c.args.kind, c.requires.numbers_len)))

pub put_arguments-q-requires : goal.put_arguments-q-requires
put_arguments-q-requires c =
    rw c.arity-count.ensures (room_first _ _ (room_then _ (rw c.kind_word.ensures at c.put_word-p.ensures) (rw (form_text_lem c.args.kind c.args.numbers.now c.requires.numbers_len) at c.requires.room)))

pub put_byte-requires : goal.put_byte-requires
unfolding ascii
put_byte-requires c =
    room_then _ (rw c.arity-count.ensures at c.put_arguments-q.ensures)
    (room_then _ (rw c.kind_word.ensures at c.put_word-p.ensures) (rw (form_text_lem c.args.kind c.args.numbers.now c.requires.numbers_len) at c.requires.room))

pub returns : goal.returns
unfolding ascii
returns c =
    rw (form_text_lem c.args.kind c.args.numbers.now c.requires.numbers_len)
    (then (rw c.kind_word.ensures at c.put_word-p.ensures) (then (rw c.arity-count.ensures at c.put_arguments-q.ensures) c.put_byte.ensures))
