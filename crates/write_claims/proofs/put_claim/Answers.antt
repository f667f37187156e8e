-- A code of 0 has no line. Of any other code the writes, one after the other, are the parts of the claim's line (`one_claim`).
use Rattle.program.specs.Each.{collect}
use Rattle.format.specs.Print.{line_text}
use Rattle.format.specs.Text.{ascii}
use Rattle.calls.specs.Layout.{decode_claims}
use Rattle.write_bytes.proofs.Writing.{nothing, then, room_first, room_then}
use Rattle.write_text.proofs.Head.{room_head, room_behind, then_behind}
use Rattle.write_claims.proofs.Claims.{one_claim}
use Rattle.write_claims.proofs.put_claim.Goals as goal

pub returns-then-code-eq0 : goal.returns-then-code-eq0
unfolding collect decode_claims
returns-then-code-eq0 c = rw c.if-code-eq0.true nothing

pub put_head-p-requires : goal.put_head-p-requires
unfolding line_text ascii
put_head-p-requires c = room_head _ _ _ (rw (one_claim _ _ c.if-code-eq0.false) at c.requires)

pub put_word-q-requires : goal.put_word-q-requires
unfolding line_text ascii
put_word-q-requires c =
    rw (c.word_text.ensures, c.word_of.ensures) (room_first _ _ (room_behind _ _ _ c.put_head-p.ensures (rw (one_claim _ _ c.if-code-eq0.false) at c.requires)))

pub put_word-requires : goal.put_word-requires
unfolding line_text ascii
put_word-requires c =
    room_then _ (rw (c.word_text.ensures, c.word_of.ensures) at c.put_word-q.ensures) (room_behind _ _ _ c.put_head-p.ensures (rw (one_claim _ _ c.if-code-eq0.false) at c.requires))

pub returns : goal.returns
unfolding line_text ascii
returns c =
    rw (one_claim _ _ c.if-code-eq0.false) (then_behind _ _ _ c.put_head-p.ensures (then (rw (c.word_text.ensures, c.word_of.ensures) at c.put_word-q.ensures) c.put_word.ensures))
