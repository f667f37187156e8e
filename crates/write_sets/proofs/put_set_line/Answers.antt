-- An empty set has no line. Of any other set the writes, one after the other, are the parts of its line (`one_entry`).
use mathlib.Core.Path.{sym, ◌∙◌}
use Rattle.program.specs.Each.{collect}
use Rattle.format.proofs.Rising.{present_cases}
use Rattle.format.specs.Text.{ascii}
use Rattle.calls.specs.Layout.{with_entry}
use Rattle.write_bytes.proofs.Writing.{nothing, then, room_first, room_then}
use Rattle.write_sets.proofs.Parts.{one_entry}
use Rattle.write_text.proofs.Head.{room_head, room_behind, then_behind}
use Rattle.write_sets.proofs.put_set_line.Goals as goal

pub returns-then-not-has_member : goal.returns-then-not-has_member
unfolding collect with_entry
returns-then-not-has_member c = rw (present_cases _ (sym c.has_member.ensures ∙ c.if-not-has_member.true)) nothing

pub put_head-p-requires : goal.put_head-p-requires
put_head-p-requires c =
    room_head _ _ _ (rw (one_entry _ _ _ (sym c.has_member.ensures ∙ c.if-not-has_member.false)) at c.requires.room)

pub put_set-q-requires : goal.put_set-q-requires
put_set-q-requires c =
    record {
      flags_len_bound = c.requires.flags_len_bound;
      so = sym c.has_member.ensures ∙ c.if-not-has_member.false;
      room = room_first _ _
          (room_behind _ _ _ c.put_head-p.ensures (rw (one_entry _ _ _ (sym c.has_member.ensures ∙ c.if-not-has_member.false)) at c.requires.room));
    }

pub put_word-requires : goal.put_word-requires
unfolding ascii
put_word-requires c =
    room_then _ c.put_set-q.ensures
    (room_behind _ _ _ c.put_head-p.ensures (rw (one_entry _ _ _ (sym c.has_member.ensures ∙ c.if-not-has_member.false)) at c.requires.room))

pub returns : goal.returns
unfolding ascii
returns c =
    rw (one_entry _ _ _ (sym c.has_member.ensures ∙ c.if-not-has_member.false))
    (then_behind _ _ _ c.put_head-p.ensures (then c.put_set-q.ensures c.put_word.ensures))
