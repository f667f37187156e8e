-- The flags tell what may be named, and the tests are tried in their order.
use mathlib.Core.Bool.{false≢true}
use mathlib.Core.Path.{sym, ◌∙◌}
use Rattle.sound_lines.proofs.Lines.{flows_fail, comms_fail, claims_decide}
use Rattle.sound_lines.proofs.lines_sound.Goals.{then-sets_sound, else-sets_sound}
use Rattle.sound_lines.proofs.lines_sound.Goals as goal

pub returns-then-sets_sound-2 : goal.returns-then-sets_sound-2
returns-then-sets_sound-2 c =
    elim c.if-sets_sound.branch [
      | then-sets_sound w ↦ claims_decide c.args.rows c.args.store.now c.requires.marks.tells c.chan_rows-chans.ensures c.allowed_members-members.ensures c.sets_sound.ensures w.if-sets_sound.true w.sets_sound-then-sets_sound.ensures (sym w.value-is ∙ c.if-sets_sound-2.true) c.claims_within.ensures
      | else-sets_sound w ↦ absurd (false≢true (sym w.if-sets_sound.false ∙ sym w.value-is ∙ c.if-sets_sound-2.true))
    ]

pub returns-else-sets_sound-2 : goal.returns-else-sets_sound-2
returns-else-sets_sound-2 c =
    elim c.if-sets_sound.branch [
      | then-sets_sound w ↦ c.if-sets_sound-2.false ∙ comms_fail c.args.rows c.args.store.now c.requires.marks.tells c.chan_rows-chans.ensures c.allowed_members-members.ensures c.sets_sound.ensures w.if-sets_sound.true w.sets_sound-then-sets_sound.ensures (sym w.value-is ∙ c.if-sets_sound-2.false)
      | else-sets_sound w ↦ c.if-sets_sound-2.false ∙ flows_fail c.args.rows c.args.store.now c.requires.marks.tells c.chan_rows-chans.ensures c.allowed_members-members.ensures c.sets_sound.ensures w.if-sets_sound.false
    ]
